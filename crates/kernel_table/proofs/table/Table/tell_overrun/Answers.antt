use Rattle.std.proofs.Common.{List, ap, refl, ◌∙◌}
use Rattle.rules_machine.specs.Signals.{with_overrun_told}
use Rattle.rules_machine.specs.State.{Timer}
use Rattle.kernel_table.specs.Table.{with_timer}
use Rattle.kernel_table.proofs.RealItems.{still_kept_timer}
use Rattle.kernel_table.proofs.TimerChanges.{still_armed_timer}
use Rattle.kernel_table.proofs.ToldMoves.{table_with}
use Rattle.kernel_table.proofs.table.Table.tell_overrun.Goals as goal

pub invariant_of-self : goal.invariant_of-self
invariant_of-self c = let s = c.self.inside in record {
  tied = c.self.invariant.tied;
  armed = rw c.tell_overrun.ensures (still_armed_timer s.threads s.timers s.wheel.dues c.args.k with_overrun_told (λ x. refl) c.self.invariant.armed);
  kept = rw c.tell_overrun.ensures (still_kept_timer s.threads s.timers s.real_waits s.real_expiries c.args.k with_overrun_told (λ x. refl) c.self.invariant.kept);
}

pub returns : goal.returns
returns c =
    let s = c.self.inside in
    ap (λ (ts : List Timer). table_with ts s.threads s.chain) c.tell_overrun.ensures ∙ ap (with_timer c.args.k with_overrun_told) c.self.view_is
