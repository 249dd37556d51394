use Rattle.std.proofs.Common.{List, ap, refl, ◌∙◌}
use Rattle.rules_machine.specs.State.{Timer}
use Rattle.rules_machine.specs.Timers.{armed}
use Rattle.kernel_table.specs.Table.{with_timer}
use Rattle.kernel_table.proofs.TimerChanges.{expiring_armed, turned_kept}
use Rattle.kernel_table.proofs.ToldMoves.{table_with}
use Rattle.kernel_table.proofs.table.Table.set_timer.Goals as goal

pub reset-requires-clause-numbers : goal.reset-requires-clause-numbers
reset-requires-clause-numbers c = c.self.invariant.armed.numbers

pub invariant_of-self : goal.invariant_of-self
invariant_of-self c =
    let s = c.self.inside in
    let new = c.set_timer.new.self in
    let change = armed c.args.due c.args.is_reading c.args.interval in
    let known = rw (← c.self.view_is) at c.requires.known in
    record {
      tied = c.self.invariant.tied;
      armed = expiring_armed s.threads s.timers new s.wheel.dues _ c.args.k change known c.set_timer.ensures c.reset.ensures c.self.invariant.armed;
      kept = turned_kept s.threads s.timers new s.real_waits s.real_expiries _ c.args.k change _ c.set_timer.ensures refl c.keep_expiry.ensures c.self.invariant.kept;
    }

pub returns : goal.returns
returns c =
    let s = c.self.inside in
    ap (λ (ts : List Timer). table_with ts s.threads s.chain) c.set_timer.ensures ∙ ap (with_timer c.args.k (armed c.args.due c.args.is_reading c.args.interval)) c.self.view_is
