use Rattle.std.proofs.Common.{List, Some, ap, ◌∙◌}
use Rattle.rules_machine.specs.State.{Timer}
use Rattle.kernel_table.specs.Table.{with_timer}
use Rattle.kernel_table.proofs.TimerChanges.{expiring_armed, reading_kept}
use Rattle.kernel_table.proofs.ToldMoves.{table_with}
use Rattle.kernel_table.proofs.table.Table.time_expiry.Goals as goal

pub reset-requires-clause-numbers : goal.reset-requires-clause-numbers
reset-requires-clause-numbers c = c.self.invariant.armed.numbers

pub invariant_of-self : goal.invariant_of-self
invariant_of-self c =
    let s = c.self.inside in
    let new = c.set_due.new.self in
    let known = rw (← c.self.view_is) at c.requires.known in
    record {
      tied = c.self.invariant.tied;
      armed = expiring_armed s.threads s.timers new s.wheel.dues _ c.args.k (λ (x : Timer). record x { due = Some c.args.at }) known c.set_due.ensures c.reset.ensures c.self.invariant.armed;
      kept = reading_kept s.threads s.timers new s.real_waits s.real_expiries c.args.k c.args.at known c.set_due.ensures (rw (← c.self.view_is) at c.requires.real) c.self.invariant.kept;
    }

pub returns : goal.returns
returns c =
    let s = c.self.inside in
    ap (λ (ts : List Timer). table_with ts s.threads s.chain) c.set_due.ensures ∙ ap (with_timer c.args.k (λ (x : Timer). record x { due = Some c.args.at })) c.self.view_is
