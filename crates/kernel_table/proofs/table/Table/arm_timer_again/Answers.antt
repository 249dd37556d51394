use Rattle.std.proofs.Common.{ℕ, Option, List, ap, ◌∙◌, ◌+◌, arith, slice_set}
use Rattle.rules_machine.specs.State.{Timer}
use Rattle.rules_machine.specs.Timers.{armed_again}
use Rattle.kernel_table.specs.Table.{with_timer}
use Rattle.kernel_table.proofs.TimerChanges.{again_unread, expiring_armed, turned_kept}
use Rattle.kernel_table.proofs.ToldMoves.{table_with}
use Rattle.kernel_table.proofs.table.Table.arm_timer_again.Goals as goal

pub set_expiry-requires-clause-timer : goal.set_expiry-requires-clause-timer
set_expiry-requires-clause-timer c = omega (arith, rw (← c.self.view_is) at c.requires.known, c.self.invariant.armed.few_timers)

pub set_expiry-requires-clause-numbers : goal.set_expiry-requires-clause-numbers
set_expiry-requires-clause-numbers c = c.self.invariant.armed.numbers

pub invariant_of-self : goal.invariant_of-self
invariant_of-self c =
    let s = c.self.inside in
    let new = c.arm_again-due.new.self in
    let change = armed_again c.args.now in
    let known = rw (← c.self.view_is) at c.requires.known in
    record {
      tied = c.self.invariant.tied;
      armed = expiring_armed s.threads s.timers new s.wheel.dues _ c.args.k change known c.arm_again-due.ensures.timers
          (c.set_expiry.ensures ∙ ap (λ (due : Option ℕ). slice_set s.wheel.dues (768 + c.args.k) due) c.arm_again-due.ensures.value) c.self.invariant.armed;
      kept = turned_kept s.threads s.timers new s.real_waits s.real_expiries _ c.args.k change _ c.arm_again-due.ensures.timers (again_unread s.timers new c.args.k c.args.now known c.arm_again-due.ensures.timers)
          c.drop_expiry.ensures c.self.invariant.kept;
    }

pub returns : goal.returns
returns c =
    let s = c.self.inside in
    ap (λ (ts : List Timer). table_with ts s.threads s.chain) c.arm_again-due.ensures.timers ∙ ap (with_timer c.args.k (armed_again c.args.now)) c.self.view_is
