use Rattle.std.proofs.Common.{List, ap, length, sym, ◌∙◌}
use Rattle.rules_machine.specs.State.{Timer}
use Rattle.kernel_timers.specs.Timers.{timer_in}
use Rattle.kernel_table.specs.Settings.{move_of, threads_moved, timer_real_due, timers_moved}
use Rattle.kernel_table.specs.Table.{Table, exec}
use Rattle.kernel_table.proofs.SetTimes.{timers_keep, timers_same}
use Rattle.kernel_table.proofs.table.Table.move_times.Goals as goal

pub move_expiries-requires-clause-modest : goal.move_expiries-requires-clause-modest
move_expiries-requires-clause-modest c = λ k at e.
    let now = c.args.self.now in
    let same = ap (λ (x : Table). x.timers) c.move_waits.ensures.table ∙ timers_same (move_of c.args.set.now) (length now.threads) now in
    c.requires.timers k at (sym (ap (λ (ks : List Timer). timer_real_due (timer_in ks k)) same) ∙ e)

pub returns : goal.returns
returns c =
    let now = c.args.self.now in
    let mid = c.move_waits.new.self in
    let move = move_of c.args.set.now in
    record {
      table = c.move_expiries.ensures ∙ ap (λ (x : Table). timers_moved move (length x.timers) x) c.move_waits.ensures.table
          ∙ ap (λ (ks : List Timer). timers_moved move (length ks) (threads_moved move (length now.threads) now)) (timers_same move (length now.threads) now);
      same = λ u lt. ap (λ (x : Table). exec x u) c.move_expiries.ensures ∙ timers_keep move (length mid.timers) u mid ∙ c.move_waits.ensures.same u lt;
    }
