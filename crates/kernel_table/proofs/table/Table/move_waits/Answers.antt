use Rattle.std.proofs.Common.{ap, sym, ◌∙◌}
use Rattle.rules_bodies.specs.declared.cursor.Cursor.{Cursor}
use Rattle.rules_machine.specs.State.{Thread}
use Rattle.kernel_threads.specs.RealDues.{real_due_in}
use Rattle.kernel_table.specs.Settings.{move_of}
use Rattle.kernel_table.proofs.Passes.{thread_ahead, wait_moved, waits_moved}
use Rattle.kernel_table.proofs.table.Table.move_waits.Goals as goal

pub move_wait-requires-clause-modest : goal.move_wait-requires-clause-modest
move_wait-requires-clause-modest c = λ at e.
    let t = c.in-Some.t in
    let here = thread_ahead (move_of c.args.set.now) c.args.self.now c.loop-t.self c.loop-t.from c.loop-t.invariant t c.in-Some.ensures.first.low in
    c.requires.modest t at (sym (ap (λ (th : Thread Cursor). real_due_in th.status) here) ∙ e)

pub loop-t-preserved : goal.loop-t-preserved
loop-t-preserved c =
    rw c.get-from.ensures.value
    (wait_moved (move_of c.args.set.now) c.args.self.now c.loop-t.self c.loop-t.from c.loop-t.invariant c.move_wait.new.self c.in-Some.t c.in-Some.ensures.first c.move_wait.ensures)

pub returns : goal.returns
returns c = waits_moved (move_of c.args.set.now) c.args.self.now c.loop-t.self c.loop-t.from c.loop-t.invariant c.in_default.ensures.first
