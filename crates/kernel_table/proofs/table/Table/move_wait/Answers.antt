use Rattle.std.proofs.Common.{None, ap, refl, subst, sym, ◌∙◌, ◌≡◌}
use Rattle.rules_bodies.specs.declared.cursor.Cursor.{Cursor}
use Rattle.rules_machine.specs.State.{Thread}
use Rattle.kernel_threads.specs.RealDues.{real_due_in}
use Rattle.kernel_table.specs.Settings.{move_of}
use Rattle.kernel_table.specs.Table.{Table, thread_at}
use Rattle.kernel_table.proofs.SetTimes.{no_thread_moves}
use Rattle.kernel_table.proofs.table.Table.move_wait.Goals as goal

pub returns-in_default : goal.returns-in_default
returns-in_default c =
    let none = ap (λ (th : Thread Cursor). real_due_in th.status) (sym c.get.ensures) ∙ sym c.real_due.ensures ∙ c.in_default.is in
    record {
      table = sym (no_thread_moves (move_of c.args.set.now) c.args.t c.args.self.now (subst (λ (x : Table). real_due_in (thread_at x c.args.t).status ≡ None) c.self.view_is none));
      same = λ u lt. refl;
    }
