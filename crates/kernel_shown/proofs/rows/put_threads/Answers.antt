use Rattle.script_printer.proofs.Puts.{puts_both}
use Rattle.kernel_shown.proofs.rows.put_threads.Goals as goal

pub returns : goal.returns
returns g c =
    puts_both _ _ _ _ _ _ _ (puts_both _ _ _ _ _ _ _ (puts_both _ _ _ _ _ _ _ (puts_both _ _ _ _ _ _ _ (puts_both _ _ _ _ _ _ _
    c.put_thread_row.ensures c.put_thread_row-2.ensures) c.put_thread_row-3.ensures) c.put_thread_row-4.ensures) c.put_thread_row-5.ensures) c.put_thread_row-6.ensures
