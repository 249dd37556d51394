use Rattle.kernel_texts.proofs.Keeping.{kept_both}
use Rattle.kernel_subjects.proofs.subjects.keep_thread_subjects.Goals as goal

pub returns : goal.returns
returns c =
    kept_both _ _ _ _ _ _ _ _ (kept_both _ _ _ _ _ _ _ _ (kept_both _ _ _ _ _ _ _ _ (kept_both _ _ _ _ _ _ _ _ (kept_both _ _ _ _ _ _ _ _
    c.keep_thread_row.ensures c.keep_thread_row-2.ensures) c.keep_thread_row-3.ensures) c.keep_thread_row-4.ensures) c.keep_thread_row-5.ensures) c.keep_thread_row-6.ensures
