use Rattle.std.proofs.Common.{◌<◌, length, ℕ}
use Rattle.kernel_texts.specs.Rows.{thread_fact_of}
use Rattle.kernel_texts.specs.Short.{HasShortText}
use Rattle.kernel_texts.specs.declared.rows.ThreadRow.{ThreadRow}
use Rattle.kernel_looks.proofs.BareRows.{each_inner}
use Rattle.kernel_looks.proofs.Looking.{went_both}
use Rattle.kernel_looks.proofs.look_threads.look_at_inner_rows_in_full.Goals as goal

pub returns-clause-kept : goal.returns-clause-kept
returns-clause-kept c =
    went_both _ _ _ _ _ _ _ _ (went_both _ _ _ _ _ _ _ _ (went_both _ _ _ _ _ _ _ _
    c.look_at_thread_row.ensures.kept c.look_at_thread_row-2.ensures.kept) c.look_at_thread_row-3.ensures.kept) c.look_at_thread_row-4.ensures.kept

pub returns-clause-short : goal.returns-clause-short
returns-clause-short c =
    let m = c.args.parts.now.machine in
    each_inner (λ (row : ThreadRow). (t : ℕ) → t < length m.threads → HasShortText c.args.decls.now (thread_fact_of row m t))
    c.look_at_thread_row.ensures.short c.look_at_thread_row-2.ensures.short c.look_at_thread_row-3.ensures.short c.look_at_thread_row-4.ensures.short
