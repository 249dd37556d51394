use Rattle.std.proofs.Common.{◌++◌, ◌<◌, List, ap, length, refl, subst, ℕ}
use Rattle.kernel_texts.specs.Rows.{thread_fact_of}
use Rattle.kernel_texts.specs.Short.{HasShortText}
use Rattle.kernel_texts.specs.declared.rows.ThreadRow.{ThreadRow}
use Rattle.kernel_texts.specs.declared.rows.ThreadRow.TheVariants as thread
use Rattle.kernel_texts.specs.Kept.{thread_row_kept}
use Rattle.kernel_texts.proofs.ShortFacts.{each_thread_row}
use Rattle.kernel_looks.specs.Desk.{WentOn}
use Rattle.kernel_looks.proofs.BareRows.{four_behind}
use Rattle.kernel_looks.proofs.Looking.{went_both}
use Rattle.kernel_looks.proofs.look_threads.look_at_threads.Goals as goal

pub returns-clause-kept : goal.returns-clause-kept
returns-clause-kept c =
    let row = λ (r : ThreadRow). thread_row_kept c.args.decls.now r c.args.parts.now.machine in
    subst (WentOn c.args.next.now c.look_at_plans.new.next c.args.desk.now c.look_at_plans.new.desk)
    (ap (λ (rows : List (List ℕ)). rows ++ row thread.Pending) (four_behind (row thread.Status) (row thread.Frames) (row thread.Mask) (row thread.Cancelability) (row thread.Cleanups)))
    (went_both _ _ _ _ _ _ _ _ (went_both _ _ _ _ _ _ _ _ c.look_at_statuses.ensures.kept c.look_at_inner_rows.ensures.kept) c.look_at_plans.ensures.kept)

pub returns-clause-short : goal.returns-clause-short
returns-clause-short c =
    let m = c.args.parts.now.machine in
    let inner = c.look_at_inner_rows.ensures.short in
    each_thread_row (λ (row : ThreadRow). (t : ℕ) → t < length m.threads → HasShortText c.args.decls.now (thread_fact_of row m t))
    c.look_at_statuses.ensures.short (inner thread.Frames refl) (inner thread.Mask refl) (inner thread.Cancelability refl) (inner thread.Cleanups refl) c.look_at_plans.ensures.short
