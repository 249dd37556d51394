use Rattle.std.proofs.Common.{List, subst, ◌<◌, ℕ, ◌∙◌}
use Rattle.words_script.specs.declared.decl.Decl.{Decl}
use Rattle.kernel_texts.specs.Rows.{object_count, object_facts}
use Rattle.kernel_texts.specs.Short.{HaveShortTexts}
use Rattle.kernel_texts.specs.declared.rows.ObjectRow.{ObjectRow}
use Rattle.kernel_texts.specs.Kept.{objects_kept}
use Rattle.kernel_texts.proofs.ShortFacts.{both_short, each_object_row}
use Rattle.kernel_looks.specs.Desk.{WentOn}
use Rattle.kernel_looks.proofs.Looking.{went_both}
use Rattle.kernel_looks.proofs.look.look_at_objects.Goals as goal

pub returns-clause-kept : goal.returns-clause-kept
returns-clause-kept c =
    subst (λ (decls : List Decl). WentOn c.args.next.now c.look_at_object_row-8.new.next c.args.desk.now c.look_at_object_row-8.new.desk (objects_kept decls c.args.parts.now.machine)) (c.of.ensures ∙ c.items.ensures)
    (went_both _ _ _ _ _ _ _ _ (went_both _ _ _ _ _ _ _ _ (went_both _ _ _ _ _ _ _ _ (went_both _ _ _ _ _ _ _ _ (went_both _ _ _ _ _ _ _ _ (went_both _ _ _ _ _ _ _ _ (went_both _ _ _ _ _ _ _ _ (went_both _ _ _ _ _ _ _ _
    c.look_at_object_row.ensures.kept c.look_at_object_row-2.ensures.kept) c.look_at_object_row-3.ensures.kept) c.look_at_object_row-4.ensures.kept) c.look_at_object_row-5.ensures.kept) c.look_at_object_row-6.ensures.kept)
    c.look_at_queue_waiters.ensures.kept) c.look_at_object_row-7.ensures.kept) c.look_at_object_row-8.ensures.kept)

pub returns-clause-short : goal.returns-clause-short
returns-clause-short c =
    let m = c.args.parts.now.machine in
    let ds = c.of.result in
    let rows = each_object_row (λ (row : ObjectRow). (k : ℕ) → k < object_count row ds m → HaveShortTexts ds (object_facts row m k))
    c.look_at_object_row.ensures.short c.look_at_object_row-2.ensures.short c.look_at_object_row-3.ensures.short c.look_at_object_row-4.ensures.short c.look_at_object_row-5.ensures.short c.look_at_object_row-6.ensures.short
    (λ k low. both_short ds m k) c.look_at_object_row-7.ensures.short c.look_at_object_row-8.ensures.short in
    subst (λ (decls : List Decl). (row : ObjectRow) → (k : ℕ) → k < object_count row decls m → HaveShortTexts decls (object_facts row m k)) (c.of.ensures ∙ c.items.ensures) rows
