use Rattle.std.proofs.Common.{List, subst, ◌∙◌}
use Rattle.words_script.specs.declared.decl.Decl.{Decl}
use Rattle.kernel_texts.specs.Kept.{KeptIn}
use Rattle.kernel_texts.specs.Subjects.{object_subjects}
use Rattle.kernel_texts.proofs.Keeping.{kept_both}
use Rattle.kernel_subjects.proofs.subjects.keep_object_subjects.Goals as goal

pub returns : goal.returns
returns c =
    subst (λ (decls : List Decl). KeptIn c.args.next.now c.keep_object_row-3.new.next c.args.texts.now c.keep_object_row-3.new.texts (object_subjects decls c.args.parts.now.machine)) (c.of.ensures ∙ c.items.ensures)
    (kept_both _ _ _ _ _ _ _ _ (kept_both _ _ _ _ _ _ _ _ (kept_both _ _ _ _ _ _ _ _ (kept_both _ _ _ _ _ _ _ _
    c.keep_lock_subjects.ensures c.keep_object_row.ensures) c.keep_queue_subjects.ensures) c.keep_object_row-2.ensures) c.keep_object_row-3.ensures)
