use Rattle.std.proofs.Common.{[], ◌-◌, ◌∷◌}
use Rattle.std.specs.Prelude.{codes, decimal}
use Rattle.kernel_texts.specs.Kept.{KeptIn, kept_below}
use Rattle.kernel_texts.specs.Subjects.{about}
use Rattle.kernel_subjects.proofs.subjects.keep_list_subjects.Given as goal

abbrev pub invariant-loop-below : goal.invariant-loop-below
invariant-loop-below l = KeptIn l.initial.next l.next l.initial.texts l.texts (kept_below (λ i. about (codes "list") (decimal (255 - i)) ∷ []) l.below)
