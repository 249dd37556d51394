use Rattle.std.proofs.Common.{[], ◌∷◌}
use Rattle.std.specs.Prelude.{codes}
use Rattle.words_numbers.specs.Words.{signal_word}
use Rattle.kernel_texts.specs.Kept.{KeptIn, kept_below}
use Rattle.kernel_texts.specs.Subjects.{about}
use Rattle.kernel_subjects.proofs.subjects.keep_signal_subjects.Given as goal

abbrev pub invariant-loop-signal : goal.invariant-loop-signal
invariant-loop-signal l = KeptIn l.initial.next l.next l.initial.texts l.texts (kept_below (λ s. about (codes "signal") (signal_word s) ∷ []) l.signal)
