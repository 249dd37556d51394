use Rattle.kernel_texts.specs.Kept.{KeptIn}
use Rattle.kernel_texts.specs.Subjects.{queue_subjects}
use Rattle.kernel_subjects.proofs.subjects.keep_queue_subjects.Given as goal

abbrev pub invariant-loop-number : goal.invariant-loop-number
invariant-loop-number l = KeptIn l.initial.next l.next l.initial.texts l.texts (queue_subjects l.decls l.number)
