use Rattle.words_script.specs.declared.name_kind.NameKind.TheVariants as kind
use Rattle.kernel_texts.specs.Kept.{KeptIn}
use Rattle.kernel_texts.specs.Subjects.{named_row}
use Rattle.kernel_subjects.proofs.subjects.keep_thread_row.Given as goal

abbrev pub invariant-loop-number : goal.invariant-loop-number
invariant-loop-number l = KeptIn l.initial.next l.next l.initial.texts l.texts (named_row l.decls l.keyword kind.Thread l.number)
