use Rattle.kernel_texts.proofs.Keeping.{kept_printed}
use Rattle.kernel_subjects.proofs.subjects.keep_words.Goals as goal

pub returns : goal.returns
returns c = kept_printed _ _ _ _ c.clear.ensures _ _ _ c.print_words-failed.ensures c.keep.ensures
