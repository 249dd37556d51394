use Rattle.laws_detail.proofs.Subjects.{subjects_same}
use Rattle.laws_detail.proofs.facts_keep_their_subjects.Goals as goal

pub returns : goal.returns
returns c = subjects_same
