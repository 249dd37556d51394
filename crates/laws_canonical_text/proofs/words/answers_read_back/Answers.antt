use Rattle.laws_canonical_text.proofs.Answers.{answer_of-res_text}
use Rattle.laws_canonical_text.proofs.words.answers_read_back.Goals as goal

pub returns : goal.returns
returns c = answer_of-res_text c.args.res
