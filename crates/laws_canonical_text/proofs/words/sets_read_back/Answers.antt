use Rattle.std.proofs.Common.{arith}
use Rattle.laws_canonical_text.proofs.Sets.{set_of-set_word}
use Rattle.laws_canonical_text.proofs.words.sets_read_back.Goals as goal

pub returns : goal.returns
returns c = set_of-set_word c.args.set (omega (arith, c.bits.ensures))
