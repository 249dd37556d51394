use Rattle.std.proofs.Common.{w64}
use Rattle.std.proofs.lemmas.Nat.Bits.{bit_at_clear_same}
use Rattle.parts_bits.proofs.WordBits.{cleared}
use Rattle.parts_bits.proofs.words.without_bit.Goals as goal

pub returns-clause-itself : goal.returns-clause-itself
returns-clause-itself c = bit_at_clear_same w64 c.args.word c.args.bit c.requires

pub returns-clause-others : goal.returns-clause-others
returns-clause-others c = λ k other. cleared c.args.word c.args.bit k c.requires c.ranges.word.fits other
