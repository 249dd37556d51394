use Rattle.std.proofs.Common.{w64}
use Rattle.std.proofs.lemmas.Nat.Bits.{bit_at-trailing_zeros}
use Rattle.parts_wheel.proofs.bits.lowest_bit.Goals as goal

pub returns-clause-small : goal.returns-clause-small
returns-clause-small c = (bit_at-trailing_zeros w64 c.args.word c.requires c.ranges.word.fits).0

pub returns-clause-is_set : goal.returns-clause-is_set
returns-clause-is_set c = (bit_at-trailing_zeros w64 c.args.word c.requires c.ranges.word.fits).1

pub returns-clause-below : goal.returns-clause-below
returns-clause-below c = (bit_at-trailing_zeros w64 c.args.word c.requires c.ranges.word.fits).2
