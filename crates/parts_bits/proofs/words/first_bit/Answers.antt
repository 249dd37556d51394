use Rattle.std.proofs.Common.{arith}
use Rattle.parts_bits.proofs.WordBits.{above, below, first_is, none_is}
use Rattle.parts_bits.proofs.words.first_bit.Goals as goal

pub returns-then-from-ge64-clause-first : goal.returns-then-from-ge64-clause-first
returns-then-from-ge64-clause-first c = λ k low. above c.args.word k c.ranges.word.fits (omega (arith, low))

pub returns-then-rest-eq0-clause-first : goal.returns-then-rest-eq0-clause-first
returns-then-rest-eq0-clause-first c = λ k low. none_is c.args.word c.args.from k c.if-rest-eq0.true low

pub returns-clause-first : goal.returns-clause-first
returns-clause-first c = first_is c.args.word c.args.from c.if-rest-eq0.false c.ranges.word.fits

pub returns-clause-small : goal.returns-clause-small
returns-clause-small c = below c.args.word _ (first_is c.args.word c.args.from c.if-rest-eq0.false c.ranges.word.fits).itself c.ranges.word.fits
