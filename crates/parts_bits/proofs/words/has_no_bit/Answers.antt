use Rattle.parts_bits.proofs.WordBits.{clear_zero, zero_clear}
use Rattle.parts_bits.proofs.words.has_no_bit.Goals as goal

pub returns : goal.returns
returns c = (zero_clear c.args.word, clear_zero c.args.word c.ranges.word.fits)
