use Rattle.parts_ready.proofs.Words.{no_bit, none_above, top_bit, zeros_few}
use Rattle.parts_ready.proofs.bitmap.highest_bit.Goals as goal

pub overflow_sub-result : goal.overflow_sub-result
overflow_sub-result c = zeros_few c.args.word c.ranges.word.fits

pub returns-clause-none : goal.returns-clause-none
returns-clause-none c = no_bit c.args.word

pub returns-clause-itself : goal.returns-clause-itself
returns-clause-itself c = top_bit c.args.word c.ranges.word.fits

pub returns-clause-above : goal.returns-clause-above
returns-clause-above c = none_above c.args.word c.ranges.word.fits
