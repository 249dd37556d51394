use Rattle.std.proofs.Common.{arith}
use Rattle.parts_arrivals.proofs.Words.{highest_of_word}
use Rattle.parts_arrivals.proofs.marks.highest_mark.Goals as goal

pub returns : goal.returns
returns c = highest_of_word c.args.marks (omega arith) c.ranges.marks.fits
