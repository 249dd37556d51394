use Rattle.std.proofs.Common.{arith}
use Rattle.parts_bytes.proofs.Pairs.{placed_by_pair}
use Rattle.parts_bytes.proofs.digits.place_four.Goals as goal

pub returns-clause-placed : goal.returns-clause-placed
returns-clause-placed c =
    placed_by_pair c.args.n (omega (arith, c.if-n-lt100.false)) c.ranges.n.fits c.place_two-at.ensures.placed c.place_pair.ensures
