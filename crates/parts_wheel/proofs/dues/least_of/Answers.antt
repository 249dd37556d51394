use Rattle.parts_wheel.proofs.Least.{so_far_all}
use Rattle.parts_wheel.proofs.dues.least_of.Goals as goal

pub returns : goal.returns
returns c = so_far_all c.args.dues.now c.loop-at.at c.loop-at.least c.loop-at-test.false c.loop-at.invariant
