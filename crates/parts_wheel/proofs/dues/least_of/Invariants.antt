use Rattle.std.proofs.Common.{◌-◌, length}
use Rattle.parts_wheel.proofs.Least.{IsLeastSoFar}
use Rattle.parts_wheel.proofs.dues.least_of.Given as goal

abbrev pub invariant-loop-at : goal.invariant-loop-at
invariant-loop-at l = IsLeastSoFar l.dues l.at l.least

abbrev pub decreases-loop-at : goal.decreases-loop-at
decreases-loop-at l = length l.dues - l.at
