use Rattle.std.proofs.Common.{◌≡◌, ◌+◌, ◌-◌, length, drop}
use Rattle.tool_check.specs.Difference.{common_len}
use Rattle.tool_check.proofs.difference.common_len.Given as goal

abbrev pub invariant-loop-at : goal.invariant-loop-at
invariant-loop-at l = l.at + common_len (drop l.at l.have) (drop l.at l.want) ≡ common_len l.have l.want

abbrev pub decreases-loop-at : goal.decreases-loop-at
decreases-loop-at l = length l.have - l.at
