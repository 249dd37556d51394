use Rattle.std.proofs.Common.{◌-◌, ◌≤◌}
use Rattle.parts_links.specs.Block.{IsOpened}
use Rattle.parts_links.proofs.block.fill.Given as goal

abbrev pub invariant-loop-number : goal.invariant-loop-number
invariant-loop-number l = (l.number ≤ l.count) × IsOpened l.base.ptr l.cells l.count l.number

abbrev pub decreases-loop-number : goal.decreases-loop-number
decreases-loop-number l = l.count - l.number
