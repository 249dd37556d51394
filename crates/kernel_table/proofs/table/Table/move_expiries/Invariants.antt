use Rattle.std.proofs.Common.{◌-◌}
use Rattle.kernel_table.specs.Settings.{move_of}
use Rattle.kernel_table.proofs.Passes.{ExpiriesMoved}
use Rattle.kernel_table.proofs.table.Table.move_expiries.Given as goal

abbrev pub invariant-loop-k : goal.invariant-loop-k
invariant-loop-k l = ExpiriesMoved (move_of l.set) l.fn.self l.self l.from

abbrev pub decreases-loop-k : goal.decreases-loop-k
decreases-loop-k l = 256 - l.from
