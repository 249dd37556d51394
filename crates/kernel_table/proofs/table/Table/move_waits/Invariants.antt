use Rattle.std.proofs.Common.{◌-◌}
use Rattle.kernel_table.specs.Settings.{move_of}
use Rattle.kernel_table.proofs.Passes.{MovedBelow}
use Rattle.kernel_table.proofs.table.Table.move_waits.Given as goal

abbrev pub invariant-loop-t : goal.invariant-loop-t
invariant-loop-t l = MovedBelow (move_of l.set) l.fn.self l.self l.from

abbrev pub decreases-loop-t : goal.decreases-loop-t
decreases-loop-t l = 256 - l.from
