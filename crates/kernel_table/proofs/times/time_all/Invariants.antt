use Rattle.std.proofs.Common.{[], take}
use Rattle.kernel_table.specs.Tied.{AreArmed}
use Rattle.kernel_table.proofs.times.time_all.Given as goal

abbrev pub invariant-loop-number : goal.invariant-loop-number
invariant-loop-number l = AreArmed (take l.number l.threads) [] l.wheel.dues
