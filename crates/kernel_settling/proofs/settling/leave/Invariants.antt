use Rattle.std.proofs.Common.{◌-◌, length}
use Rattle.kernel_settling.proofs.SettlingSteps.{Leaving}
use Rattle.kernel_settling.proofs.settling.leave.Given as goal

abbrev pub invariant-loop-t : goal.invariant-loop-t
invariant-loop-t l = Leaving l.fn.p l.p l.from

abbrev pub decreases-loop-t : goal.decreases-loop-t
decreases-loop-t l = length l.p.names - l.from
