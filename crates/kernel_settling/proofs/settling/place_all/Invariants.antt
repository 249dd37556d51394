use Rattle.std.proofs.Common.{◌-◌, length}
use Rattle.kernel_settling.proofs.SettlingSteps.{Placing}
use Rattle.kernel_settling.proofs.settling.place_all.Given as goal

abbrev pub invariant-loop-t : goal.invariant-loop-t
invariant-loop-t l = Placing l.fn.p l.p l.from

abbrev pub decreases-loop-t : goal.decreases-loop-t
decreases-loop-t l = length l.p.names - l.from
