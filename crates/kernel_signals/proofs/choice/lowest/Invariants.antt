use Rattle.kernel_signals.proofs.Asking.{HasCome, left_from}
use Rattle.kernel_signals.proofs.choice.lowest.Given as goal

abbrev pub invariant-loop-at : goal.invariant-loop-at
invariant-loop-at l = HasCome l.t l.fn.set l.records l.arrivals.order l.at

abbrev pub decreases-loop-at : goal.decreases-loop-at
decreases-loop-at l = left_from l.at
