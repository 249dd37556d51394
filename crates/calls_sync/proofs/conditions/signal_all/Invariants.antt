use Rattle.calls_sync.proofs.WaitersLeft.{Broadcasting, left}
use Rattle.calls_sync.proofs.conditions.signal_all.Given as goal

abbrev pub invariant-loop-w : goal.invariant-loop-w
invariant-loop-w g l = Broadcasting g.K.Sink.text g.K.Sink.faults l.c l.initial.p l.p l.initial.out l.out

abbrev pub decreases-loop-w : goal.decreases-loop-w
decreases-loop-w g l = left l.c l.p.machine
