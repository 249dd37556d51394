use Rattle.calls_items.proofs.Midway.{Visited}
use Rattle.calls_items.proofs.sweeps.visit_all.Given as goal

abbrev pub invariant-loop-number : goal.invariant-loop-number
invariant-loop-number g l = Visited g.K.Sink.text g.K.Sink.faults l.initial.p l.p l.number l.initial.out l.out
