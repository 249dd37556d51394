use Rattle.rules_machine.proofs.Coming.{coming}
use Rattle.kernel_leaps.proofs.Halfway.{Halfway}
use Rattle.kernel_leaps.proofs.instant.do_instant.Given as goal

abbrev pub invariant-items : goal.invariant-items
invariant-items g l = Halfway g.K.Sink.text g.K.Sink.faults l.initial.p l.p l.initial.out l.out

abbrev pub decreases-items : goal.decreases-items
decreases-items g l = coming l.p.machine
