use Rattle.kernel_table.specs.Opening.{AreAssigned}
use Rattle.kernel_table.proofs.open.assign_all.Given as goal

abbrev pub invariant-loop-number : goal.invariant-loop-number
invariant-loop-number l = AreAssigned l.initial.threads l.number l.initial.chain.mutexes l.chain l.waits
