use Rattle.std.proofs.Common.{drop, ◌≡◌}
use Rattle.parts_owners.specs.Chains.{asked_in, prio_in}
use Rattle.parts_owners.proofs.Asked.{best_from}
use Rattle.parts_owners.proofs.equations.asked.Given as goal

abbrev pub invariant-loop-k : goal.invariant-loop-k
invariant-loop-k l = best_from (prio_in l.exec) l.claims l.t l.k l.best (drop l.k l.mutexes) ≡ asked_in l.claims l.mutexes (prio_in l.exec) l.t
