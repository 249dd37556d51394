use Rattle.std.proofs.Common.{drop, map, max, ◌≡◌}
use Rattle.rules_machine.specs.Lists.{greatest}
use Rattle.parts_owners.specs.Chains.{prio_in, waiters_in}
use Rattle.parts_owners.proofs.Asked.{waiters_from}
use Rattle.parts_owners.proofs.equations.raised_by_all.Given as goal

abbrev pub invariant-loop-u : goal.invariant-loop-u
invariant-loop-u l =
    max l.best (greatest (map (prio_in l.exec) (waiters_from l.u l.k (drop l.u l.claims))))
    ≡ max l.fn.start (greatest (map (prio_in l.exec) (waiters_in l.claims l.k)))
