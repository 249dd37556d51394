use Rattle.std.proofs.Common.{length, ◌-◌, ◌≡◌}
use Rattle.std.specs.Prelude.{IfSome, ◌<◌}
use Rattle.parts_owners.specs.Chains.{closes_cycle_in, leads_from}
use Rattle.parts_owners.proofs.claims.leads_to.Given as goal

abbrev pub invariant-loop : goal.invariant-loop
invariant-loop l =
    (leads_from l.claims l.mutexes (length l.claims - l.counter) l.owner l.t ≡ closes_cycle_in l.claims l.mutexes l.t l.fn.k)
    × IfSome l.owner (λ u. u < length l.claims)
