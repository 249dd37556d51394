use Rattle.std.proofs.Common.{replicate, ◌≡◌}
use Rattle.parts_owners.specs.Fresh.{fresh_claim}
use Rattle.parts_owners.proofs.claims.fresh_claims.Given as goal

abbrev pub invariant-loop : goal.invariant-loop
invariant-loop l = l.claims.items ≡ replicate l.counter fresh_claim
