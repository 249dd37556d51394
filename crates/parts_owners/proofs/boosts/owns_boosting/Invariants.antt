use Rattle.std.proofs.Common.{drop, ◌≡◌}
use Rattle.parts_owners.proofs.Owned.{owns_one}
use Rattle.parts_owners.proofs.boosts.owns_boosting.Given as goal

abbrev pub invariant-loop-k : goal.invariant-loop-k
invariant-loop-k l = owns_one l.t (drop l.k-index l.mutexes) ≡ owns_one l.t l.mutexes
