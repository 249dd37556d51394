use Rattle.std.proofs.Common.{drop, length, ◌+◌, ◌≡◌, ◌≤◌}
use Rattle.parts_owners.proofs.Owned.{owned_in}
use Rattle.parts_owners.proofs.boosts.owned_count.Given as goal

abbrev pub invariant-loop-k : goal.invariant-loop-k
invariant-loop-k l = (l.count + length (owned_in l.t (drop l.k-index l.mutexes)) ≡ length (owned_in l.t l.mutexes)) × (l.count ≤ l.k-index)
