use Rattle.std.proofs.Common.{map, take, ◌≡◌}
use Rattle.parts_owners.specs.Fresh.{free_mutex}
use Rattle.parts_owners.proofs.claims.free_mutexes.Given as goal

abbrev pub invariant-loop-kind : goal.invariant-loop-kind
invariant-loop-kind l = l.mutexes.items ≡ map free_mutex (take l.kind-index l.kinds)
