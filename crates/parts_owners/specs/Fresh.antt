-- The links before anything has happened.
use Rattle.std.specs.Prelude.{List, None, map, replicate, ℕ}
use Rattle.rules_machine.specs.State.{Mutex}
use Rattle.rules_machine.specs.Priorities.{Claim}
use Rattle.parts_owners.specs.declared.claims.MutexKind.{MutexKind}
use Rattle.parts_owners.specs.Chains.{Links}

abbrev pub fresh_claim : Claim
fresh_claim = record { assigned = 1; awaited = None }

abbrev pub free_mutex : MutexKind → Mutex
free_mutex kind = record { protocol = kind.protocol; is_recursive = kind.is_recursive; owner = None; count = 0 }

abbrev pub fresh : ℕ → List MutexKind → Links
fresh threads kinds = record { claims = replicate threads fresh_claim; mutexes = map free_mutex kinds }
