-- What contracts see of a claim and of a mutex.
use Rattle.rules_machine.specs.State.{Mutex}
use Rattle.rules_machine.specs.Priorities.{Claim}
use Rattle.parts_owners.specs.declared.claims.MutexState.TheInside.{Inside as MutexInside}
use Rattle.parts_owners.specs.declared.claims.ThreadClaim.TheInside.{Inside as ClaimInside}

abbrev pub claim_of : ClaimInside → Claim
claim_of c = record { assigned = c.assigned; awaited = c.awaited }

abbrev pub mutex_of : MutexInside → Mutex
mutex_of m = record { protocol = m.protocol; is_recursive = m.is_recursive; owner = m.owner; count = m.count }
