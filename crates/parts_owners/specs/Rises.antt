-- What an owner is asked for, where all that may have changed is what it gets through one mutex, and that is no less than before.
use Rattle.std.specs.Prelude.{List, max, ℕ, ◌≡◌}
use Rattle.rules_machine.specs.Priorities.{Claim}
use Rattle.rules_machine.specs.State.{Mutex}
use Rattle.rules_machine.specs.Threads.{mutex_in}
use Rattle.parts_owners.specs.Chains.{asked_in, through_in}

-- what it has, or what it gets through that mutex
abbrev pub RisesThrough : List Claim → List Mutex → (ℕ → ℕ) → ℕ → ℕ → Type 0
RisesThrough claims mutexes e k t = asked_in claims mutexes e t ≡ max (e t) (through_in claims e t k (mutex_in mutexes k))
