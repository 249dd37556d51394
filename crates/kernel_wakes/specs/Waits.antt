-- What holds of the threads that wait.
use Rattle.std.specs.Prelude.{◌≡◌, ◌<◌, ℕ, [], None, Option, Some, length, true}
use Rattle.rules_machine.specs.GoodState.{is_in_condition_wait}
use Rattle.rules_machine.specs.Mutexes.{owned_by, waits_for_mutex}
use Rattle.rules_machine.specs.State.{Machine, Wait, Waiting, for_condition}
use Rattle.rules_machine.specs.Threads.{is_blocked, thread_at, waiting_of}
use Rattle.rules_machine.specs.Waiters.{waits_so}
use Rattle.kernel_threads.specs.Unused.{IsUnused}

-- the mutex of a condition wait is one of so many
abbrev pub KnowsMutex : ℕ → Wait → Type 0
KnowsMutex mutexes (for_condition c k) = k < mutexes
KnowsMutex mutexes other = Unit {0}

abbrev pub WaitKnowsMutex : ℕ → Option Waiting → Type 0
WaitKnowsMutex mutexes None = Unit {0}
WaitKnowsMutex mutexes (Some w) = KnowsMutex mutexes w.wait

-- whatever thread waits
abbrev pub WaitsKnowMutexes : {P : Type 0} → Machine P → Type 0
WaitsKnowMutexes m = (t : ℕ) → WaitKnowsMutex (length m.mutexes) (waiting_of m t)

-- the server of a thread that waits has consumed nothing that is not planned
abbrev pub BlockedRest : {P : Type 0} → Machine P → Type 0
BlockedRest m = (u : ℕ) → is_blocked (thread_at m u).status ≡ true → IsUnused (thread_at m u).server

abbrev pub OwnsNone : {P : Type 0} → Machine P → ℕ → Type 0
OwnsNone m t = owned_by m t ≡ []

-- a thread in a condition wait, or after it without its mutex, owns none
abbrev pub WaitersOwnNone : {P : Type 0} → Machine P → Type 0
WaitersOwnNone m = (t : ℕ) → waits_so is_in_condition_wait (thread_at m t) ≡ true → owned_by m t ≡ []

-- the server of a thread that waits for this mutex has consumed nothing that is not planned
abbrev pub MutexWaitersRest : {P : Type 0} → Machine P → ℕ → Type 0
MutexWaitersRest m k = (u : ℕ) (w : Waiting) → waiting_of m u ≡ Some w → waits_for_mutex k w.wait ≡ true → IsUnused (thread_at m u).server

-- what the calls of conditions may count on
pub record WaitsFit {P : Type 0} (m : Machine P) : Type 0 where
  pub mutexes : WaitsKnowMutexes m
  pub rests : BlockedRest m
  pub own_none : WaitersOwnNone m
