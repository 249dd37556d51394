-- A table before anything has happened: the first threads' claims are in the chain, and the others have priority 1 there.
use Rattle.std.specs.Prelude.{◌≡◌, ◌-◌, ◌++◌, ℕ, List, None, Option, length, replicate, take}
use Rattle.rules_bodies.specs.declared.cursor.Cursor.{Cursor}
use Rattle.rules_machine.specs.Priorities.{claims as claims_of}
use Rattle.rules_machine.specs.State.{Mutex, Thread}
use Rattle.rules_machine.specs.Threads.{thread_in, waiting_in}
use Rattle.parts_waiters.specs.declared.Place.{Place}
use Rattle.parts_waiters.specs.Places.{place_in}
use Rattle.parts_owners.specs.Chains.{Links}
use Rattle.parts_owners.specs.Fresh.{fresh_claim}
use Rattle.parts_owners.specs.Moves.{IsPlaced}

-- no thread waits
abbrev pub NoneWaits : List (Thread Cursor) → Type 0
NoneWaits threads = (t : ℕ) → waiting_in (thread_in threads t).status ≡ None

pub record AreAssigned (threads : List (Thread Cursor)) (n : ℕ) (owned : List Mutex) (chain : Links) (places : List (Option Place)) : Type 0 where
  pub claims : chain.claims ≡ take n (claims_of threads) ++ replicate (length threads - n) fresh_claim
  pub mutexes : chain.mutexes ≡ owned
  pub nowhere : (t : ℕ) → place_in places t ≡ None
  pub placed : IsPlaced chain places
