-- What the chain does to the places of waiters as a claim or an owner changes.
use Rattle.std.specs.Prelude.{◌≡◌, ◌<◌, ℕ, IsSome, List, None, Option, Some, false, length, slice_set}
use Rattle.rules_machine.specs.Conditions.{released_mutex}
use Rattle.rules_machine.specs.State.{Wait}
use Rattle.parts_waiters.specs.Ties.{object_of, place_at}
use Rattle.parts_waiters.specs.declared.Place.{Place}
use Rattle.parts_owners.specs.Chains.{Links, closes_cycle_in, exec_of, mutex_at}
use Rattle.parts_owners.specs.declared.walk.Moved.{Moved}
use Rattle.parts_owners.specs.Moves.{IsPlaced, SamePlaces, StandsAt, TellsMoved}

-- each thread stands where it stood, at its new priority
pub record ArePriced (new : Links) (before after : List (Option Place)) : Type 0 where
  pub same : SamePlaces before after
  pub stand : StandsAt (exec_of new) after

-- a thread of the links, whose waiters stand in those places
pub record CanRelink (links : Links) (places : List (Option Place)) (t : ℕ) : Type 0 where
  pub known : t < length links.claims
  pub placed : IsPlaced links places

-- the links become these, the waiters stand as in those places, each at its new priority, and the one thread that stands nowhere and whose
-- priority changed is told
pub record Relinks (links : Links) (places : List (Option Place)) (old new : Links) (after : List (Option Place)) (result : Option Moved) : Type 0 where
  pub chain : new ≡ links
  pub waits : ArePriced new places after
  pub placed : IsPlaced new after
  pub moved : TellsMoved (length old.claims) (exec_of old) (exec_of new) after result

-- the place of a thread that begins to wait at its execution priority
abbrev pub beginning : Links → ℕ → Wait → ℕ → Option Place
beginning chain t wait serial = place_at (exec_of chain t) serial (released_mutex wait) (object_of wait)

abbrev pub begun : Links → ℕ → Wait → ℕ → List (Option Place) → List (Option Place)
begun chain t wait serial places = slice_set places t (beginning chain t wait serial)

-- a mutex that is to be awaited is owned, and to await it closes no cycle
abbrev pub MayAwait : Links → ℕ → Option ℕ → Type 0
MayAwait chain t None = Unit {0}
MayAwait chain t (Some k) = (k < length chain.mutexes) × IsSome (mutex_at chain k).owner × (closes_cycle_in chain.claims chain.mutexes t k ≡ false)
