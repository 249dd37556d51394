-- What a change of priorities does to the places of those that wait, and what is told of it.
use Rattle.std.specs.Prelude.{IfSome, List, None, Option, Some, length, option_map, slice_set, ℕ, ◌≡◌, ◌≢◌, ◌<◌}
use Rattle.words_script.specs.declared.policy.Protocol.TheVariants as protocol
use Rattle.rules_machine.specs.Mutexes.{freed, taken_by}
use Rattle.rules_machine.specs.Priorities.{Claim}
use Rattle.parts_waiters.specs.declared.Place.{Place}
use Rattle.parts_waiters.specs.declared.WaitObj.{WaitObj}
use Rattle.parts_waiters.specs.declared.WaitObj.TheVariants.{Mutex}
use Rattle.parts_waiters.specs.Places.{place_in}
use Rattle.parts_owners.specs.declared.walk.Moved.{Moved}
use Rattle.parts_owners.specs.Chains.{ArePriorities, ChainsEnd, Links, OwnersAreThreads, SolvesBut, assigned_at, awaited_in, exec_of, mutex_at, prio_in, waiting_for, with_claim, with_mutex}

-- each thread that waits stands there with its priority
pub record StandsAt (e : ℕ → ℕ) (places : List (Option Place)) : Type 0 where
  pub each : (t : ℕ) → IfSome (place_in places t) (λ (p : Place). p.priority ≡ e t)

-- a place but for its priority
abbrev pub unpriced : Place → Place
unpriced p = record p { priority = 0 }

-- each thread waits for what it waited for, since the same serial
pub record SamePlaces (old new : List (Option Place)) : Type 0 where
  pub length : length new ≡ length old
  pub each : (t : ℕ) → option_map unpriced (place_in new t) ≡ option_map unpriced (place_in old t)

-- a thread that waits nowhere, whose priority changed, and that no other such one did
pub record HasMoved (threads : ℕ) (e f : ℕ → ℕ) (places : List (Option Place)) (m : Moved) : Type 0 where
  pub known : m.thread < threads
  pub nowhere : place_in places m.thread ≡ None
  pub before : m.before ≡ e m.thread
  pub after : m.after ≡ f m.thread
  pub changed : m.before ≢ m.after
  pub others : (t : ℕ) → t < threads → place_in places t ≡ None → t ≢ m.thread → f t ≡ e t

-- what is told of a change: the thread that waits nowhere and whose priority changed, and None exactly where there is none
abbrev pub TellsMoved : ℕ → (ℕ → ℕ) → (ℕ → ℕ) → List (Option Place) → Option Moved → Type 0
TellsMoved threads e f places None = (t : ℕ) → t < threads → place_in places t ≡ None → f t ≡ e t
TellsMoved threads e f places (Some m) = HasMoved threads e f places m

-- the mutex that a thread waits for at its place
abbrev pub mutex_named : WaitObj → Option ℕ
mutex_named (Mutex k) = Some k
mutex_named obj = None

abbrev pub mutex_placed : Option Place → Option ℕ
mutex_placed None = None
mutex_placed (Some p) = mutex_named p.object

-- the threads wait for the mutexes at which they stand
pub record WaitersStand (claims : List Claim) (places : List (Option Place)) : Type 0 where
  pub each : (t : ℕ) → awaited_in claims t ≡ mutex_placed (place_in places t)

-- each thread that waits stands there with its execution priority
pub record IsPlaced (s : Links) (places : List (Option Place)) : Type 0 where
  pub lengths : length places ≡ length s.claims
  pub stand : StandsAt (exec_of s) places
  pub waiters : WaitersStand s.claims places

-- what every change of the links does
pub record Changes (old new : Links) (before after : List (Option Place)) (result : Option Moved) : Type 0 where
  pub placed : IsPlaced new after
  pub same : SamePlaces before after
  pub moved : TellsMoved (length old.claims) (exec_of old) (exec_of new) after result

-- the places when a thread has begun to wait for a mutex, at its execution priority
abbrev pub entered : ℕ → ℕ → ℕ → Links → List (Option Place) → List (Option Place)
entered t k serial s places = slice_set places t (Some (record { object = Mutex k; priority = exec_of s t; serial = serial; released = 0 }))

-- the places when a thread waits no more
abbrev pub left : ℕ → List (Option Place) → List (Option Place)
left t places = slice_set places t None

-- a mutex that lends nothing and has no ceiling, whose owner has its assigned priority, and which the thread waits for
pub record MayPass (s : Links) (k owner t : ℕ) : Type 0 where
  pub low : exec_of s owner ≡ assigned_at s owner
  pub plain : (mutex_at s k).protocol ≡ protocol.Plain
  pub waits : awaited_in s.claims t ≡ Some k

-- the links where nobody owns the mutex, and where the thread does not wait for it either
abbrev pub freed_at : ℕ → Links → Links
freed_at k s = with_mutex k freed s

abbrev pub parted_at : ℕ → ℕ → Links → Links
parted_at k t s = with_claim t (waiting_for None) (freed_at k s)

-- a mutex goes from its owner to a thread that waited for it: it is free, the thread waits no more, and owns it; no priority changes
pub record Passes (k t : ℕ) (old new : Links) (before after : List (Option Place)) : Type 0 where
  pub chain : new ≡ with_mutex k (taken_by t) (parted_at k t old)
  pub freed : Changes old (freed_at k old) before before None
  pub parted : Changes (freed_at k old) (parted_at k t old) (left t before) after None
  pub taken : Changes (parted_at k t old) new after after None

-- the equations hold but maybe at one thread, and all else is in order
pub record MayWalk (s : Links) (exec : List ℕ) (start : ℕ) (places : List (Option Place)) : Type 0 where
  pub known : start < length s.claims
  pub each : length exec ≡ length s.claims
  pub counted : length places ≡ length s.claims
  pub end : ChainsEnd s.claims s.mutexes
  pub owners : OwnersAreThreads s.claims s.mutexes
  pub right : SolvesBut s.claims s.mutexes start (prio_in exec)
  pub waiters : WaitersStand s.claims places
  pub stand : StandsAt (prio_in exec) places
  pub fits : ArePriorities exec
