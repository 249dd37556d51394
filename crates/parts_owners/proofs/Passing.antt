-- A plain mutex goes from its owner to a thread that waits for it: it is free, the thread waits no more, and takes it.
use Rattle.std.proofs.Common.{List, None, Option, Some, ap, arith, length, refl, true, ℕ, ◌<◌, ◌≡◌, ◌∙◌}
use Rattle.std.specs.Prelude.{option_and_then}
use Rattle.std.proofs.lemmas.List.{get_or-set_same, length-set}
use Rattle.words_script.specs.declared.policy.Protocol.{Protocol}
use Rattle.words_script.specs.declared.policy.Protocol.TheVariants as protocol
use Rattle.rules_machine.specs.Mutexes.{freed, taken_by}
use Rattle.rules_machine.specs.State.{Mutex}
use Rattle.rules_machine.specs.Threads.{mutex_in, no_mutex}
use Rattle.rules_machine.specs.Priorities.{assigned_in}
use Rattle.parts_waiters.specs.declared.Place.{Place}
use Rattle.parts_waiters.specs.declared.WaitObj.TheVariants as wait_obj
use Rattle.parts_waiters.specs.Places.{best_of}
use Rattle.parts_owners.specs.Chains.{Links, Settled, asked_in, awaited_in, next_in, prio_in, raises_nobody, with_mutex}
use Rattle.parts_owners.specs.Moves.{Changes, IsPlaced, MayPass, Passes, freed_at, left, parted_at}
use Rattle.parts_owners.proofs.AtOnce.{gets_no_more}
use Rattle.parts_owners.proofs.Begun.{begins_freed, begins_left, begins_taken}
use Rattle.parts_owners.proofs.Done.{Begins, cached_is}
use Rattle.parts_owners.proofs.OneMutex.{freed_same, nothing_changes, still_settled, taken_same}
use Rattle.parts_owners.proofs.Parting.{none_now, parted_same}

raises : (p : Protocol) (first : Option ℕ) → p ≡ protocol.Plain → raises_nobody p first ≡ true
raises p first plain = rw plain refl

module _ (s : Links) (exec : List ℕ) (k owner t : ℕ) (places : List (Option Place)) (settled : Settled s exec) (placed : IsPlaced s places)
    (known : t < length s.claims) (lt : k < length s.mutexes) (owned : (mutex_in s.mutexes k).owner ≡ Some owner) (may : MayPass s k owner t) where
  abbrev one : Links
  one = freed_at k s

  abbrev two : Links
  two = parted_at k t s

  abbrev three : Links
  three = with_mutex k (taken_by t) two

  -- ---- it is free

  low : prio_in exec owner ≡ assigned_in s.claims s.mutexes owner
  low = cached_is s exec settled.free settled.owners settled.right owner (settled.owners.each k owner owned) ∙ may.low

  begins_one : Begins s one exec owner places
  begins_one = begins_freed s exec k owner places lt settled placed owned

  same_one : prio_in exec owner ≡ asked_in one.claims one.mutexes (prio_in exec) owner
  same_one = freed_same s exec k owner (settled.owners.each k owner owned) lt settled low

  changes_one : Changes s one places places None
  changes_one = nothing_changes s one exec owner places begins_one same_one

  settled_one : Settled one exec
  settled_one = still_settled s one exec owner places begins_one same_one

  here : mutex_in one.mutexes k ≡ freed (mutex_in s.mutexes k)
  here = get_or-set_same s.mutexes k (freed (mutex_in s.mutexes k)) no_mutex lt

  free : (mutex_in one.mutexes k).owner ≡ None
  free = ap (λ (m : Mutex). m.owner) here

  -- ---- the thread waits no more

  no_owner : next_in one.claims one.mutexes t ≡ None
  no_owner = ap (option_and_then (λ (j : ℕ). (mutex_in one.mutexes j).owner)) may.waits ∙ free

  begins_two : Begins one two exec t (left t places)
  begins_two = begins_left one exec t k t places known settled_one changes_one.placed may.waits (rw no_owner refl)

  same_two : prio_in exec t ≡ asked_in two.claims two.mutexes (prio_in exec) t
  same_two = parted_same one exec t k known may.waits no_owner settled_one

  changes_two : Changes one two (left t places) (left t places) None
  changes_two = nothing_changes one two exec t (left t places) begins_two same_two

  settled_two : Settled two exec
  settled_two = still_settled one two exec t (left t places) begins_two same_two

  -- ---- it takes the mutex

  known_two : t < length two.claims
  known_two = begins_two.known

  lt_two : k < length two.mutexes
  lt_two = omega (arith, lt, length-set s.mutexes k (freed (mutex_in s.mutexes k)))

  plain_two : (mutex_in two.mutexes k).protocol ≡ protocol.Plain
  plain_two = ap (λ (m : Mutex). m.protocol) here ∙ may.plain

  waits_not : awaited_in two.claims t ≡ None
  waits_not = none_now one exec t k known may.waits no_owner

  same_three : prio_in exec t ≡ asked_in three.claims three.mutexes (prio_in exec) t
  same_three =
      taken_same two exec k t known_two lt_two settled_two free
      (gets_no_more two exec k t (left t places) settled_two changes_two.placed lt_two (raises (mutex_in two.mutexes k).protocol (best_of (wait_obj.Mutex k) (left t places)) plain_two))

  begins_three : Begins two three exec t (left t places)
  begins_three = begins_taken two exec k t (left t places) known_two lt_two settled_two changes_two.placed free waits_not

  pub settled_passed : Settled three exec
  settled_passed = still_settled two three exec t (left t places) begins_three same_three

  pub passes : Passes k t s three places (left t places)
  passes = record {
    chain = refl;
    freed = changes_one;
    parted = changes_two;
    taken = nothing_changes two three exec t (left t places) begins_three same_three;
  }
