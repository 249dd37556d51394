-- Who waits for a condition with another mutex, told by the places of its waiters.
use Rattle.std.proofs.Common.{◌≡◌, ◌<◌, ◌∙◌, ℕ, zero, suc, Bool, true, false, List, [], ◌∷◌, Option, None, Some, ap, arith, length, refl, sym}
use Rattle.std.specs.Prelude.{not, ◌==◌, ◌&&◌, ◌||◌}
use Rattle.std.specs.List.{list_any}
use Rattle.std.specs.Option.{option_map_or}
use Rattle.rules_bodies.specs.declared.cursor.Cursor.{Cursor}
use Rattle.rules_machine.specs.Conditions.{released_mutex, waits_with_other_mutex}
use Rattle.rules_machine.specs.Priorities.{claims, exec_in}
use Rattle.rules_machine.specs.State.{Thread, Wait, Waiting, for_condition, for_end, for_message, for_mutex, for_mutex_again, for_room, for_semaphore, for_signal, for_time}
use Rattle.rules_machine.specs.Threads.{thread_in, waiting_in}
use Rattle.rules_machine.specs.Waiters.{waits_so}
use Rattle.parts_waiters.specs.declared.Place.{Place}
use Rattle.parts_waiters.specs.declared.WaitObj.TheVariants.{Cond}
use Rattle.parts_waiters.specs.Bound.{WaitsElsewhere, waits_with_other}
use Rattle.parts_waiters.specs.Places.{place_in, waits_at}
use Rattle.parts_waiters.specs.Ties.{object_of, place_at, place_of}
use Rattle.parts_owners.specs.Chains.{Links}
use Rattle.kernel_table.specs.Tied.{IsTied}

-- ---- all threads

module _ (passes : Wait → Bool) where
  abbrev passing : List (Thread Cursor) → ℕ → Bool
  passing threads t = waits_so passes (thread_in threads t)

  or_more : (b c : Bool) → c ≡ true → (b || c) ≡ true
  or_more true c h = refl
  or_more false c h = h

  any_at : (threads : List (Thread Cursor)) (t : ℕ) → t < length threads → passing threads t ≡ true → list_any (waits_so passes) threads ≡ true
  any_at [] t lt h = absurd (omega (arith, lt))
  any_at (th ∷ threads) zero lt h = rw h refl
  any_at (th ∷ threads) (suc t) lt h = or_more (waits_so passes th) (list_any (waits_so passes) threads) (any_at threads t (omega (arith, lt)) h)

  any_gives : (threads : List (Thread Cursor)) → list_any (waits_so passes) threads ≡ true → (t : ℕ) × (t < length threads) × (passing threads t ≡ true)
  any_gives [] h = absurd cc
  any_gives (th ∷ threads) h = by_first (waits_so passes th) refl (λ (later : list_any (waits_so passes) threads ≡ true). any_gives threads later)
    where
      Gives : List (Thread Cursor) → Type 0
      Gives ths = (t : ℕ) × (t < length ths) × (passing ths t ≡ true)

      by_first : (b : Bool) → waits_so passes th ≡ b → (list_any (waits_so passes) threads ≡ true → Gives threads) → Gives (th ∷ threads)
      by_first true e more = (zero, omega arith, e)
      by_first false e more =
          let rest = more (rw e at h) in let lt = rest.1 in
          (suc rest.0, omega (arith, lt), rest.2)

-- ---- those that wait with another mutex are waiters of the condition

first_of : (a b : Bool) → (a && b) ≡ true → a ≡ true
first_of true b h = refl
first_of false b h = absurd cc

second_of : (a b : Bool) → (a && b) ≡ true → b ≡ true
second_of true b h = h
second_of false b h = absurd cc

both_of : (a b : Bool) → a ≡ true → b ≡ true → (a && b) ≡ true
both_of a b h g = rw h g

module _ (c k : ℕ) where
  abbrev Elsewhere : Option Place → Type 0
  Elsewhere o = (waits_at (Cond c) o ≡ true) × (waits_with_other k o ≡ true)

  by_wait : (n s : ℕ) (wait : Wait) → waits_with_other_mutex c k wait ≡ true → Elsewhere (place_at n s (released_mutex wait) (object_of wait))
  by_wait n s (for_mutex j) h = absurd cc
  by_wait n s (for_mutex_again j how) h = absurd cc
  by_wait n s (for_condition d j) h = (first_of (d == c) (not (j == k)) h, second_of (d == c) (not (j == k)) h)
  by_wait n s (for_end u) h = absurd cc
  by_wait n s (for_semaphore j) h = absurd cc
  by_wait n s for_time h = absurd cc
  by_wait n s (for_room q message) h = absurd cc
  by_wait n s (for_message q) h = absurd cc
  by_wait n s (for_signal signals) h = absurd cc

  by_waiting : (n : ℕ) (o : Option Waiting) → option_map_or (λ (w : Waiting). waits_with_other_mutex c k w.wait) o false ≡ true → Elsewhere (place_of n o)
  by_waiting n None h = absurd cc
  by_waiting n (Some w) h = by_wait n w.serial w.wait h

  by_place : (n s : ℕ) (wait : Wait) → Elsewhere (place_at n s (released_mutex wait) (object_of wait)) → waits_with_other_mutex c k wait ≡ true
  by_place n s (for_mutex j) h = absurd (let e = h.0 in cc)
  by_place n s (for_mutex_again j how) h = absurd (let e = h.0 in cc)
  by_place n s (for_condition d j) h = both_of (d == c) (not (j == k)) h.0 h.1
  by_place n s (for_end u) h = absurd (let e = h.0 in cc)
  by_place n s (for_semaphore j) h = absurd (let e = h.0 in cc)
  by_place n s for_time h = absurd (let e = h.0 in cc)
  by_place n s (for_room q message) h = absurd (let e = h.0 in cc)
  by_place n s (for_message q) h = absurd (let e = h.0 in cc)
  by_place n s (for_signal signals) h = absurd (let e = h.0 in cc)

  by_standing : (n : ℕ) (o : Option Waiting) → Elsewhere (place_of n o) → option_map_or (λ (w : Waiting). waits_with_other_mutex c k w.wait) o false ≡ true
  by_standing n None h = absurd (let e = h.0 in cc)
  by_standing n (Some w) h = by_place n w.serial w.wait h

  known : (places : List (Option Place)) (t : ℕ) → waits_at (Cond c) (place_in places t) ≡ true → t < length places
  known [] t h = absurd cc
  known (p ∷ places) zero h = omega arith
  known (p ∷ places) (suc t) h = let lt = known places t h in omega (arith, lt)

  module _ (threads : List (Thread Cursor)) (chain : Links) (places : List (Option Place)) (tied : IsTied threads chain places) where
    abbrev priority : ℕ → ℕ
    priority t = exec_in (claims threads) chain.mutexes t

    found_there : (t : ℕ) → WaitsElsewhere places c k t → list_any (waits_so (waits_with_other_mutex c k)) threads ≡ true
    found_there t one =
        let inside = known places t one.waits in
        let long = tied.waiting.lengths in
        let lt : t < length threads = omega (arith, inside, long) in
        let at = tied.waiting.each t lt in
        let there : Elsewhere (place_of (priority t) (waiting_in (thread_in threads t).status)) = (sym (ap (waits_at (Cond c)) at) ∙ one.waits, sym (ap (waits_with_other k) at) ∙ one.other) in
        any_at (waits_with_other_mutex c k) threads t lt (by_standing (priority t) (waiting_in (thread_in threads t).status) there)

    pub bound_elsewhere : (r : Bool) → (r ≡ true → (t : ℕ) × WaitsElsewhere places c k t) → (r ≡ false → (t : ℕ) → WaitsElsewhere places c k t → ⊥) →
        r ≡ list_any (waits_so (waits_with_other_mutex c k)) threads
    bound_elsewhere true found none = let one = found refl in sym (found_there one.0 one.1)
    bound_elsewhere false found none = by_any (list_any (waits_so (waits_with_other_mutex c k)) threads) refl
      where
        by_any : (b : Bool) → list_any (waits_so (waits_with_other_mutex c k)) threads ≡ b → false ≡ b
        by_any false e = refl
        by_any true e =
            let one = any_gives (waits_with_other_mutex c k) threads e in
            let at = tied.waiting.each one.0 one.1 in
            let there = by_waiting (priority one.0) (waiting_in (thread_in threads one.0).status) one.2 in
            absurd (none refl one.0 (record { waits = ap (waits_at (Cond c)) at ∙ there.0; other = ap (waits_with_other k) at ∙ there.1 }))
