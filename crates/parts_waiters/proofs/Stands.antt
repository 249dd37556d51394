-- The one that is served first waits for the object.
use Rattle.std.proofs.Common.{Bool, List, None, Option, Some, [], arith, false, length, refl, suc, true, ℕ, ◌+◌, ◌<◌, ◌∷◌, ◌≡◌, if◌then◌else◌}
use Rattle.std.specs.Prelude.{IfSome, option_map}
use Rattle.std.specs.List.{AllByRecursion}
use Rattle.rules_machine.specs.Lists.{first_by, first_of}
use Rattle.parts_waiters.specs.declared.order.Candidate.{Candidate}
use Rattle.parts_waiters.specs.declared.Place.{Place}
use Rattle.parts_waiters.specs.declared.WaitObj.{WaitObj}
use Rattle.parts_waiters.specs.Places.{best_of, comes_before, place_in, same_object, standing_at, standing_from, waits_at, with_first}

-- what holds of one that waits
record IsWaiter (obj : WaitObj) (places : List (Option Place)) (c : Candidate) : Type 0 where
  known : c.thread < length places
  waits : waits_at obj (place_in places c.thread) ≡ true

chosen : (P : Candidate → Type 0) (b : Bool) (x y : Candidate) → P x → P y → P (if b then y else x)
chosen P true x y h k = k
chosen P false x y h k = h

first_of_each : (P : Candidate → Type 0) (x : Candidate) (later : Option Candidate) → P x → IfSome later P → P (first_of comes_before x later)
first_of_each P x None h k = h
first_of_each P x (Some y) h k = chosen P (comes_before y x) x y h k

first_each : (P : Candidate → Type 0) (cs : List Candidate) → AllByRecursion P cs → IfSome (first_by comes_before cs) P
first_each P [] h = tt
first_each P (c ∷ cs) h = first_of_each P c (first_by comes_before cs) h.0 (first_each P cs h.1)

first_more : (P : Candidate → Type 0) (here : Option Candidate) (cs : List Candidate) → IfSome here P → AllByRecursion P cs → AllByRecursion P (with_first here cs)
first_more P None cs h k = k
first_more P (Some c) cs h k = (h, k)

here_if : (P : Candidate → Type 0) (b : Bool) (c : Candidate) → (b ≡ true → P c) → IfSome (if b then Some c else None) P
here_if P true c h = h refl
here_if P false c h = tt

here_waits : (obj : WaitObj) (all : List (Option Place)) (n : ℕ) (p : Option Place) → n < length all → place_in all n ≡ p → IfSome (standing_at n obj p) (IsWaiter obj all)
here_waits obj all n None lt is = tt
here_waits obj all n (Some p) lt is =
    here_if (IsWaiter obj all) (same_object p.object obj) (record { thread = n; priority = p.priority; serial = p.serial })
    (λ same. record { known = lt; waits = rw is same })

stand_each : (obj : WaitObj) (all : List (Option Place)) (n : ℕ) (places : List (Option Place)) → n + length places ≡ length all →
    ((i : ℕ) → i < length places → place_in all (n + i) ≡ place_in places i) → AllByRecursion (IsWaiter obj all) (standing_from n obj places)
stand_each obj all n [] far each = tt
stand_each obj all n (p ∷ places) far each =
    let at : n + 0 ≡ n = omega arith in
    let first : place_in all n ≡ p = (rw at at (each 0 (omega arith))) in
    first_more (IsWaiter obj all) (standing_at n obj p) (standing_from (n + 1) obj places)
    (here_waits obj all n p (omega arith) first)
    (stand_each obj all (n + 1) places (omega arith) (λ i lt. let on : n + suc i ≡ n + 1 + i = omega arith in rw on at (each (suc i) (omega arith))))

thread_known : (obj : WaitObj) (places : List (Option Place)) (o : Option Candidate) (u : ℕ) → IfSome o (IsWaiter obj places) →
    option_map (λ (c : Candidate). c.thread) o ≡ Some u → (u < length places) × (waits_at obj (place_in places u) ≡ true)
thread_known obj places None u h e = cc
thread_known obj places (Some c) u h e =
    let same : c.thread ≡ u = cc in
    (rw (← same) h.known, rw (← same) h.waits)

pub best_waits : (obj : WaitObj) (places : List (Option Place)) (u : ℕ) → best_of obj places ≡ Some u →
    (u < length places) × (waits_at obj (place_in places u) ≡ true)
best_waits obj places u e =
    thread_known obj places (first_by comes_before (standing_from 0 obj places)) u
    (first_each (IsWaiter obj places) (standing_from 0 obj places)
    (stand_each obj places 0 places (omega arith) (λ i lt. let at : 0 + i ≡ i = omega arith in rw at refl)))
    e
