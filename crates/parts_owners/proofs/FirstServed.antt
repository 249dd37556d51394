-- Of those that wait for a mutex none has a greater priority than the one that is served first.
use Rattle.std.proofs.Common.{Bool, List, None, Option, Some, [], ap, arith, false, length, refl, subst, suc, sym, true, ℕ, ◌+◌, ◌<◌, ◌≤◌, ◌∷◌, ◌∙◌, ◌≡◌}
use Rattle.std.specs.Prelude.{IfSome, map, max, option_map, if◌then◌else◌}
use Rattle.std.proofs.lemmas.Bool.Decides.{nat_tests}
use Rattle.rules_machine.specs.Lists.{first_by, first_of, greatest, is, kept_if, numbers_from}
use Rattle.rules_machine.specs.Priorities.{Claim}
use Rattle.parts_waiters.specs.declared.order.Candidate.{Candidate}
use Rattle.parts_waiters.specs.declared.Place.{Place}
use Rattle.parts_waiters.specs.declared.WaitObj.{WaitObj}
use Rattle.parts_waiters.specs.declared.WaitObj.TheVariants.{Cond, Mutex, Receiver, Sem, Sender, SigWait}
use Rattle.parts_waiters.specs.Places.{best_of, candidate_of, comes_before, place_in, same_object, standing_at, standing_from, with_first}
use Rattle.parts_owners.specs.Chains.{awaited_in, prio_in, waiters_in}
use Rattle.parts_owners.specs.Moves.{StandsAt, WaitersStand, mutex_named, mutex_placed}

-- whether a place is that of a waiter of the mutex
abbrev pub waits_there : ℕ → Option Place → Bool
waits_there k None = false
waits_there k (Some p) = same_object p.object (Mutex k)

named : (obj : WaitObj) (k : ℕ) → is (mutex_named obj) k ≡ same_object obj (Mutex k)
named (Mutex j) k = refl
named (Cond j) k = refl
named (Sem j) k = refl
named (Sender j) k = refl
named (Receiver j) k = refl
named SigWait k = refl

placed : (p : Option Place) (k : ℕ) → is (mutex_placed p) k ≡ waits_there k p
placed None k = refl
placed (Some p) k = named p.object k

-- the first of these candidates has the greatest priority, which is that of its thread
abbrev pub IsGreatest : (ℕ → ℕ) → ℕ → ℕ → Option Candidate → Type 0
IsGreatest e threads top None = top ≡ 0
IsGreatest e threads top (Some c) = (top ≡ c.priority) × (e c.thread ≡ c.priority) × (c.thread < threads)

before_greater : (a b : Candidate) → comes_before a b ≡ true → b.priority ≤ a.priority
before_greater a b h = grind (arith, nat_tests, h)

not_before : (a b : Candidate) → comes_before a b ≡ false → a.priority ≤ b.priority
not_before a b h = grind (arith, nat_tests, h)

of_two : (e : ℕ → ℕ) (threads top : ℕ) (x y : Candidate) (b : Bool) → b ≡ comes_before y x → e x.thread ≡ x.priority → x.thread < threads → IsGreatest e threads top (Some y) →
    IsGreatest e threads (max (e x.thread) top) (Some (if b then y else x))
of_two e threads top x y true h at low rest = let le = before_greater y x (sym h) in (omega (arith, le, at, rest.0), rest.1, rest.2)
of_two e threads top x y false h at low rest = let le = not_before y x (sym h) in (omega (arith, le, at, rest.0), at, low)

joined : (e : ℕ → ℕ) (threads top : ℕ) (x : Candidate) (o : Option Candidate) → e x.thread ≡ x.priority → x.thread < threads → IsGreatest e threads top o →
    IsGreatest e threads (max (e x.thread) top) (Some (first_of comes_before x o))
joined e threads top x None at low rest = (omega (arith, at, rest), at, low)
joined e threads top x (Some y) at low rest = of_two e threads top x y (comes_before y x) refl at low rest

stood : (e : ℕ → ℕ) (threads k n : ℕ) (p : Option Place) (b : Bool) (ns : List ℕ) (cs : List Candidate) → b ≡ waits_there k p → n < threads → IfSome p (λ q. q.priority ≡ e n) →
    IsGreatest e threads (greatest (map e ns)) (first_by comes_before cs) →
    IsGreatest e threads (greatest (map e (kept_if b n ns))) (first_by comes_before (with_first (standing_at n (Mutex k) p) cs))
stood e threads k n None true ns cs h low at rest = cc
stood e threads k n None false ns cs h low at rest = rest
stood e threads k n (Some q) true ns cs h low at rest =
    rw (← h) (joined e threads (greatest (map e ns)) (candidate_of n q) (first_by comes_before cs) (sym at) low rest)
stood e threads k n (Some q) false ns cs h low at rest = rw (← h) rest

pub first_greatest : (e : ℕ → ℕ) (threads k n : ℕ) (claims : List Claim) (places : List (Option Place)) → length places ≡ length claims → n + length claims ≤ threads →
    ((t : ℕ) → awaited_in claims t ≡ mutex_placed (place_in places t)) → ((t : ℕ) → IfSome (place_in places t) (λ p. p.priority ≡ e (n + t))) →
    IsGreatest e threads (greatest (map e (numbers_from n (λ (c : Claim). is c.awaited k) claims))) (first_by comes_before (standing_from n (Mutex k) places))
first_greatest e threads k n [] [] len few waits stand = refl
first_greatest e threads k n [] (p ∷ places) len few waits stand = absurd (omega (arith, len))
first_greatest e threads k n (c ∷ claims) [] len few waits stand = absurd (omega (arith, len))
first_greatest e threads k n (c ∷ claims) (p ∷ places) len few waits stand =
    let at : n + 0 ≡ n = omega arith in
    stood e threads k n p (is c.awaited k) (numbers_from (n + 1) (λ (d : Claim). is d.awaited k) claims) (standing_from (n + 1) (Mutex k) places)
    (ap (λ o. is o k) (waits 0) ∙ placed p k) (omega (arith, few))
    (subst (λ m. IfSome p (λ q. q.priority ≡ e m)) at (stand 0))
    (first_greatest e threads k (n + 1) claims places (omega (arith, len)) (omega (arith, few)) (λ t. waits (suc t))
    (λ t. let on : n + suc t ≡ n + 1 + t = omega arith in subst (λ m. IfSome (place_in places t) (λ q. q.priority ≡ e m)) on (stand (suc t))))

-- what is lent through the mutex is the priority of the thread that is served first
abbrev pub IsLent : (ℕ → ℕ) → ℕ → ℕ → Option ℕ → Type 0
IsLent e threads top None = top ≡ 0
IsLent e threads top (Some t) = (top ≡ e t) × (t < threads)

of_thread : (e : ℕ → ℕ) (threads top : ℕ) (o : Option Candidate) → IsGreatest e threads top o → IsLent e threads top (option_map (λ (c : Candidate). c.thread) o)
of_thread e threads top None h = h
of_thread e threads top (Some c) h = (h.0 ∙ sym h.1, h.2)

pub lent_first : (exec : List ℕ) (claims : List Claim) (places : List (Option Place)) (k j : ℕ) (o : Option ℕ) → length places ≡ length claims →
    StandsAt (prio_in exec) places → WaitersStand claims places → j ≡ k → o ≡ best_of (Mutex j) places →
    IsLent (prio_in exec) (length claims) (greatest (map (prio_in exec) (waiters_in claims k))) o
lent_first exec claims places k j o len stand waiters same is =
    let e = prio_in exec in let top = greatest (map e (waiters_in claims k)) in
    let all = first_greatest e (length claims) k 0 claims places len (omega arith) (λ t. waiters.each t)
    (λ t. let on : t ≡ 0 + t = omega arith in subst (λ m. IfSome (place_in places t) (λ q. q.priority ≡ e m)) on (stand.each t)) in
    let best : best_of (Mutex k) places ≡ o = sym (is ∙ ap (λ i. best_of (Mutex i) places) same) in
    subst (IsLent e (length claims) top) best (of_thread e (length claims) top (first_by comes_before (standing_from 0 (Mutex k) places)) all)
