-- Who waits: the best waiter waits so, and where there is none nobody does.
use Rattle.std.proofs.Common.{Bool, List, None, Option, Some, [], ap, arith, false, length, refl, suc, sym, true, zero, ℕ, ◌+◌, ◌<◌, ◌∷◌, ◌≡◌}
use Rattle.std.specs.Prelude.{filter_map, slice_index_or, ◌||◌, if◌then◌else◌}
use Rattle.std.specs.List.{list_any}
use mathlib.Core.Path.{subst, ◌∙◌}
use Rattle.rules_machine.specs.Lists.{changed_at, first_by, first_of, kept_if, numbers_from}
use Rattle.rules_machine.specs.State.{Machine, Thread, Wait, Waiting}
use Rattle.rules_machine.specs.Threads.{is_blocked, is_runnable, no_thread, thread_at, thread_in, waiting_of}
use Rattle.rules_machine.specs.Priorities.{exec}
use Rattle.rules_machine.specs.Waiters.{Waiter, best_waiter, is_served_before, somebody_waits, waiter_of, waiters, waits_so}

-- ---- of every member of a list

abbrev pub Each : {X : Type 0} → (X → Type 0) → List X → Type 0
Each Law [] = Unit {0}
Each Law (x ∷ xs) = Law x × Each Law xs

some_same : {X : Type 0} {a b : X} → Some a ≡ Some b → a ≡ b
some_same {X} {a} {b} e = ap out e
  where
    out : Option X → X
    out None = a
    out (Some x) = x

pub first_one : {X : Type 0} (Law : X → Type 0) (is_before : X → X → Bool) (xs : List X) (x : X) → Each Law xs → first_by is_before xs ≡ Some x → Law x
first_one Law is_before [] x each e = absurd (grind arith)
first_one {X} Law is_before (y ∷ ys) x each e = of_rest (first_by is_before ys) refl (λ z h. first_one Law is_before ys z each.1 h)
  where
    of_two : (z : X) (b : Bool) → Law z → Some (if b then z else y) ≡ Some x → Law x
    of_two z true k q = subst Law (some_same q) k
    of_two z false k q = subst Law (some_same q) each.0

    of_rest : (o : Option X) → first_by is_before ys ≡ o → ((z : X) → first_by is_before ys ≡ Some z → Law z) → Law x
    of_rest None h rest = subst Law (some_same (ap (λ (o : Option X). Some (first_of is_before y o)) (sym h) ∙ e)) each.0
    of_rest (Some z) h rest = of_two z (is_before z y) (rest z h) (ap (λ (o : Option X). Some (first_of is_before y o)) (sym h) ∙ e)

pub first_none : {X : Type 0} (is_before : X → X → Bool) (xs : List X) → first_by is_before xs ≡ None → xs ≡ []
first_none is_before [] e = refl
first_none is_before (x ∷ xs) e = absurd (grind arith)

-- ---- numbers of members that pass

each_number : {X : Type 0} (none : X) (passes : X → Bool) (all : List X) (n : ℕ) (xs : List X) → ((i : ℕ) → slice_index_or all (n + i) none ≡ slice_index_or xs i none) →
    Each (λ (t : ℕ). passes (slice_index_or all t none) ≡ true) (numbers_from n passes xs)
each_number none passes all n [] same = tt
each_number {X} none passes all n (x ∷ xs) same = split (passes x) refl (each_number none passes all (n + 1) xs (λ i. ap (λ (j : ℕ). slice_index_or all j none) (next i) ∙ same (suc i)))
  where
    next : (i : ℕ) → n + 1 + i ≡ n + suc i
    next i = omega arith

    here : slice_index_or all n none ≡ x
    here = let zero_more : n ≡ n + 0 = omega arith in ap (λ (j : ℕ). slice_index_or all j none) zero_more ∙ same 0

    split : (b : Bool) → passes x ≡ b → Each (λ (t : ℕ). passes (slice_index_or all t none) ≡ true) (numbers_from (n + 1) passes xs) →
        Each (λ (t : ℕ). passes (slice_index_or all t none) ≡ true) (kept_if (passes x) n (numbers_from (n + 1) passes xs))
    split true e rest = subst (λ (b : Bool). Each (λ (t : ℕ). passes (slice_index_or all t none) ≡ true) (kept_if b n (numbers_from (n + 1) passes xs))) (sym e) (ap passes here ∙ e, rest)
    split false e rest = subst (λ (b : Bool). Each (λ (t : ℕ). passes (slice_index_or all t none) ≡ true) (kept_if b n (numbers_from (n + 1) passes xs))) (sym e) rest

none_passes : {X : Type 0} (passes : X → Bool) (n : ℕ) (xs : List X) → numbers_from n passes xs ≡ [] → list_any passes xs ≡ false
none_passes passes n [] e = refl
none_passes {X} passes n (x ∷ xs) e = split (passes x) refl (none_passes passes (n + 1) xs)
  where
    split : (b : Bool) → passes x ≡ b → (numbers_from (n + 1) passes xs ≡ [] → list_any passes xs ≡ false) → (passes x || list_any passes xs) ≡ false
    split true h rest = absurd (grind arith)
    split false h rest = let k : list_any passes xs ≡ false = rest (grind arith) in grind arith

-- ---- the waiters of a machine

module _ {P : Type 0} (m : Machine P) (passes : Wait → Bool) where
  abbrev pub WaitsSo : ℕ → Waiting → Type 0
  WaitsSo t w = (waiting_of m t ≡ Some w) × (passes w.wait ≡ true)

  abbrev pub IsWaiter : Waiter → Type 0
  IsWaiter w = WaitsSo w.thread w.waiting

  passing : (t : ℕ) (w : Waiting) → waiting_of m t ≡ Some w → waits_so passes (thread_at m t) ≡ true → passes w.wait ≡ true
  passing t w e h = rw e at h

  pub each_waiter : (ns : List ℕ) → Each (λ (t : ℕ). waits_so passes (thread_at m t) ≡ true) ns → Each IsWaiter (filter_map (λ (t : ℕ). waiter_of t (exec m t) (waiting_of m t)) ns)
  each_waiter [] each = tt
  each_waiter (t ∷ ns) each = split (waiting_of m t) refl (each_waiter ns each.1)
    where
      split : (o : Option Waiting) → waiting_of m t ≡ o → Each IsWaiter (filter_map (λ (t : ℕ). waiter_of t (exec m t) (waiting_of m t)) ns) →
          Each IsWaiter (filter_map (λ (t : ℕ). waiter_of t (exec m t) (waiting_of m t)) (t ∷ ns))
      split None e rest = rw e rest
      split (Some w) e rest = rw e ((e, passing t w e each.0), rest)

  none_waits : (ns : List ℕ) → Each (λ (t : ℕ). waits_so passes (thread_at m t) ≡ true) ns → filter_map (λ (t : ℕ). waiter_of t (exec m t) (waiting_of m t)) ns ≡ [] → ns ≡ []
  none_waits [] each e = refl
  none_waits (t ∷ ns) each e = split (waiting_of m t) refl
    where
      split : (o : Option Waiting) → waiting_of m t ≡ o → t ∷ ns ≡ []
      split None h = absurd (grind (arith, each.0))
      split (Some w) h = absurd (grind (arith, rw h at e))

  pub all_pass : Each (λ (t : ℕ). waits_so passes (thread_at m t) ≡ true) (numbers_from 0 (waits_so passes) m.threads)
  all_pass = each_number no_thread (waits_so passes) m.threads 0 m.threads (λ i. let same : 0 + i ≡ i = omega arith in ap (λ (j : ℕ). slice_index_or m.threads j no_thread) same)

  -- where there is no best waiter, nobody waits so
  pub nobody_waits : best_waiter m passes ≡ None → somebody_waits m passes ≡ false
  nobody_waits e =
      none_passes (waits_so passes) 0 m.threads (none_waits (numbers_from 0 (waits_so passes) m.threads) all_pass (first_none is_served_before (waiters m passes) e))

  -- the best waiter waits so
  pub best_waits : (w : Waiter) → best_waiter m passes ≡ Some w → WaitsSo w.thread w.waiting
  best_waits w e = first_one IsWaiter is_served_before (waiters m passes) w (each_waiter (numbers_from 0 (waits_so passes) m.threads) all_pass) e

-- ---- one member changes

pub any_kept : {X : Type 0} (none : X) (n : ℕ) (f : X → X) (passes : X → Bool) → ((x : X) → passes (f x) ≡ passes x) → (xs : List X) →
    list_any passes (changed_at none n f xs) ≡ list_any passes xs
any_kept none n f passes h [] = refl
any_kept none zero f passes h (x ∷ xs) = ap (λ (b : Bool). b || list_any passes xs) (h x)
any_kept none (suc n) f passes h (x ∷ xs) = ap (λ (b : Bool). passes x || b) (any_kept none n f passes h xs)

-- the same, of that member alone
pub any_same : {X : Type 0} (none : X) (n : ℕ) (f : X → X) (passes : X → Bool) (xs : List X) → passes (f (slice_index_or xs n none)) ≡ passes (slice_index_or xs n none) →
    list_any passes (changed_at none n f xs) ≡ list_any passes xs
any_same none n f passes [] h = refl
any_same none zero f passes (x ∷ xs) h = ap (λ (b : Bool). b || list_any passes xs) h
any_same none (suc n) f passes (x ∷ xs) h = ap (λ (b : Bool). passes x || b) (any_same none n f passes xs h)

-- a change of one that did not pass
pub none_before : {X : Type 0} (none : X) (n : ℕ) (f : X → X) (passes : X → Bool) (xs : List X) → list_any passes (changed_at none n f xs) ≡ false →
    passes (slice_index_or xs n none) ≡ false → list_any passes xs ≡ false
none_before none n f passes [] h k = refl
none_before none zero f passes (x ∷ xs) h k = grind arith
none_before none (suc n) f passes (x ∷ xs) h k = let rest : list_any passes xs ≡ false = none_before none n f passes xs (grind arith) k in grind arith

-- a change into one that does not pass
pub none_after : {X : Type 0} (none : X) (n : ℕ) (f : X → X) (passes : X → Bool) (xs : List X) → list_any passes xs ≡ false →
    passes (f (slice_index_or xs n none)) ≡ false → list_any passes (changed_at none n f xs) ≡ false
none_after none n f passes [] h k = refl
none_after none zero f passes (x ∷ xs) h k = grind arith
none_after none (suc n) f passes (x ∷ xs) h k = let rest : list_any passes (changed_at none n f xs) ≡ false = none_after none n f passes xs (grind arith) k in grind arith

-- after a change into one that does not pass, who passes passed before
pub any_before : {X : Type 0} (none : X) (n : ℕ) (f : X → X) (passes : X → Bool) (xs : List X) → list_any passes (changed_at none n f xs) ≡ true →
    passes (f (slice_index_or xs n none)) ≡ false → list_any passes xs ≡ true
any_before none n f passes xs h k = split (list_any passes xs) refl
  where
    contra : {b : Bool} → b ≡ true → b ≡ false → ⊥
    contra p q = grind arith

    split : (b : Bool) → list_any passes xs ≡ b → list_any passes xs ≡ true
    split true e = e
    split false e = absurd (contra h (none_after none n f passes xs e k))

-- ---- who is blocked is there

pub blocked_within : {P : Type 0} (ths : List (Thread P)) (t : ℕ) → is_blocked (thread_in ths t).status ≡ true → t < length ths
blocked_within [] t e = absurd (grind arith)
blocked_within (th ∷ ths) zero e = omega arith
blocked_within (th ∷ ths) (suc t) e = let rest = blocked_within ths t e in omega arith

pub running_within : {P : Type 0} (ths : List (Thread P)) (t : ℕ) → is_runnable (thread_in ths t).status ≡ true → t < length ths
running_within [] t e = absurd (grind arith)
running_within (th ∷ ths) zero e = omega arith
running_within (th ∷ ths) (suc t) e = let rest = running_within ths t e in omega arith
