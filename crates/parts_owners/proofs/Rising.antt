-- Where priorities only rise, an owner is asked for what it has or for what it gets through one mutex.
use Rattle.std.proofs.Common.{Bool, List, None, Option, Some, [], ap, arith, false, get_or, inl, inr, length, refl, set, suc, sym, true, zero, ℕ, ◌+◌, ◌<◌, ◌≤◌, ◌∷◌, ◌≡◌, ◌≢◌, ◌∙◌}
use Rattle.std.specs.Prelude.{map, max, if◌then◌else◌}
use Rattle.std.proofs.lemmas.Bool.Decides.{eqb_tells}
use Rattle.std.proofs.lemmas.List.{get_or-set_other, get_or-set_same, length-set}
use Rattle.rules_machine.specs.Lists.{changed_at, greatest, is, kept_if}
use Rattle.rules_machine.specs.State.{Mutex}
use Rattle.rules_machine.specs.Threads.{mutex_in, no_mutex}
use Rattle.rules_machine.specs.Priorities.{Claim, is_inherit_mutex_of, owner_ceiling}
use Rattle.rules_machine.specs.Mutexes.{freed}
use Rattle.rules_machine.proofs.Reading.{changed-keeps, changed-length}
use Rattle.parts_owners.specs.Chains.{ChainsEnd, SolvesBut, above_in, asked_in, awaited_in, next_in, no_claim, prio_in, through_in, waiting_for}
use Rattle.parts_owners.specs.Rises.{RisesThrough}
use Rattle.parts_owners.proofs.Asked.{waiters_from}
use Rattle.parts_owners.proofs.Begun.{no_ceiling, no_lending}
use Rattle.parts_owners.proofs.Cycles.{differ}
use Rattle.parts_owners.proofs.Elsewhere.{asked_elsewhere}
use Rattle.parts_owners.proofs.OneMutex.{asked_with, set_back}
use Rattle.parts_owners.proofs.OneSolution.{asked_same}

-- ---- more waiters with greater priorities lend no less

more_lent : (e f : ℕ → ℕ) (b c : Bool) (n : ℕ) (ns ms : List ℕ) → (b ≡ true → c ≡ true) → e n ≤ f n → greatest (map e ns) ≤ greatest (map f ms) →
    greatest (map e (kept_if b n ns)) ≤ greatest (map f (kept_if c n ms))
more_lent e f true true n ns ms more le rest = grind (arith, le, rest)
more_lent e f true false n ns ms more le rest = absurd (let h : false ≡ true = more refl in cc)
more_lent e f false true n ns ms more le rest = grind (arith, le, rest)
more_lent e f false false n ns ms more le rest = rest

greatest_more : (e f : ℕ → ℕ) (k n : ℕ) (xs ys : List Claim) → length ys ≡ length xs → ((u : ℕ) → e u ≤ f u) →
    ((i : ℕ) → is (awaited_in xs i) k ≡ true → is (awaited_in ys i) k ≡ true) → greatest (map e (waiters_from n k xs)) ≤ greatest (map f (waiters_from n k ys))
greatest_more e f k n [] [] len le more = omega arith
greatest_more e f k n [] (y ∷ ys) len le more = absurd (omega (arith, len))
greatest_more e f k n (x ∷ xs) [] len le more = absurd (omega (arith, len))
greatest_more e f k n (x ∷ xs) (y ∷ ys) len le more =
    more_lent e f (is x.awaited k) (is y.awaited k) n (waiters_from (n + 1) k xs) (waiters_from (n + 1) k ys) (more 0) (le n)
    (greatest_more e f k (n + 1) xs ys (omega (arith, len)) le (λ i. more (suc i)))

more_through : (c g h : ℕ) (b : Bool) → g ≤ h → max c (if b then g else 0) ≤ max c (if b then h else 0)
more_through c g h true le = grind (arith, le)
more_through c g h false le = grind arith

-- ---- without one mutex

-- the mutexes where that one is free
abbrev pub without : ℕ → List Mutex → List Mutex
without k ms = set ms k (freed (mutex_in ms k))

module _ (ms : List Mutex) (k : ℕ) (lt : k < length ms) where
  free_there : mutex_in (without k ms) k ≡ freed (mutex_in ms k)
  free_there = get_or-set_same ms k (freed (mutex_in ms k)) no_mutex lt

  pub owner_without : (mutex_in (without k ms) k).owner ≡ None
  owner_without = ap (λ (m : Mutex). m.owner) free_there

  -- what a thread is asked for: what it is asked for without the mutex, and what it gets through it
  asked_apart : (claims : List Claim) (e : ℕ → ℕ) (t : ℕ) →
      asked_in claims ms e t ≡ max (asked_in claims (without k ms) e t) (through_in claims e t k (mutex_in ms k))
  asked_apart claims e t =
      let old = mutex_in ms k in
      let free : is (mutex_in (without k ms) k).owner t ≡ false = rw owner_without refl in
      let within : k < length (without k ms) = omega (arith, lt, length-set ms k (freed old)) in
      let asks = asked_with claims (without k ms) e t k old within (no_ceiling t (mutex_in (without k ms) k) free) (no_lending t (mutex_in (without k ms) k) free) in
      let back : set (without k ms) k old ≡ ms = set_back ms k (freed old) old refl in
      ap (λ (l : List Mutex). asked_in claims l e t) (sym back) ∙ asks

-- a thread that has more than it gets through a mutex is asked for what it has without it
less : (e r x : ℕ) → e ≡ max r x → x < e → e ≡ r
less e r x is lt = grind (arith, is, lt)

pub freed_less : (claims : List Claim) (ms : List Mutex) (e : ℕ → ℕ) (k t : ℕ) → k < length ms → e t ≡ asked_in claims ms e t →
    through_in claims e t k (mutex_in ms k) < e t → e t ≡ asked_in claims (without k ms) e t
freed_less claims ms e k t lt right more = less (e t) (asked_in claims (without k ms) e t) (through_in claims e t k (mutex_in ms k)) (right ∙ asked_apart ms k lt claims e t) more

largest : (e r x y now : ℕ) → e ≡ max r x → x ≤ y → now ≡ e → max r y ≡ max now y
largest e r x y now is le same = grind (arith, is, le, same)

module _ (ms : List Mutex) (k t : ℕ) (lt : k < length ms) (old new : List Claim) (e f : ℕ → ℕ) where
  pub rises : length new ≡ length old → ((u : ℕ) → e u ≤ f u) → ((i : ℕ) → is (awaited_in old i) k ≡ true → is (awaited_in new i) k ≡ true) →
      e t ≡ asked_in old ms e t → f t ≡ e t → asked_in new (without k ms) f t ≡ asked_in old (without k ms) e t → RisesThrough new ms f k t
  rises len le more right same apart =
      let m = mutex_in ms k in
      let lends = more_through (owner_ceiling t m) (greatest (map e (waiters_from 0 k old))) (greatest (map f (waiters_from 0 k new))) (is_inherit_mutex_of t m) (greatest_more e f k 0 old new len le more) in
      asked_apart ms k lt new f t ∙ ap (λ (n : ℕ). max n (through_in new f t k m)) apart
      ∙ largest (e t) (asked_in old (without k ms) e t) (through_in old e t k m) (through_in new f t k m) (f t) (right ∙ asked_apart ms k lt old e t) lends same

-- ---- a thread begins to wait for the mutex

module _ (claims : List Claim) (ms : List Mutex) (e : ℕ → ℕ) (t k o : ℕ) (known : t < length claims) (lt : k < length ms) (none : awaited_in claims t ≡ None) where
  abbrev begun : List Claim
  begun = changed_at no_claim t (waiting_for (Some k)) claims

  other_waits : (u : ℕ) → u ≢ t → awaited_in begun u ≡ awaited_in claims u
  other_waits u other = ap (λ (c : Claim). c.awaited) (get_or-set_other claims t u (waiting_for (Some k) (get_or claims t no_claim)) no_claim other)

  now_waits : awaited_in begun t ≡ Some k
  now_waits = ap (λ (c : Claim). c.awaited) (get_or-set_same claims t (waiting_for (Some k) (get_or claims t no_claim)) no_claim known)

  still_waits : (i : ℕ) → is (awaited_in claims i) k ≡ true → is (awaited_in begun i) k ≡ true
  still_waits i h = elim (eqb_tells i t) [
    | inl same ↦ absurd (let no : is (awaited_in claims i) k ≡ false = rw same.1 (rw none refl) in let off : true ≡ false = sym h ∙ no in cc)
    | inr other ↦ rw (other_waits i other.1) h
  ]

  waits_elsewhere : (j : ℕ) → (mutex_in (without k ms) j).owner ≡ Some o → (i : ℕ) → is (awaited_in begun i) j ≡ is (awaited_in claims i) j
  waits_elsewhere j owned i = elim (eqb_tells i t) [
    | inl same ↦ (let apart : k ≢ j = (λ (s : k ≡ j). let free : None ≡ Some o = sym (owner_without ms k lt) ∙ ap (λ (n : ℕ). (mutex_in (without k ms) n).owner) s ∙ owned in cc) in
        rw same.1 (rw (now_waits, none) (differ k j apart)))
    | inr other ↦ ap (λ (w : Option ℕ). is w j) (other_waits i other.1)
  ]

  pub begun_rises : e o ≡ asked_in claims ms e o → RisesThrough begun ms e k o
  begun_rises right =
      let len = changed-length no_claim t (waiting_for (Some k)) claims in
      rises ms k o lt claims begun e e len (λ u. omega arith) still_waits right refl
      (asked_elsewhere claims begun (without k ms) e o len (changed-keeps no_claim t o (waiting_for (Some k)) (λ (c : Claim). c.assigned) (λ c. refl) claims) waits_elsewhere)

-- ---- a thread that waits for the mutex has another priority

module _ (claims : List Claim) (ms : List Mutex) where
  -- no chain that ends has a thread that waits for itself
  stays_there : (at : ℕ) → next_in claims ms at ≡ Some at → (n : ℕ) → above_in claims ms n at ≡ Some at
  stays_there at self zero = refl
  stays_there at self (suc n) = rw (stays_there at self n) self

  not_itself : ChainsEnd claims ms → (at : ℕ) → at < length claims → next_in claims ms at ≢ Some at
  not_itself ends at known self = let gone : None ≡ Some at = sym (ends.each at known) ∙ stays_there at self (length claims) in cc

  turned_more : (exec : List ℕ) (at v : ℕ) → at < length exec → prio_in exec at ≤ v → (u : ℕ) → prio_in exec u ≤ prio_in (set exec at v) u
  turned_more exec at v known le u = elim (eqb_tells u at) [
    | inl same ↦ (let here : prio_in (set exec at v) at ≡ v = get_or-set_same exec at v 0 known in rw same.1 (omega (arith, le, here)))
    | inr other ↦ (let e : prio_in (set exec at v) u ≡ prio_in exec u = get_or-set_other exec at u v 0 other.1 in omega (arith, e))
  ]

  pub turned_rises : (exec : List ℕ) (at v k up : ℕ) → ChainsEnd claims ms → at < length claims → length exec ≡ length claims → up < length claims → k < length ms →
      SolvesBut claims ms at (prio_in exec) → prio_in exec at ≤ v → awaited_in claims at ≡ Some k → next_in claims ms at ≡ Some up →
      RisesThrough claims ms (prio_in (set exec at v)) k up
  turned_rises exec at v k up ends known each within lt right le waits next =
      let apart : up ≢ at = (λ (s : up ≡ at). not_itself ends at known (next ∙ ap (λ (n : ℕ). Some n) s)) in
      rises ms k up lt claims claims (prio_in exec) (prio_in (set exec at v)) refl (turned_more exec at v (omega (arith, known, each)) le) (λ i h. h)
      (right.others up within apart) (get_or-set_other exec at up v 0 apart)
      (asked_same claims (without k ms) (prio_in (set exec at v)) (prio_in exec) up
      (λ u below steps. get_or-set_other exec at u v 0 (λ (s : u ≡ at).
      let here : next_in claims (without k ms) at ≡ None = rw waits (owner_without ms k lt) in
      let gone : None ≡ Some up = sym here ∙ ap (next_in claims (without k ms)) (sym s) ∙ steps in cc)))

-- ---- a walk that rises

pub has_no_more : (e v g : ℕ) → v ≡ max e g → e ≤ v
has_no_more e v g is = omega (arith, is)

-- a mutex that has an owner is one of them
pub owned_within : (ms : List Mutex) (k o : ℕ) → (mutex_in ms k).owner ≡ Some o → k < length ms
owned_within [] k o h = cc
owned_within (m ∷ ms) zero o h = omega arith
owned_within (m ∷ ms) (suc k) o h = let lt = owned_within ms k o h in omega (arith, lt)
