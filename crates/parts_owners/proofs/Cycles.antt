-- Where no chain of owners leads back, each chain ends.
use Rattle.std.proofs.Common.{Bool, List, None, Option, Some, [], ap, arith, eqb, false, inl, inr, length, refl, suc, sym, true, unwrap_or, zero, ℕ, ◌+◌, ◌-◌, ◌<◌, ◌≤◌, ◌∷◌, ◌≡◌, ◌≢◌, ◌⊎◌, ◌∙◌}
use Rattle.std.specs.Prelude.{option_and_then, ◌||◌}
use Rattle.std.specs.List.{AllByRecursion, IsDistinct, list_any}
use Rattle.std.proofs.lemmas.Bool.Decides.{eqb_tells}
use Rattle.std.proofs.lemmas.Map.Keys.{IsDistinct-cons}
use Rattle.std.proofs.lemmas.Map.Steps.{length-le_from_distinct_below}
use Rattle.rules_machine.specs.Lists.{is}
use Rattle.rules_machine.specs.State.{Mutex}
use Rattle.rules_machine.specs.Threads.{mutex_in}
use Rattle.rules_machine.specs.Priorities.{Claim}
use Rattle.parts_owners.specs.Chains.{ChainsEnd, NoCycle, OwnersAreThreads, above_in, awaited_in, closes_cycle_in, leads_from, next_in}
use Rattle.parts_owners.proofs.OneSolution.{none_stays, within_chain}

pub option_cases : (o : Option ℕ) → (o ≡ None) ⊎ ((x : ℕ) × (o ≡ Some x))
option_cases None = inl refl
option_cases (Some x) = inr (x, refl)

option_id : (o : Option ℕ) → option_and_then (λ (x : ℕ). Some x) o ≡ o
option_id None = refl
option_id (Some x) = refl

option_next : (f g : ℕ → Option ℕ) (o : Option ℕ) → option_and_then g (option_and_then f o) ≡ option_and_then (λ (x : ℕ). option_and_then g (f x)) o
option_next f g None = refl
option_next f g (Some x) = refl

each_then : (P Q : ℕ → Type 0) (xs : List ℕ) → ((x : ℕ) → P x → Q x) → AllByRecursion P xs → AllByRecursion Q xs
each_then P Q [] f h = tt
each_then P Q (x ∷ xs) f h = (f x h.0, each_then P Q xs f h.1)

pub differ : (x y : ℕ) → x ≢ y → eqb x y ≡ false
differ x y h = elim (eqb_tells x y) [ inl same ↦ absurd (h same.1) | inr other ↦ other.0 ]

among : (P : ℕ → Type 0) (u : ℕ) (xs : List ℕ) → AllByRecursion P xs → list_any (eqb u) xs ≡ true → P u
among P u [] h e = cc
among P u (x ∷ xs) h e = elim (eqb_tells u x) [
  | inl same ↦ rw same.1 h.0
  | inr other ↦ among P u xs h.1 (grind (arith, other.0, e))
]

distinct_none : Unit {0} → IsDistinct eqb []
unfolding IsDistinct
distinct_none u = tt

module _ (claims : List Claim) (mutexes : List Mutex) where
  pub above_add : (m n t : ℕ) → above_in claims mutexes (m + n) t ≡ option_and_then (above_in claims mutexes m) (above_in claims mutexes n t)
  above_add zero n t = (let at : 0 + n ≡ n = omega arith in rw at (sym (option_id (above_in claims mutexes n t))))
  above_add (suc m) n t =
      let at : suc m + n ≡ suc (m + n) = omega arith in
      rw at (rw (above_add m n t) (option_next (above_in claims mutexes m) (next_in claims mutexes) (above_in claims mutexes n t)))

  first_step_by : (n m o : ℕ) → m ≡ n + 1 → above_in claims mutexes m o ≡ option_and_then (above_in claims mutexes n) (next_in claims mutexes o)
  first_step_by n m o far = rw far (above_add n 1 o)

  next_below : OwnersAreThreads claims mutexes → (k : Option ℕ) (u : ℕ) → option_and_then (λ (j : ℕ). (mutex_in mutexes j).owner) k ≡ Some u → u < length claims
  next_below owners None u h = cc
  next_below owners (Some k) u h = owners.each k u h

  step_below : OwnersAreThreads claims mutexes → (o : Option ℕ) (u : ℕ) → option_and_then (next_in claims mutexes) o ≡ Some u → u < length claims
  step_below owners None u h = cc
  step_below owners (Some t) u h = next_below owners (awaited_in claims t) u h

  pub above_below : OwnersAreThreads claims mutexes → (n t u : ℕ) → t < length claims → above_in claims mutexes n t ≡ Some u → u < length claims
  above_below owners zero t u lt h = (let e : t ≡ u = cc in omega arith)
  above_below owners (suc n) t u lt h = step_below owners (above_in claims mutexes n t) u h

  -- a chain that goes on has a thread at each step before
  alive : (t n m x : ℕ) → n ≤ m → above_in claims mutexes m t ≡ Some x → (y : ℕ) × (above_in claims mutexes n t ≡ Some y)
  alive t n m x le h = elim (option_cases (above_in claims mutexes n t)) [
    | inl none ↦ absurd (let at : m ≡ n + (m - n) = omega arith in
        let gone : above_in claims mutexes m t ≡ None = rw at (none_stays claims mutexes t n (m - n) none) in cc)
    | inr some ↦ some
  ]

  -- the threads of a chain, the last first
  abbrev path : ℕ → ℕ → List ℕ
  path zero t = t ∷ []
  path (suc n) t = unwrap_or (above_in claims mutexes (suc n) t) 0 ∷ path n t

  length-path : (n t : ℕ) → length (path n t) ≡ n + 1
  length-path zero t = refl
  length-path (suc n) t = omega (arith, length-path n t)

  -- two steps of a chain are at two threads
  two_apart : NoCycle claims mutexes → (t n m d y : ℕ) → m ≡ suc d + n → above_in claims mutexes n t ≡ Some y → above_in claims mutexes m t ≢ Some y
  two_apart free t n m d y far here there =
      let moved : above_in claims mutexes m t ≡ above_in claims mutexes (suc d) y = rw far (above_add (suc d) n t ∙ rw here refl) in
      free.each y d (sym moved ∙ there)

  two_threads : NoCycle claims mutexes → (t n m y : ℕ) → n < m → above_in claims mutexes n t ≡ Some y → above_in claims mutexes m t ≢ Some y
  two_threads free t n m y lt here there = two_apart free t n m (m - n - 1) y (omega arith) here there

  apart : NoCycle claims mutexes → (t n m x : ℕ) → n < m → above_in claims mutexes m t ≡ Some x → AllByRecursion (λ y. eqb x y ≡ false) (path n t)
  apart free t zero m x lt h = (differ x t (λ (e : x ≡ t). two_threads free t 0 m t lt refl (h ∙ ap (λ y. Some y) e)), tt)
  apart free t (suc n) m x lt h =
      let here = alive t (suc n) m x (omega arith) h in
      let same : unwrap_or (above_in claims mutexes (suc n) t) 0 ≡ here.0 = rw here.1 refl in
      let other : x ≢ here.0 = (λ (e : x ≡ here.0). two_threads free t (suc n) m here.0 lt here.1 (h ∙ ap (λ y. Some y) e)) in
      (rw same (differ x here.0 other), apart free t n m x (omega arith) h)

  path_below : OwnersAreThreads claims mutexes → (t n m x : ℕ) → t < length claims → n ≤ m → above_in claims mutexes m t ≡ Some x →
      AllByRecursion (λ y. y < length claims) (path n t)
  path_below owners t zero m x known le h = (known, tt)
  path_below owners t (suc n) m x known le h =
      let here = alive t (suc n) m x le h in
      let same : unwrap_or (above_in claims mutexes (suc n) t) 0 ≡ here.0 = rw here.1 refl in
      (rw same (above_below owners (suc n) t here.0 known here.1), path_below owners t n m x known (omega arith) h)

  path_distinct : NoCycle claims mutexes → (t n x : ℕ) → above_in claims mutexes n t ≡ Some x → IsDistinct eqb (path n t)
  path_distinct free t zero x h = IsDistinct-cons eqb t [] tt (distinct_none tt)
  path_distinct free t (suc n) x h =
      let before = alive t n (suc n) x (omega arith) h in
      let same : unwrap_or (above_in claims mutexes (suc n) t) 0 ≡ x = rw h refl in
      IsDistinct-cons eqb (unwrap_or (above_in claims mutexes (suc n) t) 0) (path n t)
      (rw same (apart free t n (suc n) x (omega arith) h)) (path_distinct free t n before.0 before.1)

  too_long : NoCycle claims mutexes → OwnersAreThreads claims mutexes → (t x : ℕ) → t < length claims →
      above_in claims mutexes (length claims) t ≡ Some x → ⊥
  too_long free owners t x known h =
      let below = path_below owners t (length claims) (length claims) x known (omega arith) h in
      let most = length-le_from_distinct_below (path (length claims) t) (length claims) (path_distinct free t (length claims) x h)
      (λ u e. among (λ y. y < length claims) u (path (length claims) t) below e) in
      omega (arith, length-path (length claims) t)

  pub chains_end : NoCycle claims mutexes → OwnersAreThreads claims mutexes → ChainsEnd claims mutexes
  chains_end free owners = record {
    each = λ t lt. elim (option_cases (above_in claims mutexes (length claims) t)) [
      | inl none ↦ none
      | inr some ↦ absurd (too_long free owners t some.0 lt some.1)
    ];
  }

  -- ---- the test of a cycle

  not_first : (b c : Bool) → (b || c) ≡ false → (b ≡ false) × (c ≡ false)
  not_first true c h = cc
  not_first false c h = (refl, h)

  not_owner : (u t : ℕ) → is (Some u) t ≡ false → u ≢ t
  not_owner u t h e = elim (eqb_tells u t) [ inl same ↦ absurd (let no_test : true ≡ false = sym same.0 ∙ h in cc) | inr other ↦ other.1 e ]

  pub first_step : (n o : ℕ) → above_in claims mutexes (suc n) o ≡ option_and_then (above_in claims mutexes n) (next_in claims mutexes o)
  first_step n o = first_step_by n (suc n) o (omega arith)

  pub leads_false : (n : ℕ) (owner : Option ℕ) (t : ℕ) → leads_from claims mutexes n owner t ≡ false → (j : ℕ) → j < n →
      option_and_then (above_in claims mutexes j) owner ≢ Some t
  leads_false zero owner t h j lt e = absurd (omega arith)
  leads_false (suc n) None t h j lt e = cc
  leads_false (suc n) (Some o) t h zero lt e =
      let parts = not_first (is (Some o) t) (leads_from claims mutexes n (next_in claims mutexes o) t) h in
      not_owner o t parts.0 (let same : Some o ≡ Some t = e in cc)
  leads_false (suc n) (Some o) t h (suc j) lt e =
      let parts = not_first (is (Some o) t) (leads_from claims mutexes n (next_in claims mutexes o) t) h in
      leads_false n (next_in claims mutexes o) t parts.1 j (omega arith) (sym (first_step j o) ∙ e)

  -- where the test says no, the owner of the mutex never leads to the thread
  pub never_leads : (t m o : ℕ) → (mutex_in mutexes m).owner ≡ Some o → OwnersAreThreads claims mutexes →
      closes_cycle_in claims mutexes t m ≡ false → NoCycle claims mutexes → (n : ℕ) → above_in claims mutexes n o ≢ Some t
  never_leads t m o owned owners unclosed free n h =
      let below = within_chain claims mutexes o n (length claims) t ((chains_end free owners).each o (owners.each m o owned)) h in
      let test : leads_from claims mutexes (length claims) (Some o) t ≡ false = rw (← owned) unclosed in
      leads_false (length claims) (Some o) t test n below h
