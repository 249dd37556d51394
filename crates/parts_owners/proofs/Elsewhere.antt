-- What a change of a claim or of an owner leaves of the equations and of the chains.
use Rattle.std.proofs.Common.{Bool, List, None, Some, [], ap, arith, get_or, inl, inr, length, refl, set, suc, sym, zero, ℕ, ◌+◌, ◌<◌, ◌∷◌, ◌≡◌, ◌≢◌, ◌⊎◌, ◌∙◌}
use Rattle.std.specs.Prelude.{flat_map, map, max}
use Rattle.std.specs.List.{AllByRecursion}
use Rattle.std.proofs.lemmas.Bool.Decides.{eqb_tells}
use Rattle.rules_machine.specs.Lists.{greatest, is, kept_if, numbers_from, numbers_where}
use Rattle.rules_machine.specs.State.{Mutex}
use Rattle.rules_machine.specs.Threads.{mutex_in, no_mutex}
use Rattle.rules_machine.specs.Priorities.{Claim, assigned_in, base_in, owner_ceiling, inherit_waiters_in, is_inherit_mutex_of}
use Rattle.parts_owners.specs.Chains.{NoCycle, above_in, asked_in, awaited_in, next_in, waiters_in}
use Rattle.parts_owners.proofs.Asked.{waiters_from}
use Rattle.parts_owners.proofs.Cycles.{above_add, option_cases}
use Rattle.parts_owners.proofs.InheritWaiters.{owner_tells}

each_then : (P Q : ℕ → Type 0) (xs : List ℕ) → ((x : ℕ) → P x → Q x) → AllByRecursion P xs → AllByRecursion Q xs
each_then P Q [] f h = tt
each_then P Q (x ∷ xs) f h = (f x h.0, each_then P Q xs f h.1)

joined_same : (f g : ℕ → List ℕ) (ks : List ℕ) → AllByRecursion (λ k. f k ≡ g k) ks → flat_map f ks ≡ flat_map g ks
joined_same f g [] h = refl
joined_same f g (k ∷ ks) h = rw (h.0, joined_same f g ks h.1) refl

-- ---- claims

waiters_same : (k n : ℕ) (xs ys : List Claim) → length ys ≡ length xs → ((i : ℕ) → is (awaited_in ys i) k ≡ is (awaited_in xs i) k) →
    waiters_from n k ys ≡ waiters_from n k xs
waiters_same k n [] [] e h = refl
waiters_same k n [] (y ∷ ys) e h = absurd (omega arith)
waiters_same k n (x ∷ xs) [] e h = absurd (omega arith)
waiters_same k n (x ∷ xs) (y ∷ ys) e h =
    let first : is y.awaited k ≡ is x.awaited k = h 0 in
    let rest = waiters_same k (n + 1) xs ys (omega arith) (λ i. h (suc i)) in
    rw (first, rest) refl

-- a thread that gets an assigned priority above what it has is asked for that one
pub asked_raised : (old new : List Claim) (mutexes : List Mutex) (e : ℕ → ℕ) (t p : ℕ) → length new ≡ length old → assigned_in new mutexes t ≡ p →
    ((i : ℕ) → awaited_in new i ≡ awaited_in old i) → e t ≡ asked_in old mutexes e t → e t < p → p ≡ asked_in new mutexes e t
asked_raised old new mutexes e t p lengths assigned waits has above =
    let ks = numbers_where (is_inherit_mutex_of t) mutexes in
    let lenders : inherit_waiters_in new mutexes t ≡ inherit_waiters_in old mutexes t =
    joined_same (waiters_in new) (waiters_in old) ks
    (each_then (λ k. (mutex_in mutexes k).owner ≡ Some t) (λ k. waiters_in new k ≡ waiters_in old k) ks
    (λ k owned. waiters_same k 0 old new lengths (λ i. ap (λ o. is o k) (waits i))) (owner_tells old mutexes t)) in
    let no_more = most (assigned_in old mutexes t) (greatest (map (owner_ceiling t) mutexes)) (greatest (map e (inherit_waiters_in old mutexes t))) (e t) p has above in
    rw (lenders, assigned) no_more
  where
    most : (a c l n p : ℕ) → n ≡ max (max a c) l → n < p → p ≡ max (max p c) l
    most a c l n p is lt = grind (arith, is, lt)

-- a thread whose assigned priority stays, and for whose mutexes the same threads wait, is asked for the same
pub asked_elsewhere : (old new : List Claim) (mutexes : List Mutex) (e : ℕ → ℕ) (u : ℕ) → length new ≡ length old →
    assigned_in new mutexes u ≡ assigned_in old mutexes u →
    ((k : ℕ) → (mutex_in mutexes k).owner ≡ Some u → (i : ℕ) → is (awaited_in new i) k ≡ is (awaited_in old i) k) →
    asked_in new mutexes e u ≡ asked_in old mutexes e u
asked_elsewhere old new mutexes e u lengths assigned waits =
    let lenders : inherit_waiters_in new mutexes u ≡ inherit_waiters_in old mutexes u =
    joined_same (waiters_in new) (waiters_in old) (numbers_where (is_inherit_mutex_of u) mutexes)
    (each_then (λ k. (mutex_in mutexes k).owner ≡ Some u) (λ k. waiters_in new k ≡ waiters_in old k) (numbers_where (is_inherit_mutex_of u) mutexes)
    (λ k owned. waiters_same k 0 old new lengths (waits k owned)) (owner_tells old mutexes u)) in
    let base : base_in new mutexes u ≡ base_in old mutexes u = ap (λ n. max n (greatest (map (owner_ceiling u) mutexes))) assigned in
    rw (lenders, base) refl

-- ---- mutexes

map_same : (f : Mutex → ℕ) (k : ℕ) (y : Mutex) (xs : List Mutex) → f y ≡ f (get_or xs k no_mutex) → map f (set xs k y) ≡ map f xs
map_same f k y [] h = refl
map_same f zero y (x ∷ xs) h = ap (λ n. n ∷ map f xs) h
map_same f (suc k) y (x ∷ xs) h = ap (λ ns. f x ∷ ns) (map_same f k y xs h)

numbers_same : (p : Mutex → Bool) (n k : ℕ) (y : Mutex) (xs : List Mutex) → p y ≡ p (get_or xs k no_mutex) →
    numbers_from n p (set xs k y) ≡ numbers_from n p xs
numbers_same p n k y [] h = refl
numbers_same p n zero y (x ∷ xs) h = ap (λ b. kept_if b n (numbers_from (n + 1) p xs)) h
numbers_same p n (suc k) y (x ∷ xs) h = ap (λ ns. kept_if (p x) n ns) (numbers_same p (n + 1) k y xs h)

-- a thread for which a mutex is as it was is asked for the same
pub asked_beside : (claims : List Claim) (mutexes : List Mutex) (e : ℕ → ℕ) (k u : ℕ) (y : Mutex) →
    owner_ceiling u y ≡ owner_ceiling u (mutex_in mutexes k) → is_inherit_mutex_of u y ≡ is_inherit_mutex_of u (mutex_in mutexes k) →
    asked_in claims (set mutexes k y) e u ≡ asked_in claims mutexes e u
asked_beside claims mutexes e k u y ceiling lends =
    let lenders : inherit_waiters_in claims (set mutexes k y) u ≡ inherit_waiters_in claims mutexes u =
    ap (λ ks. flat_map (waiters_in claims) ks) (numbers_same (is_inherit_mutex_of u) 0 k y mutexes lends) in
    let base : base_in claims (set mutexes k y) u ≡ base_in claims mutexes u =
    ap (λ ns. max (assigned_in claims mutexes u) (greatest ns)) (map_same (owner_ceiling u) k y mutexes ceiling) in
    rw (lenders, base) refl

-- ---- chains

module _ (old : List Claim) (before : List Mutex) (new : List Claim) (after : List Mutex) where
  step_back : (n t u : ℕ) → above_in new after (suc n) t ≡ Some u → (y : ℕ) × (above_in new after n t ≡ Some y) × (next_in new after y ≡ Some u)
  step_back n t u h = elim (option_cases (above_in new after n t)) [
    | inl none ↦ absurd (let gone : above_in new after (suc n) t ≡ None = rw none refl in cc)
    | inr some ↦ (let next : next_in new after some.0 ≡ Some u = (let here : above_in new after (suc n) t ≡ next_in new after some.0 = rw some.1 refl in sym here ∙ h) in
        (some.0, some.1, next))
  ]

  step_on : (n t y u : ℕ) → above_in old before n t ≡ Some y → next_in old before y ≡ Some u → above_in old before (suc n) t ≡ Some u
  step_on n t y u here next = rw here next

  stopped : (t : ℕ) → next_in new after t ≡ None → (n m : ℕ) → m ≡ n + 1 → above_in new after m t ≡ None
  stopped t stops n m far = rw far (above_add new after n 1 t ∙ rw stops refl)

  -- steps that were there before
  less_above : ((t u : ℕ) → next_in new after t ≡ Some u → next_in old before t ≡ Some u) → (n t u : ℕ) → above_in new after n t ≡ Some u →
      above_in old before n t ≡ Some u
  less_above less zero t u h = h
  less_above less (suc n) t u h =
      let back = step_back n t u h in
      step_on n t back.0 u (less_above less n t back.0 back.1) (less back.0 u back.2)

  pub less_no_cycle : ((t u : ℕ) → next_in new after t ≡ Some u → next_in old before t ≡ Some u) → NoCycle old before → NoCycle new after
  less_no_cycle less free = record { each = λ t n h. free.each t n (less_above less (suc n) t t h) }

  -- ---- one step more, from a thread that no chain from its end leads to

  module _ (t o : ℕ) (others : (u : ℕ) → u ≢ t → next_in new after u ≡ next_in old before u) (step : next_in new after t ≡ Some o) (apart : (n : ℕ) → above_in old before n o ≢ Some t) where
    from_end : (n x : ℕ) → above_in new after n o ≡ Some x → above_in old before n o ≡ Some x
    from_end zero x h = h
    from_end (suc n) x h =
        let back = step_back n o x h in
        let was = from_end n back.0 back.1 in
        let other : back.0 ≢ t = (λ (e : back.0 ≡ t). apart n (was ∙ ap (λ y. Some y) e)) in
        step_on n o back.0 x was (sym (others back.0 other) ∙ back.2)

    -- a chain is an old one, or it went through the new step
    either : (n v x : ℕ) → above_in new after n v ≡ Some x →
        (above_in old before n v ≡ Some x) ⊎ ((i : ℕ) × (j : ℕ) × (above_in old before i v ≡ Some t) × (above_in old before j o ≡ Some x))
    either zero v x h = inl h
    either (suc n) v x h =
        let back = step_back n v x h in
        elim (either n v back.0 back.1) [
          | inl was ↦ elim (eqb_tells back.0 t) [
            | inl same ↦ (let there : above_in old before n v ≡ Some t = was ∙ ap (λ y. Some y) same.1 in
                let end : Some o ≡ Some x = sym step ∙ (let e : next_in new after back.0 ≡ next_in new after t = ap (next_in new after) same.1 in sym e ∙ back.2) in
                inr (n, zero, there, end))
            | inr other ↦ inl (step_on n v back.0 x was (sym (others back.0 other.1) ∙ back.2))
          ]
          | inr through ↦ (let other : back.0 ≢ t = (λ (e : back.0 ≡ t). apart through.1 (through.3 ∙ ap (λ y. Some y) e)) in
              inr (through.0, suc through.1, through.2, step_on through.1 o back.0 x through.3 (sym (others back.0 other) ∙ back.2)))
        ]

    pub more_no_cycle : NoCycle old before → NoCycle new after
    more_no_cycle free = record {
      each = λ v n h. elim (either (suc n) v v h) [
        | inl was ↦ free.each v n was
        | inr through ↦ (let round : above_in old before (through.0 + through.1) o ≡ Some t = above_add old before through.0 through.1 o ∙ rw through.3 through.2 in
            apart (through.0 + through.1) round)
      ];
    }

  -- ---- a mutex has an owner that waits for none

  module _ (o : ℕ) (stops : next_in new after o ≡ None) (steps : (u x : ℕ) → next_in new after u ≡ Some x → (x ≡ o) ⊎ (next_in old before u ≡ Some x)) where
    to_owner : (n v x : ℕ) → above_in new after n v ≡ Some x → (x ≡ o) ⊎ (above_in old before n v ≡ Some x)
    to_owner zero v x h = inr h
    to_owner (suc n) v x h =
        let back = step_back n v x h in
        elim (to_owner n v back.0 back.1) [
          | inl at_owner ↦ absurd (let gone : next_in new after back.0 ≡ None = ap (next_in new after) at_owner ∙ stops in let e = back.2 in cc)
          | inr was ↦ elim (steps back.0 x back.2) [ inl at_owner ↦ inl at_owner | inr next ↦ inr (step_on n v back.0 x was next) ]
        ]

    pub owned_no_cycle : NoCycle old before → NoCycle new after
    owned_no_cycle free = record {
      each = λ v n h. elim (to_owner (suc n) v v h) [
        | inl at_owner ↦ (let gone : above_in new after (suc n) v ≡ None = rw at_owner (stopped o stops n (suc n) (omega arith)) in cc)
        | inr was ↦ free.each v n was
      ];
    }
