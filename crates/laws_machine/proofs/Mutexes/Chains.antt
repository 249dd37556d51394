-- Chains of owners and waits: how long they are, and what changes of owners and waits do to them.
use Rattle.std.proofs.Common.{Bool, List, None, Option, Some, [], ap, arith, eqb, false, inl, inr, length, refl, suc, sym, true, zero, ℕ, ◌+◌, ◌<◌, ◌≤◌, ◌∷◌, ◌≡◌, ◌⊎◌}
use Rattle.std.specs.Prelude.{option_and_then, ◌-◌, ◌==◌, ◌||◌}
use Rattle.std.specs.List.{AllByRecursion, IsDistinct, list_any}
use Rattle.std.proofs.lemmas.Map.Steps.{length-le_from_distinct_below}
use mathlib.Core.Path.{subst, ◌∙◌}
use Rattle.rules_machine.specs.Lists.{is}
use Rattle.rules_moves.proofs.Waiters.Best.{Each}

contra : {b : Bool} → b ≡ true → b ≡ false → ⊥
contra p q = grind arith

or_cases : (a b : Bool) → (a || b) ≡ true → (a ≡ true) ⊎ (b ≡ true)
or_cases true b e = inl refl
or_cases false b e = inr e

or_right : (a b : Bool) → b ≡ true → (a || b) ≡ true
or_right a b e = grind arith

or_left : (a b : Bool) → a ≡ true → (a || b) ≡ true
or_left a b e = grind arith

same_turned : (u t : ℕ) → (u == t) ≡ (t == u)
same_turned u t = by_eq (t == u) refl
  where
    by_eq : (b : Bool) → (t == u) ≡ b → (u == t) ≡ b
    by_eq true e = grind arith
    by_eq false e = grind arith

pub is_some_of : (o : Option ℕ) (t : ℕ) → is o t ≡ true → o ≡ Some t
is_some_of None t e = absurd (grind arith)
is_some_of (Some u) t e = let it : u ≡ t = grind arith in ap Some it

pub some_is : (o : Option ℕ) (t : ℕ) → o ≡ Some t → is o t ≡ true
some_is o t e = rw e (grind arith)

-- owners of mutexes, and the mutexes that threads wait for
module _ (own aw : ℕ → Option ℕ) where
  abbrev pub holder : Option ℕ → Option ℕ
  holder a = option_and_then (λ (k : ℕ). own k) a

  abbrev pub onward : Option ℕ → Option ℕ
  onward o = option_and_then (λ (u : ℕ). aw u) o

  -- whether they lead from a mutex to a thread in at most so many steps
  abbrev pub leads : ℕ → Option ℕ → ℕ → Bool
  leads zero a t = false
  leads (suc n) a t = is (holder a) t || leads n (onward (holder a)) t

  pub leads_none : (n t : ℕ) → leads n None t ≡ false
  leads_none zero t = refl
  leads_none (suc n) t = leads_none n t

  pub leads_more : (n : ℕ) (a : Option ℕ) (t : ℕ) → leads n a t ≡ true → leads (suc n) a t ≡ true
  leads_more zero a t e = absurd (grind arith)
  leads_more (suc n) a t e = of_two (or_cases (is (holder a) t) (leads n (onward (holder a)) t) e) (leads_more n (onward (holder a)) t)
    where
      of_two : (is (holder a) t ≡ true) ⊎ (leads n (onward (holder a)) t ≡ true) → (leads n (onward (holder a)) t ≡ true → leads (suc n) (onward (holder a)) t ≡ true) → leads (suc (suc n)) a t ≡ true
      of_two (inl h) rest = or_left _ _ h
      of_two (inr h) rest = or_right _ _ (rest h)

  pub leads_by : (d n : ℕ) (a : Option ℕ) (t : ℕ) → leads n a t ≡ true → leads (d + n) a t ≡ true
  leads_by zero n a t e = let same : 0 + n ≡ n = omega arith in subst (λ (j : ℕ). leads j a t ≡ true) (sym same) e
  leads_by (suc d) n a t e = let same : suc d + n ≡ suc (d + n) = omega arith in subst (λ (j : ℕ). leads j a t ≡ true) (sym same) (leads_more (d + n) a t (leads_by d n a t e))

  -- one chain and then another
  pub leads_join : (n m : ℕ) (a : Option ℕ) (u t : ℕ) → leads n a u ≡ true → leads m (aw u) t ≡ true → leads (n + m) a t ≡ true
  leads_join zero m a u t e f = absurd (grind arith)
  leads_join (suc n) m a u t e f =
      let same : suc n + m ≡ suc (n + m) = omega arith in
      subst (λ (j : ℕ). leads j a t ≡ true) (sym same) (of_two (or_cases (is (holder a) u) (leads n (onward (holder a)) u) e) (λ h. leads_join n m (onward (holder a)) u t h f))
    where
      of_two : (is (holder a) u ≡ true) ⊎ (leads n (onward (holder a)) u ≡ true) → (leads n (onward (holder a)) u ≡ true → leads (n + m) (onward (holder a)) t ≡ true) → leads (suc (n + m)) a t ≡ true
      of_two (inl h) rest =
          let it : holder a ≡ Some u = is_some_of (holder a) u h in
          or_right (is (holder a) t) _ (subst (λ (o : Option ℕ). leads (n + m) (onward o) t ≡ true) (sym it) (leads_by n m (aw u) t f))
      of_two (inr h) rest = or_right (is (holder a) t) _ (rest h)

  -- ---- no chain is longer than there are threads

  abbrev with_first : Option ℕ → List ℕ → List ℕ
  with_first None us = []
  with_first (Some u) us = u ∷ us

  abbrev path : ℕ → Option ℕ → List ℕ
  path zero a = []
  path (suc n) a = with_first (holder a) (path n (onward (holder a)))

  leads_path : (n : ℕ) (a : Option ℕ) (t : ℕ) → leads n a t ≡ list_any (λ u. u == t) (path n a)
  leads_path zero a t = refl
  leads_path (suc n) a t = by_holder (holder a) (leads_path n (onward (holder a)) t)
    where
      by_holder : (o : Option ℕ) → leads n (onward o) t ≡ list_any (λ u. u == t) (path n (onward o)) → (is o t || leads n (onward o) t) ≡ list_any (λ u. u == t) (with_first o (path n (onward o)))
      by_holder None e = leads_none n t
      by_holder (Some u) e = ap (λ (b : Bool). (u == t) || b) e

  path_stops : (n : ℕ) (a : Option ℕ) → length (path (suc n) a) ≤ n → path (suc n) a ≡ path n a
  path_stops zero a e = by_holder (holder a) e
    where
      by_holder : (o : Option ℕ) → length (with_first o []) ≤ 0 → with_first o [] ≡ []
      by_holder None e = refl
      by_holder (Some u) e = absurd (omega arith)
  path_stops (suc n) a e = by_holder (holder a) (path_stops n (onward (holder a))) e
    where
      by_holder : (o : Option ℕ) → (length (path (suc n) (onward o)) ≤ n → path (suc n) (onward o) ≡ path n (onward o)) → length (with_first o (path (suc n) (onward o))) ≤ suc n →
          with_first o (path (suc n) (onward o)) ≡ with_first o (path n (onward o))
      by_holder None rest e = refl
      by_holder (Some u) rest e = ap (λ us. u ∷ us) (rest (omega arith))

  module _ (most : ℕ) (below : (k u : ℕ) → own k ≡ Some u → u < most) (no_cycle : (t n : ℕ) → leads n (aw t) t ≡ false) where
    holder_below : (a : Option ℕ) (u : ℕ) → holder a ≡ Some u → u < most
    holder_below None u e = absurd (grind arith)
    holder_below (Some k) u e = below k u e

    path_below : (n : ℕ) (a : Option ℕ) → Each (λ (u : ℕ). u < most) (path n a)
    path_below zero a = tt
    path_below (suc n) a = by_holder (holder a) refl (path_below n (onward (holder a)))
      where
        by_holder : (o : Option ℕ) → holder a ≡ o → Each (λ (u : ℕ). u < most) (path n (onward o)) → Each (λ (u : ℕ). u < most) (with_first o (path n (onward o)))
        by_holder None e rest = tt
        by_holder (Some u) e rest = (holder_below a u e, rest)

    any_below : (us : List ℕ) → Each (λ (u : ℕ). u < most) us → (q : ℕ) → list_any (eqb q) us ≡ true → q < most
    any_below [] each q e = absurd (grind arith)
    any_below (u ∷ us) each q e = of_two (or_cases (eqb q u) (list_any (eqb q) us) e) (any_below us each.1 q)
      where
        of_two : (eqb q u ≡ true) ⊎ (list_any (eqb q) us ≡ true) → (list_any (eqb q) us ≡ true → q < most) → q < most
        of_two (inl h) rest = let it : u ≡ q = grind arith in subst (λ (j : ℕ). j < most) it each.0
        of_two (inr h) rest = rest h

    turned : (us : List ℕ) (t : ℕ) → list_any (λ u. u == t) us ≡ list_any (eqb t) us
    turned [] t = refl
    turned (u ∷ us) t = let rest = turned us t in let one : (u == t) ≡ eqb t u = same_turned u t in rw (one, rest) refl

    none_same : (t : ℕ) (us : List ℕ) → list_any (eqb t) us ≡ false → AllByRecursion (λ (u : ℕ). eqb t u ≡ false) us
    none_same t [] e = tt
    none_same t (u ∷ us) e = (grind arith, none_same t us (grind arith))

    path_distinct : (n : ℕ) (a : Option ℕ) → IsDistinct eqb (path n a)
    unfolding IsDistinct
    path_distinct zero a = tt
    path_distinct (suc n) a = by_holder (holder a) (path_distinct n (onward (holder a)))
      where
        by_holder : (o : Option ℕ) → IsDistinct eqb (path n (onward o)) → IsDistinct eqb (with_first o (path n (onward o)))
        by_holder None rest = tt
        by_holder (Some u) rest = (none_same u (path n (aw u)) (sym (turned (path n (aw u)) u) ∙ sym (leads_path n (aw u) u) ∙ no_cycle u n), rest)

    path_short : (n : ℕ) (a : Option ℕ) → length (path n a) ≤ most
    path_short n a = length-le_from_distinct_below (path n a) most (path_distinct n a) (any_below (path n a) (path_below n a))

    pub leads_bounded : (n : ℕ) (a : Option ℕ) (t : ℕ) → leads n a t ≡ true → leads most a t ≡ true
    leads_bounded zero a t e = absurd (grind arith)
    leads_bounded (suc n) a t e = by_size (le_or n most) (leads_bounded n a t)
      where
        le_or : (n m : ℕ) → (suc n ≤ m) ⊎ (m ≤ n)
        le_or n m = grind arith

        by_size : (suc n ≤ most) ⊎ (most ≤ n) → (leads n a t ≡ true → leads most a t ≡ true) → leads most a t ≡ true
        by_size (inl h) rest = let same : (most - suc n) + suc n ≡ most = omega arith in subst (λ (j : ℕ). leads j a t ≡ true) same (leads_by (most - suc n) (suc n) a t e)
        by_size (inr h) rest =
            let short = path_short (suc n) a in
            let stops : path (suc n) a ≡ path n a = path_stops n a (omega arith) in
            rest (leads_path n a t ∙ ap (list_any (λ u. u == t)) (sym stops) ∙ sym (leads_path (suc n) a t) ∙ e)

-- ---- other owners and waits

module _ (own aw own' aw' : ℕ → Option ℕ) where
  -- owners go over to threads that do not wait, and waits end
  pub calmer : ((k u : ℕ) → own' k ≡ Some u → (own k ≡ Some u) ⊎ (aw' u ≡ None)) → ((u k : ℕ) → aw' u ≡ Some k → aw u ≡ Some k) →
      (n : ℕ) (a : Option ℕ) (t j : ℕ) → aw' t ≡ Some j → leads own' aw' n a t ≡ true → leads own aw n a t ≡ true
  calmer ho ha zero a t j w e = absurd (grind arith)
  calmer ho ha (suc n) a t j w e = by_holder (holder own' aw' a) refl e (λ b h. calmer ho ha n b t j w h)
    where
      held : (a : Option ℕ) (u i : ℕ) → holder own' aw' a ≡ Some u → aw' u ≡ Some i → holder own aw a ≡ Some u
      held None u i e f = absurd (grind arith)
      held (Some k) u i e f = of_two (ho k u e)
        where
          of_two : (own k ≡ Some u) ⊎ (aw' u ≡ None) → own k ≡ Some u
          of_two (inl h) = h
          of_two (inr h) = absurd (grind arith)

      further : (u : ℕ) (o : Option ℕ) → holder own' aw' a ≡ Some u → aw' u ≡ o → leads own' aw' n o t ≡ true → ((b : Option ℕ) → leads own' aw' n b t ≡ true → leads own aw n b t ≡ true) →
          leads own aw (suc n) a t ≡ true
      further u None h f k rest = absurd (contra k (leads_none own' aw' n t))
      further u (Some i) h f k rest =
          let it : holder own aw a ≡ Some u = held a u i h f in
          or_right (is (holder own aw a) t) _ (subst (λ (o : Option ℕ). leads own aw n (onward own aw o) t ≡ true) (sym it) (subst (λ (b : Option ℕ). leads own aw n b t ≡ true) (sym (ha u i f)) (rest (Some i) k)))

      by_holder : (o : Option ℕ) → holder own' aw' a ≡ o → (is o t || leads own' aw' n (onward own' aw' o) t) ≡ true → ((b : Option ℕ) → leads own' aw' n b t ≡ true → leads own aw n b t ≡ true) →
          leads own aw (suc n) a t ≡ true
      by_holder None h k rest = absurd (contra k (leads_none own' aw' n t))
      by_holder (Some u) h k rest = of_two (or_cases (u == t) (leads own' aw' n (aw' u) t) k)
        where
          of_two : ((u == t) ≡ true) ⊎ (leads own' aw' n (aw' u) t ≡ true) → leads own aw (suc n) a t ≡ true
          of_two (inl same) = let it : u ≡ t = grind arith in or_left _ _ (some_is (holder own aw a) t (held a t j (h ∙ ap Some it) w))
          of_two (inr k') = further u (aw' u) h refl k' rest

  pub still_no_cycle : ((k u : ℕ) → own' k ≡ Some u → (own k ≡ Some u) ⊎ (aw' u ≡ None)) → ((u k : ℕ) → aw' u ≡ Some k → aw u ≡ Some k) →
      ((t n : ℕ) → leads own aw n (aw t) t ≡ false) → (t n : ℕ) → leads own' aw' n (aw' t) t ≡ false
  still_no_cycle ho ha none t n = by_wait (aw' t) refl
    where
      by_wait : (o : Option ℕ) → aw' t ≡ o → leads own' aw' n o t ≡ false
      by_wait None e = leads_none own' aw' n t
      by_wait (Some j) e = by_test (leads own' aw' n (Some j) t) refl
        where
          by_test : (b : Bool) → leads own' aw' n (Some j) t ≡ b → b ≡ false
          by_test false h = refl
          by_test true h =
              absurd (contra (calmer ho ha n (Some j) t j e h) (ap (λ (o : Option ℕ). leads own aw n o t) (sym (ha t j e)) ∙ none t n))

-- ---- one thread more waits

module _ (own aw aw' : ℕ → Option ℕ) (t0 k : ℕ) (ha : (u j : ℕ) → aw' u ≡ Some j → (aw u ≡ Some j) ⊎ ((u ≡ t0) × (j ≡ k))) where
  -- a chain goes as before, or comes to the thread first and goes on from its mutex
  one_more : (n : ℕ) (a : Option ℕ) (t : ℕ) → leads own aw' n a t ≡ true → (leads own aw n a t ≡ true) ⊎ ((leads own aw n a t0 ≡ true) × (leads own aw' n (Some k) t ≡ true))
  one_more zero a t e = absurd (grind arith)
  one_more (suc n) a t e = by_holder (holder own aw a) refl e (λ b h. one_more n b t h)
    where
      later : (u i : ℕ) → holder own aw a ≡ Some u → aw u ≡ Some i → (v : ℕ) → leads own aw n (Some i) v ≡ true → leads own aw (suc n) a v ≡ true
      later u i h f v l = or_right (is (holder own aw a) v) _ (subst (λ (o : Option ℕ). leads own aw n (onward own aw o) v ≡ true) (sym h) (subst (λ (b : Option ℕ). leads own aw n b v ≡ true) (sym f) l))

      of_rest : (u i : ℕ) → holder own aw a ≡ Some u → aw u ≡ Some i → (leads own aw n (Some i) t ≡ true) ⊎ ((leads own aw n (Some i) t0 ≡ true) × (leads own aw' n (Some k) t ≡ true)) →
          (leads own aw (suc n) a t ≡ true) ⊎ ((leads own aw (suc n) a t0 ≡ true) × (leads own aw' (suc n) (Some k) t ≡ true))
      of_rest u i h f (inl l) = inl (later u i h f t l)
      of_rest u i h f (inr l) = inr (later u i h f t0 l.0, leads_more own aw' n (Some k) t l.1)

      further : (u : ℕ) (o : Option ℕ) → holder own aw a ≡ Some u → aw' u ≡ o → leads own aw' n o t ≡ true →
          ((b : Option ℕ) → leads own aw' n b t ≡ true → (leads own aw n b t ≡ true) ⊎ ((leads own aw n b t0 ≡ true) × (leads own aw' n (Some k) t ≡ true))) →
          (leads own aw (suc n) a t ≡ true) ⊎ ((leads own aw (suc n) a t0 ≡ true) × (leads own aw' (suc n) (Some k) t ≡ true))
      further u None h f l rest = absurd (contra l (leads_none own aw' n t))
      further u (Some i) h f l rest = of_two (ha u i f)
        where
          of_two : (aw u ≡ Some i) ⊎ ((u ≡ t0) × (i ≡ k)) → (leads own aw (suc n) a t ≡ true) ⊎ ((leads own aw (suc n) a t0 ≡ true) × (leads own aw' (suc n) (Some k) t ≡ true))
          of_two (inl g) = of_rest u i h g (rest (Some i) l)
          of_two (inr g) = inr (or_left _ _ (some_is (holder own aw a) t0 (h ∙ ap Some g.0)), leads_more own aw' n (Some k) t (subst (λ (j : ℕ). leads own aw' n (Some j) t ≡ true) g.1 l))

      by_holder : (o : Option ℕ) → holder own aw a ≡ o → (is o t || leads own aw' n (onward own aw' o) t) ≡ true →
          ((b : Option ℕ) → leads own aw' n b t ≡ true → (leads own aw n b t ≡ true) ⊎ ((leads own aw n b t0 ≡ true) × (leads own aw' n (Some k) t ≡ true))) →
          (leads own aw (suc n) a t ≡ true) ⊎ ((leads own aw (suc n) a t0 ≡ true) × (leads own aw' (suc n) (Some k) t ≡ true))
      by_holder None h l rest = absurd (contra l (leads_none own aw' n t))
      by_holder (Some u) h l rest = of_two (or_cases (u == t) (leads own aw' n (aw' u) t) l)
        where
          of_two : ((u == t) ≡ true) ⊎ (leads own aw' n (aw' u) t ≡ true) → (leads own aw (suc n) a t ≡ true) ⊎ ((leads own aw (suc n) a t0 ≡ true) × (leads own aw' (suc n) (Some k) t ≡ true))
          of_two (inl same) = let it : u ≡ t = grind arith in inl (or_left _ _ (some_is (holder own aw a) t (h ∙ ap Some it)))
          of_two (inr l') = further u (aw' u) h refl l' rest

  pub no_new_cycle : ((n : ℕ) → leads own aw n (Some k) t0 ≡ false) → ((t n : ℕ) → leads own aw n (aw t) t ≡ false) → (t n : ℕ) → leads own aw' n (aw' t) t ≡ false
  no_new_cycle safe none t n = by_wait (aw' t) refl
    where
      -- from its mutex no chain comes back to the thread
      at_thread : leads own aw' n (Some k) t0 ≡ true → ⊥
      at_thread l = of_two (one_more n (Some k) t0 l)
        where
          of_two : (leads own aw n (Some k) t0 ≡ true) ⊎ ((leads own aw n (Some k) t0 ≡ true) × (leads own aw' n (Some k) t0 ≡ true)) → ⊥
          of_two (inl h) = contra h (safe n)
          of_two (inr h) = contra h.0 (safe n)

      through : leads own aw n (aw t) t0 ≡ true → leads own aw' n (Some k) t ≡ true → ⊥
      through before after = of_two (one_more n (Some k) t after)
        where
          of_two : (leads own aw n (Some k) t ≡ true) ⊎ ((leads own aw n (Some k) t0 ≡ true) × (leads own aw' n (Some k) t ≡ true)) → ⊥
          of_two (inl h) = contra (leads_join own aw n n (Some k) t t0 h before) (safe (n + n))
          of_two (inr h) = contra h.0 (safe n)

      at_other : (j : ℕ) → aw t ≡ Some j → leads own aw' n (Some j) t ≡ true → ⊥
      at_other j e l = of_two (one_more n (Some j) t l)
        where
          of_two : (leads own aw n (Some j) t ≡ true) ⊎ ((leads own aw n (Some j) t0 ≡ true) × (leads own aw' n (Some k) t ≡ true)) → ⊥
          of_two (inl h) = contra (subst (λ (o : Option ℕ). leads own aw n o t ≡ true) (sym e) h) (none t n)
          of_two (inr h) = through (subst (λ (o : Option ℕ). leads own aw n o t0 ≡ true) (sym e) h.0) h.1

      not_so : (j : ℕ) → (aw t ≡ Some j) ⊎ ((t ≡ t0) × (j ≡ k)) → leads own aw' n (Some j) t ≡ true → ⊥
      not_so j (inl e) l = at_other j e l
      not_so j (inr e) l = at_thread (subst (λ (v : ℕ). leads own aw' n (Some k) v ≡ true) e.0 (subst (λ (i : ℕ). leads own aw' n (Some i) t ≡ true) e.1 l))

      by_wait : (o : Option ℕ) → aw' t ≡ o → leads own aw' n o t ≡ false
      by_wait None e = leads_none own aw' n t
      by_wait (Some j) e = by_test (leads own aw' n (Some j) t) refl
        where
          by_test : (b : Bool) → leads own aw' n (Some j) t ≡ b → b ≡ false
          by_test false h = refl
          by_test true h = absurd (not_so j (ha t j e) h)
