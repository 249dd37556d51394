-- The first of those that are chosen by their places is the one that stands before all others.
use Rattle.std.proofs.Common.{◌≡◌, ◌≢◌, ℕ, zero, suc, ◌+◌, ◌<◌, Bool, true, false, if◌then◌else◌, Option, Some, None, List, [], ◌∷◌, length, refl, sym, ap, subst, ◌∙◌, arith}
use Rattle.rules_machine.specs.Lists.{first_by, first_of}
use Rattle.parts_waiters.specs.declared.order.Candidate.{Candidate}
use Rattle.parts_waiters.specs.declared.Place.{Place}
use Rattle.parts_waiters.specs.declared.WaitObj.{WaitObj}
use Rattle.parts_waiters.specs.Places.{after_from, awaiting_at, awaiting_from, comes_before, kept_after, place_in, standing_at, standing_from, with_first}
use Rattle.parts_waiters.specs.Service.{Before}
use Rattle.parts_waiters.proofs.Precedence.{serves, serves_not_back}

-- those that are chosen, where the first place is that of thread n
abbrev pub chosen_from : (ℕ → Option Place → Option Candidate) → ℕ → List (Option Place) → List Candidate
chosen_from f n [] = []
chosen_from f n (p ∷ places) = with_first (f n p) (chosen_from f (n + 1) places)

pub standing_chosen : (obj : WaitObj) (n : ℕ) (places : List (Option Place)) → standing_from n obj places ≡ chosen_from (λ i p. standing_at i obj p) n places
standing_chosen obj n [] = refl
standing_chosen obj n (p ∷ places) = ap (with_first (standing_at n obj p)) (standing_chosen obj (n + 1) places)

pub after_chosen : (from : Candidate) (obj : WaitObj) (n : ℕ) (places : List (Option Place)) → after_from from n obj places ≡ chosen_from (λ i p. kept_after from (standing_at i obj p)) n places
after_chosen from obj n [] = refl
after_chosen from obj n (p ∷ places) = ap (with_first (kept_after from (standing_at n obj p))) (after_chosen from obj (n + 1) places)

pub awaiting_chosen : (sig : ℕ) (sets : List ℕ) (n : ℕ) (places : List (Option Place)) → awaiting_from sig sets n places ≡ chosen_from (λ i p. awaiting_at sig sets i p) n places
awaiting_chosen sig sets n [] = refl
awaiting_chosen sig sets n (p ∷ places) = ap (with_first (awaiting_at sig sets n p)) (awaiting_chosen sig sets (n + 1) places)

some_same : {X : Type 0} {x y : X} → Some x ≡ Some y → x ≡ y
some_same e = cc

module _ (f : ℕ → Option Place → Option Candidate) where
  -- the candidate is chosen, at the i-th of these places
  abbrev pub IsChosen : ℕ → List (Option Place) → ℕ → Candidate → Type 0
  IsChosen n places i c = (i < length places) × (f (n + i) (place_in places i) ≡ Some c)

  later_chosen : (n : ℕ) (p : Option Place) (places : List (Option Place)) (i : ℕ) (c : Candidate) → IsChosen (n + 1) places i c → IsChosen n (p ∷ places) (suc i) c
  later_chosen n p places i c h = let on : n + 1 + i ≡ n + suc i = omega arith in (omega (arith, h.0), subst (λ m. f m (place_in places i) ≡ Some c) on h.1)

  here_chosen : (n : ℕ) (p : Option Place) (places : List (Option Place)) (c : Candidate) → f n p ≡ Some c → IsChosen n (p ∷ places) 0 c
  here_chosen n p places c e = let at : n ≡ n + 0 = omega arith in (omega arith, subst (λ m. f m p ≡ Some c) at e)

  -- nobody is first where nobody is chosen
  pub nobody : (n : ℕ) (places : List (Option Place)) → ((i : ℕ) → i < length places → f (n + i) (place_in places i) ≡ None) → first_by comes_before (chosen_from f n places) ≡ None
  nobody n [] none = refl
  nobody n (p ∷ places) none =
      let at : n + 0 ≡ n = omega arith in
      let here : f n p ≡ None = subst (λ m. f m p ≡ None) at (none 0 (omega arith)) in
      rw here (nobody (n + 1) places (λ i l. let on : n + suc i ≡ n + 1 + i = omega arith in subst (λ m. f m (place_in places i) ≡ None) on (none (suc i) (omega (arith, l)))))

  -- who is first is chosen
  of_two : (n : ℕ) (p : Option Place) (places : List (Option Place)) (x y : Candidate) (b : Bool) (c : Candidate) → f n p ≡ Some x → ((i : ℕ) × IsChosen (n + 1) places i y)
      → (if b then y else x) ≡ c → (i : ℕ) × IsChosen n (p ∷ places) i c
  of_two n p places x y true c here rest e = (suc rest.0, later_chosen n p places rest.0 c (subst (λ z. IsChosen (n + 1) places rest.0 z) e rest.1))
  of_two n p places x y false c here rest e = (0, here_chosen n p places c (here ∙ ap (λ z. Some z) e))

  join : (n : ℕ) (p : Option Place) (places : List (Option Place)) (x : Candidate) (o : Option Candidate) (c : Candidate) → f n p ≡ Some x → ((y : Candidate) → o ≡ Some y → (i : ℕ) × IsChosen (n + 1) places i y)
      → first_of comes_before x o ≡ c → (i : ℕ) × IsChosen n (p ∷ places) i c
  join n p places x None c here rest e = (0, here_chosen n p places c (here ∙ ap (λ z. Some z) e))
  join n p places x (Some y) c here rest e = of_two n p places x y (comes_before y x) c here (rest y refl) e

  found : (n : ℕ) (p : Option Place) (places : List (Option Place)) (c : Candidate) (o : Option Candidate) → f n p ≡ o
      → ((y : Candidate) → first_by comes_before (chosen_from f (n + 1) places) ≡ Some y → (i : ℕ) × IsChosen (n + 1) places i y)
      → first_by comes_before (with_first o (chosen_from f (n + 1) places)) ≡ Some c → (i : ℕ) × IsChosen n (p ∷ places) i c
  found n p places c None here rest e = let at = rest c e in (suc at.0, later_chosen n p places at.0 c at.1)
  found n p places c (Some x) here rest e = join n p places x (first_by comes_before (chosen_from f (n + 1) places)) c here rest (some_same e)

  pub is_chosen : (n : ℕ) (places : List (Option Place)) (c : Candidate) → first_by comes_before (chosen_from f n places) ≡ Some c → (i : ℕ) × IsChosen n places i c
  is_chosen n [] c e = cc
  is_chosen n (p ∷ places) c e = found n p places c (f n p) refl (λ y is. is_chosen (n + 1) places y is) e

  module _ (own : (n : ℕ) (p : Option Place) (c : Candidate) → f n p ≡ Some c → c.thread ≡ n) (best : Candidate) where
    -- it stands before each other that is chosen
    abbrev pub StandsFirst : ℕ → List (Option Place) → ℕ → Type 0
    StandsFirst n places i = (j : ℕ) (c : Candidate) → j ≢ i → IsChosen n places j c → Before best c

    stays : (o : Option Candidate) → ((c : Candidate) → o ≡ Some c → Before best c) → first_of comes_before best o ≡ best
    stays None each = refl
    stays (Some c) each = ap (λ b. if b then c else best) (serves_not_back best c (each c refl))

    first_here : (n : ℕ) (p : Option Place) (places : List (Option Place)) → f n p ≡ Some best → StandsFirst n (p ∷ places) 0 → first_by comes_before (chosen_from f n (p ∷ places)) ≡ Some best
    first_here n p places here first =
        let cs = chosen_from f (n + 1) places in
        subst (λ (o : Option Candidate). first_by comes_before (with_first o cs) ≡ Some best) (sym here)
        (ap (λ z. Some z) (stays (first_by comes_before cs) (λ c e. let at = is_chosen (n + 1) places c e in
        first (suc at.0) c (λ same. omega (arith, same)) (later_chosen n p places at.0 c at.1))))

    past : (n : ℕ) (p : Option Place) (cs : List Candidate) (o : Option Candidate) → f n p ≡ o → first_by comes_before cs ≡ Some best → ((x : Candidate) → f n p ≡ Some x → Before best x) → n < best.thread
        → first_by comes_before (with_first (f n p) cs) ≡ Some best
    past n p cs None here rest each less = subst (λ (o : Option Candidate). first_by comes_before (with_first o cs) ≡ Some best) (sym here) rest
    past n p cs (Some x) here rest each less =
        let low : x.thread ≡ n = own n p x here in
        subst (λ (o : Option Candidate). first_by comes_before (with_first o cs) ≡ Some best) (sym here)
        (ap (λ (o : Option Candidate). Some (first_of comes_before x o)) rest ∙ ap (λ b. Some (if b then best else x)) (serves best x (each x here) (omega (arith, low, less))))

    pub first_is : (n : ℕ) (places : List (Option Place)) (i : ℕ) → IsChosen n places i best → StandsFirst n places i → first_by comes_before (chosen_from f n places) ≡ Some best
    first_is n [] i at first = absurd (omega (arith, at.0))
    first_is n (p ∷ places) zero at first = let z : n + 0 ≡ n = omega arith in first_here n p places (subst (λ m. f m p ≡ Some best) z at.1) first
    first_is n (p ∷ places) (suc i) at first =
        let on : n + suc i ≡ n + 1 + i = omega arith in
        let there : f (n + 1 + i) (place_in places i) ≡ Some best = subst (λ m. f m (place_in places i) ≡ Some best) on at.1 in
        let number : best.thread ≡ n + 1 + i = own (n + 1 + i) (place_in places i) best there in
        past n p (chosen_from f (n + 1) places) (f n p) refl
        (first_is (n + 1) places i (omega (arith, at.0), there) (λ j c apart h. first (suc j) c (λ same. apart (omega (arith, same))) (later_chosen n p places j c h)))
        (λ x here. first 0 x (λ same. omega (arith, same)) (here_chosen n p places x here))
        (omega (arith, number))
