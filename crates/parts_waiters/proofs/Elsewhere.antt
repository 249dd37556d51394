-- Whether one of the waiters of a condition waits with another mutex.
use Rattle.std.proofs.Common.{◌≡◌, ◌⊎◌, inl, inr, ℕ, ◌+◌, ◌<◌, ◌≤◌, Bool, true, false, Option, Some, None, List, [], ◌∷◌, length, refl, sym, ap, subst, ◌∙◌, ⊎_elim, arith}
use Rattle.std.specs.Prelude.{if◌then◌else◌}
use Rattle.std.proofs.lemmas.Bool.Decides.{nat_tests}
use borrow.Author.Tests.{clash}
use Rattle.parts_links.specs.Links.{AreDistinct, Lists, follower, list_at, stands_at, stands_in}
use Rattle.parts_links.specs.Walks.{rest_of, since}
use Rattle.parts_links.proofs.Chains.{decide, equal}
use Rattle.parts_links.proofs.Walks.{step}
use Rattle.parts_waiters.specs.declared.Place.{Place}
use Rattle.parts_waiters.specs.declared.WaitObj.TheVariants.{Cond}
use Rattle.parts_waiters.specs.Bound.{WaitsElsewhere, has_one, others}
use Rattle.parts_waiters.specs.Held.{AreHeld}
use Rattle.parts_waiters.specs.Places.{place_in, same_object, waits_at}
use Rattle.parts_waiters.proofs.Best.{of_line, on_line}
use Rattle.parts_waiters.proofs.Waiting.{inside}

-- ---- the walk

pub one_not : (elsewhere : ℕ → Bool) (n : ℕ) (xs : List ℕ) → AreDistinct xs → stands_in n xs ≡ true → elsewhere n ≡ false →
    has_one elsewhere (rest_of (follower n xs) xs) ≡ has_one elsewhere (since n xs)
one_not elsewhere n xs d h not =
    let rest = rest_of (follower n xs) xs in
    sym (ap (has_one elsewhere) (step n xs d h) ∙ ap (λ (b : Bool). if b then true else has_one elsewhere rest) not)

pub one_is : (elsewhere : ℕ → Bool) (n : ℕ) (xs : List ℕ) → AreDistinct xs → stands_in n xs ≡ true → elsewhere n ≡ true →
    true ≡ has_one elsewhere (since n xs)
one_is elsewhere n xs d h is =
    let rest = rest_of (follower n xs) xs in
    sym (ap (has_one elsewhere) (step n xs d h) ∙ ap (λ (b : Bool). if b then true else has_one elsewhere rest) is)

-- ---- what the list tells

head_or : (v x : ℕ) (xs : List ℕ) → stands_in v (x ∷ xs) ≡ true → (v ≡ x) ⊎ (stands_in v xs ≡ true)
head_or v x xs h = ⊎_elim (λ e. inl e) (λ ne. inr (grind (arith, nat_tests))) (equal v x)

one_told : (elsewhere : ℕ → Bool) (xs : List ℕ) → has_one elsewhere xs ≡ true → (n : ℕ) × (stands_in n xs ≡ true) × (elsewhere n ≡ true)
one_told elsewhere [] e = absurd (clash e)
one_told elsewhere (x ∷ xs) e =
    ⊎_elim
    (λ t. (x, grind (arith, nat_tests), t))
    (λ f. let rest = one_told elsewhere xs (sym (ap (λ (b : Bool). if b then true else has_one elsewhere xs) f) ∙ e) in
    let later : stands_in rest.0 xs ≡ true = rest.1 in (rest.0, grind (arith, nat_tests, later), rest.2))
    (decide (elsewhere x))

none_told : (elsewhere : ℕ → Bool) (xs : List ℕ) → has_one elsewhere xs ≡ false → (n : ℕ) → stands_in n xs ≡ true → elsewhere n ≡ true → ⊥
none_told elsewhere [] e n h is = clash h
none_told elsewhere (x ∷ xs) e n h is =
    ⊎_elim
    (λ (t : elsewhere x ≡ true). clash (sym e ∙ ap (λ (b : Bool). if b then true else has_one elsewhere xs) t))
    (λ (f : elsewhere x ≡ false). let rest : has_one elsewhere xs ≡ false = sym (ap (λ (b : Bool). if b then true else has_one elsewhere xs) f) ∙ e in
    ⊎_elim
    (λ (same : n ≡ x). clash (sym f ∙ subst (λ (m : ℕ). elsewhere m ≡ true) same is))
    (λ (r : stands_in n xs ≡ true). none_told elsewhere xs rest n r is)
    (head_or n x xs h))
    (decide (elsewhere x))

-- ---- and so the places

-- a thread that waits there has a place
placed : (c : ℕ) (o : Option Place) → waits_at (Cond c) o ≡ true → (p : Place) × (o ≡ Some p) × (same_object p.object (Cond c) ≡ true)
placed c None h = absurd (clash h)
placed c (Some p) h = (p, refl, h)

waits_there : (c : ℕ) (o : Option Place) (p : Place) → o ≡ Some p → same_object p.object (Cond c) ≡ true → waits_at (Cond c) o ≡ true
waits_there c o p at same = ap (waits_at (Cond c)) at ∙ same

module _ (k : ℕ) (places : List (Option Place)) (links : Lists) (w : AreHeld places links) (c : ℕ) (small : c < 256) where
  pub one_found : has_one (others k places) (list_at links.lists (256 + c)) ≡ true → (t : ℕ) × WaitsElsewhere places c k t
  one_found e =
      let told = one_told (others k places) (list_at links.lists (256 + c)) e in
      let there = of_line places links w (Cond c) small told.0 told.1 in
      (told.0, record { waits = waits_there c (place_in places told.0) there.0 there.1 there.2; other = told.2 })

  pub none_found : has_one (others k places) (list_at links.lists (256 + c)) ≡ false → (t : ℕ) → WaitsElsewhere places c k t → ⊥
  none_found e t waits =
      let there = placed c (place_in places t) waits.waits in
      none_told (others k places) (list_at links.lists (256 + c)) e t (on_line places links w (Cond c) small t there.0 there.1 there.2) waits.other

-- each waiter of a list has a place
pub on_list : (places : List (Option Place)) (links : Lists) → AreHeld places links → (n k : ℕ) → length places ≤ n → (u : ℕ) → stands_at u k links.lists ≡ true → u < n
on_list places links w n k long u h = let there = w.only u k h in let lt = inside places u there.0 there.1.0 in omega (arith, long, lt)
