-- All that wait for one condition wait with one mutex, as waiters come and go; so the first of them tells of all.
use Rattle.std.proofs.Common.{◌≡◌, ◌≢◌, ◌⊎◌, inl, inr, ⊎_elim, ℕ, zero, suc, ◌+◌, ◌<◌, Bool, true, false, Option, Some, None, List, [], ◌∷◌, length, replicate, set, slice_get, refl, sym, ap, subst, ◌∙◌, arith}
use borrow.Author.Tests.{clash}
use Rattle.std.proofs.lemmas.Bool.Decides.{nat_tests}
use Rattle.std.proofs.lemmas.List.{get_or-set_same, get_or-set_other}
use Rattle.std.specs.Prelude.{not, ◌==◌, if◌then◌else◌}
use Rattle.parts_links.specs.Links.{Lists, list_at, stands_at, stands_in}
use Rattle.parts_links.proofs.Chains.{equal}
use Rattle.parts_links.proofs.Standing.{head_in, no_head}
use Rattle.parts_waiters.specs.declared.Place.{Place}
use Rattle.parts_waiters.specs.declared.WaitObj.{WaitObj}
use Rattle.parts_waiters.specs.declared.WaitObj.TheVariants.{Cond, Mutex, Receiver, Sem, Sender, SigWait}
use Rattle.parts_waiters.specs.Bound.{AreAlike, AreAsOne, Fits, has_one, others, released_is, waits_with_other}
use Rattle.parts_waiters.specs.Held.{AreHeld, WaitsAt, id_of, number_of}
use Rattle.parts_waiters.specs.Places.{place_in}
use Rattle.parts_waiters.proofs.Serving.{some_same}

-- ---- one begins to wait

now_at : (places : List (Option Place)) (t i k : ℕ) (p q : Place) → t < length places → WaitsAt (set places t (Some p)) k i q → (p ≡ q) ⊎ WaitsAt places k i q
now_at places t i k p q known h = ⊎_elim
    (λ (same : i ≡ t). inl (some_same (sym (get_or-set_same places t (Some p) None known) ∙ subst (λ m. place_in (set places t (Some p)) m ≡ Some q) same h.0)))
    (λ (other : i ≢ t). inr (sym (get_or-set_other places t i (Some p) None other) ∙ h.0, h.1))
    (equal i t)

pub stays_alike : (places : List (Option Place)) (t : ℕ) (p : Place) → t < length places → AreAlike places → Fits places p → AreAlike (set places t (Some p))
stays_alike places t p known alike fits c i j q r small hi hj = ⊎_elim
    (λ (a : p ≡ q). ⊎_elim
    (λ (b : p ≡ r). ap (λ (x : Place). x.released) (sym a ∙ b))
    (λ (b : WaitsAt places (256 + c) j r).
    let at : number_of p.object ≡ 256 + c = ap (λ (x : Place). number_of x.object) a ∙ hi.1 in
    ap (λ (x : Place). x.released) (sym a) ∙ sym (fits c small at j r (b.0, b.1 ∙ sym at)))
    (now_at places t j (256 + c) p r known hj))
    (λ (a : WaitsAt places (256 + c) i q). ⊎_elim
    (λ (b : p ≡ r).
    let at : number_of p.object ≡ 256 + c = ap (λ (x : Place). number_of x.object) b ∙ hj.1 in
    fits c small at i q (a.0, a.1 ∙ sym at) ∙ ap (λ (x : Place). x.released) b)
    (λ (b : WaitsAt places (256 + c) j r). alike c i j q r small a b)
    (now_at places t j (256 + c) p r known hj))
    (now_at places t i (256 + c) p q known hi)

-- ---- one waits no more

none_some : {X : Type 0} {x : X} → None ≡ Some x → ⊥
none_some e = cc

gone_at : (places : List (Option Place)) (t i k : ℕ) (q : Place) → WaitsAt (set places t None) k i q → WaitsAt places k i q
gone_at places t i k q h = ⊎_elim
    (λ (same : i ≡ t). absurd (none_some (sym (set_none places t) ∙ subst (λ m. place_in (set places t None) m ≡ Some q) same h.0)))
    (λ (other : i ≢ t). (sym (get_or-set_other places t i None None other) ∙ h.0, h.1))
    (equal i t)
  where
    set_none : (places : List (Option Place)) (t : ℕ) → place_in (set places t None) t ≡ None
    set_none [] t = refl
    set_none (x ∷ xs) zero = refl
    set_none (x ∷ xs) (suc t) = set_none xs t

pub left_alike : (places : List (Option Place)) (t : ℕ) → AreAlike places → AreAlike (set places t None)
left_alike places t alike c i j q r small hi hj = alike c i j q r small (gone_at places t i (256 + c) q hi) (gone_at places t j (256 + c) r hj)

-- ---- nobody waits

none_waits : (n i : ℕ) → place_in (replicate n None) i ≡ None
none_waits zero i = refl
none_waits (suc n) zero = refl
none_waits (suc n) (suc i) = none_waits n i

pub none_alike : (n : ℕ) (places : List (Option Place)) → places ≡ replicate n None → AreAlike places
none_alike n places e c i j q r small hi hj = absurd (none_some (sym (none_waits n i) ∙ subst (λ ps. place_in ps i ≡ Some q) e hi.0))

-- ---- the first tells

all_not : (e : ℕ → Bool) (xs : List ℕ) → ((u : ℕ) → stands_in u xs ≡ true → e u ≡ false) → has_one e xs ≡ false
all_not e [] h = refl
all_not e (x ∷ xs) h =
    let here : e x ≡ false = h x (grind (arith, nat_tests)) in
    ap (λ (b : Bool). if b then true else has_one e xs) here ∙ all_not e xs (λ u s. h u (grind (arith, nat_tests)))

first_tells : (e : ℕ → Bool) (n : ℕ) (xs : List ℕ) (b : Bool) → AreAsOne e xs → Some n ≡ slice_get xs 0 → e n ≡ b → b ≡ has_one e xs
first_tells e n [] b one is told = absurd cc
first_tells e n (x ∷ xs) true one is told =
    let same : n ≡ x = some_same is in
    sym (ap (λ (b : Bool). if b then true else has_one e xs) (ap e (sym same) ∙ told))
first_tells e n (x ∷ xs) false one is told =
    sym (all_not e (x ∷ xs) (λ u s. one u n s (head_in n (x ∷ xs) is) ∙ told))

pub told_by_first : (k : ℕ) (places : List (Option Place)) (n : ℕ) (xs : List ℕ) → AreAsOne (others k places) xs → Some n ≡ slice_get xs 0 → waits_with_other k (place_in places n) ≡ has_one (others k places) xs
told_by_first k places n xs one is = first_tells (others k places) n xs (others k places n) one is refl

pub told_by_none : (e : ℕ → Bool) (xs : List ℕ) → None ≡ slice_get xs 0 → false ≡ has_one e xs
told_by_none e xs none = sym (ap (has_one e) (no_head xs none))

module _ (places : List (Option Place)) (links : Lists) (w : AreHeld places links) (alike : AreAlike places) where
  pub are_as_one : (c k : ℕ) → c < 256 → AreAsOne (others k places) (list_at links.lists (256 + c))
  are_as_one c k small u v hu hv =
      let a = w.only u (256 + c) hu in
      let b = w.only v (256 + c) hv in
      ap (waits_with_other k) a.1.0 ∙ ap (λ (j : ℕ). not (j == k)) (alike c u v a.0 b.0 small a.1 b.1) ∙ sym (ap (waits_with_other k) b.1.0)

  -- ---- whether one fits

  pub none_there : (p : Place) → None ≡ slice_get (list_at links.lists (number_of p.object)) 0 → Fits places p
  none_there p none c small at u q h =
      let empty = no_head (list_at links.lists (number_of p.object)) none in
      let stands : stands_at u (number_of p.object) links.lists ≡ true = subst (λ (k : ℕ). stands_at u k links.lists ≡ true) h.1 (w.stands u q h.0) in
      absurd (clash (subst (λ xs. stands_in u xs ≡ true) empty stands))

  released_by : (k : ℕ) (o : Option Place) (r : Place) → o ≡ Some r → released_is k o ≡ true → r.released ≡ k
  released_by k o r e h = let it : (r.released == k) ≡ true = sym (ap (released_is k) e) ∙ h in grind (arith, nat_tests, it)

  pub like_first : (p : Place) (n : ℕ) (b : Bool) → Some n ≡ slice_get (list_at links.lists (number_of p.object)) 0 → b ≡ released_is p.released (place_in places n) → b ≡ true → Fits places p
  like_first p n b first is told c small at u q h =
      let there = w.only n (number_of p.object) (head_in n (list_at links.lists (number_of p.object)) first) in
      alike c u n q there.0 small (h.0, h.1 ∙ at) (there.1.0, there.1.1 ∙ at)
      ∙ released_by p.released (place_in places n) there.0 there.1.0 (sym is ∙ told)

-- ---- where it waits for no condition

abbrev pub is_condition : WaitObj → Bool
is_condition (Cond c) = true
is_condition o = false

pub no_condition : (places : List (Option Place)) (p : Place) → id_of p.object < 256 → is_condition p.object ≡ false → Fits places p
no_condition places p small not c limit at = absurd (by_object p.object small not at)
  where
    by_object : (o : WaitObj) → id_of o < 256 → is_condition o ≡ false → number_of o ≡ 256 + c → ⊥
    by_object (Mutex k) s n e = omega (arith, s, e)
    by_object (Cond k) s n e = clash (sym n)
    by_object (Sem k) s n e = omega (arith, limit, e)
    by_object (Sender k) s n e = omega (arith, limit, e)
    by_object (Receiver k) s n e = omega (arith, limit, e)
    by_object SigWait s n e = omega (arith, limit, e)

pub other_object : (o : WaitObj) → ((c : ℕ) → o ≡ Cond c → ⊥) → is_condition o ≡ false
other_object (Cond c) not = absurd (not c refl)
other_object (Mutex k) not = refl
other_object (Sem k) not = refl
other_object (Sender k) not = refl
other_object (Receiver k) not = refl
other_object SigWait not = refl
