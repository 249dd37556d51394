-- The nodes of a list by their places.
use Rattle.std.proofs.Common.{◌≡◌, ◌==◌, if◌then◌else◌, true, false, ℕ, zero, suc, List, [], ◌∷◌, Some, None, slice_get, refl, sym, ap, subst, unwrap_or, ◌∙◌, arith, ◌≤◌, length}
use Rattle.std.proofs.lemmas.Bool.Decides.{nat_tests}
use Rattle.std.proofs.lemmas.Option.{slice_get_past}
use Rattle.parts_links.specs.Links.{stands_in, follower, AreDistinct}
use Rattle.parts_links.proofs.Chains.{stands_first, stands_later}
use Rattle.parts_links.proofs.Walks.{apart_stands}

some_same : {X : Type 0} {x y : X} → Some x ≡ Some y → x ≡ y
some_same {x = x} e = ap (λ o. unwrap_or o x) e

pub get_stands : (n i : ℕ) (xs : List ℕ) → Some n ≡ slice_get xs i → stands_in n xs ≡ true
get_stands n i [] e = cc
get_stands n zero (x ∷ xs) e = subst (λ y. stands_in n (y ∷ xs) ≡ true) (some_same e) (stands_first n xs)
get_stands n (suc i) (x ∷ xs) e = stands_later n x xs (get_stands n i xs e)

is_same : (n x : ℕ) → n ≡ x → (x == n) ≡ true
is_same n x e = grind (arith, nat_tests)

is_other : (n x : ℕ) → (n ≡ x → ⊥) → (x == n) ≡ false
is_other n x e = grind (arith, nat_tests)

-- what stands after the node at a place is the node at the next
pub follower_get : (n i : ℕ) (xs : List ℕ) → AreDistinct xs → Some n ≡ slice_get xs i → follower n xs ≡ slice_get xs (suc i)
follower_get n i [] d e = refl
follower_get n zero (x ∷ xs) d e = ap (λ b. if b then slice_get xs 0 else follower n xs) (is_same n x (some_same e))
follower_get n (suc i) (x ∷ xs) d e =
    ap (λ b. if b then slice_get xs 0 else follower n xs) (is_other n x (apart_stands x n xs d.0 (get_stands n i xs e))) ∙ follower_get n i xs d.1 e

past_end : (i : ℕ) (xs : List ℕ) → None ≡ slice_get xs i → length xs ≤ i
past_end i [] e = omega arith
past_end zero (x ∷ xs) e = cc
past_end (suc i) (x ∷ xs) e = let h = past_end i xs e in omega arith

-- past the end of a list there is nothing
pub none_later : (i j : ℕ) (xs : List ℕ) → None ≡ slice_get xs i → i ≤ j → None ≡ slice_get xs j
none_later i j xs e le = let h = past_end i xs e in sym (slice_get_past xs j (omega arith))
