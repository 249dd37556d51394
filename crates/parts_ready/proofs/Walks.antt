-- A walk along a list beside other numbers.
use Rattle.std.proofs.Common.{◌≡◌, ◌<◌, ◌≤◌, ℕ, zero, suc, List, None, Some, [], ◌∷◌, ap, arith, length, refl, slice_get, take}
use Rattle.std.specs.Prelude.{slice_index_or}

module _ {X : Type 0} where
  -- where there is no next member, these are all
  pub taken_all : (xs : List X) (n : ℕ) → slice_get xs n ≡ None → take n xs ≡ xs
  taken_all [] zero e = refl
  taken_all [] (suc n) e = refl
  taken_all (x ∷ xs) zero e = absurd (cc)
  taken_all (x ∷ xs) (suc n) e = ap (λ (ys : List X). x ∷ ys) (taken_all xs n e)

  pub same_more : (xs ys : List X) (i : ℕ) → slice_get xs i ≡ slice_get ys i → take i xs ≡ take i ys → take (suc i) xs ≡ take (suc i) ys
  same_more [] [] i get e = refl
  same_more [] (y ∷ ys) zero get e = absurd (cc)
  same_more [] (y ∷ ys) (suc i) get e = absurd (cc)
  same_more (x ∷ xs) [] zero get e = absurd (cc)
  same_more (x ∷ xs) [] (suc i) get e = absurd (cc)
  same_more (x ∷ xs) (y ∷ ys) zero get e = cc
  same_more (x ∷ xs) (y ∷ ys) (suc i) get e =
      let rest : take i xs ≡ take i ys = cc in
      let more = same_more xs ys i get rest in
      cc

  pub index_get : (xs : List X) (i : ℕ) (d : X) → i < length xs → Some (slice_index_or xs i d) ≡ slice_get xs i
  index_get [] i d lt = absurd (omega arith)
  index_get (x ∷ xs) zero d lt = refl
  index_get (x ∷ xs) (suc i) d lt = index_get xs i d (omega arith)

  pub none_past : (xs : List X) (i : ℕ) → length xs ≤ i → slice_get xs i ≡ None
  none_past [] i le = refl
  none_past (x ∷ xs) zero le = absurd (omega arith)
  none_past (x ∷ xs) (suc i) le = none_past xs i (omega arith)
