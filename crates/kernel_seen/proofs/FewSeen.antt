-- A few members of a list, kept as values.
use Rattle.std.proofs.Common.{◌≡◌, ◌<◌, ℕ, zero, suc, List, None, Some, [], ◌∷◌, ap, arith, length, map, refl, slice_get, take}
use Rattle.std.specs.Prelude.{slice_index_or, slice_set}

-- where there is no next member, these are all
pub taken_all : {X : Type 0} (xs : List X) (n : ℕ) → slice_get xs n ≡ None → take n xs ≡ xs
taken_all [] zero e = refl
taken_all [] (suc n) e = refl
taken_all (x ∷ xs) zero e = absurd (cc)
taken_all {X} (x ∷ xs) (suc n) e = ap (λ (ys : List X). x ∷ ys) (taken_all xs n e)

-- ---- as they are

module _ {X : Type 0} where
  pub same_more : (ys xs : List X) (i : ℕ) (d x : X) → i < length xs → slice_index_or xs i d ≡ x → slice_get ys i ≡ Some x → take i ys ≡ take i xs
      → take (suc i) ys ≡ take (suc i) xs
  same_more [] xs i d x lt is get e = absurd (cc)
  same_more (y ∷ ys) [] i d x lt is get e = absurd (omega arith)
  same_more (y ∷ ys) (z ∷ xs) zero d x lt is get e = cc
  same_more (y ∷ ys) (z ∷ xs) (suc i) d x lt is get e =
      let rest : take i ys ≡ take i xs = cc in
      let more = same_more ys xs i d x (omega arith) is get rest in
      cc

  pub set_more : (ys xs : List X) (i : ℕ) (x : X) → i < length xs → slice_get ys i ≡ Some x → take i ys ≡ take i xs → take (suc i) ys ≡ take (suc i) (slice_set xs i x)
  set_more [] xs i x lt get e = absurd (cc)
  set_more (y ∷ ys) [] i x lt get e = absurd (omega arith)
  set_more (y ∷ ys) (z ∷ xs) zero x lt get e = cc
  set_more (y ∷ ys) (z ∷ xs) (suc i) x lt get e =
      let rest : take i ys ≡ take i xs = cc in
      let more = set_more ys xs i x (omega arith) get rest in
      cc

-- ---- as others

module _ {X Y : Type 0} (f : X → Y) where
  pub like_more : (ys : List Y) (xs : List X) (i : ℕ) (d x : X) → i < length xs → slice_index_or xs i d ≡ x → slice_get ys i ≡ Some (f x) → take i ys ≡ map f (take i xs)
      → take (suc i) ys ≡ map f (take (suc i) xs)
  like_more [] xs i d x lt is get e = absurd (cc)
  like_more (y ∷ ys) [] i d x lt is get e = absurd (omega arith)
  like_more (y ∷ ys) (z ∷ xs) zero d x lt is get e = cc
  like_more (y ∷ ys) (z ∷ xs) (suc i) d x lt is get e =
      let rest : take i ys ≡ map f (take i xs) = cc in
      let more = like_more ys xs i d x (omega arith) is get rest in
      cc

  pub set_like : (ys : List Y) (xs : List X) (i : ℕ) (x : X) → i < length xs → slice_get ys i ≡ Some (f x) → take i ys ≡ map f (take i xs)
      → take (suc i) ys ≡ map f (take (suc i) (slice_set xs i x))
  set_like [] xs i x lt get e = absurd (cc)
  set_like (y ∷ ys) [] i x lt get e = absurd (omega arith)
  set_like (y ∷ ys) (z ∷ xs) zero x lt get e = cc
  set_like (y ∷ ys) (z ∷ xs) (suc i) x lt get e =
      let rest : take i ys ≡ map f (take i xs) = cc in
      let more = set_like ys xs i x (omega arith) get rest in
      cc
