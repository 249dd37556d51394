-- Laws of each member of a list, of its parts, and of a member by its number.
use Rattle.std.proofs.Common.{◌<◌, ◌++◌, ℕ, zero, suc, List, [], ◌∷◌, arith, length}
use Rattle.std.specs.Prelude.{All, map, slice_index_or}
use Rattle.rules_moves.proofs.Waiters.Best.{Each}

pub each_of : {X : Type 0} (Law : X → Type 0) (xs : List X) → All Law xs → Each Law xs
each_of Law [] h = tt
each_of Law (x ∷ xs) h = (h 0 x (omega arith), each_of Law xs (λ k d lt. h (suc k) d (omega (arith, lt))))

pub all_of : {X : Type 0} (Law : X → Type 0) (xs : List X) → Each Law xs → All Law xs
all_of Law [] h k d lt = absurd (omega (arith, lt))
all_of Law (x ∷ xs) h zero d lt = h.0
all_of Law (x ∷ xs) h (suc k) d lt = all_of Law xs h.1 k d (omega (arith, lt))

pub second_part : {X : Type 0} (Law : X → Type 0) (xs ys : List X) → Each Law (xs ++ ys) → Each Law ys
second_part Law [] ys h = h
second_part Law (x ∷ xs) ys h = second_part Law xs ys h.1

pub of_mapped : {X Y : Type 0} (Law : Y → Type 0) (f : X → Y) (xs : List X) → Each Law (map f xs) → Each (λ (x : X). Law (f x)) xs
of_mapped Law f [] h = tt
of_mapped Law f (x ∷ xs) h = (h.0, of_mapped Law f xs h.1)

pub each_so : {X : Type 0} (P Q : X → Type 0) (xs : List X) → ((x : X) → P x → Q x) → Each P xs → Each Q xs
each_so P Q [] so h = tt
each_so P Q (x ∷ xs) so h = (so x h.0, each_so P Q xs so h.1)

pub at_number : {X : Type 0} (Law : X → Type 0) (none : X) (xs : List X) (k : ℕ) → Each Law xs → k < length xs → Law (slice_index_or xs k none)
at_number Law none [] k h lt = absurd (omega (arith, lt))
at_number Law none (x ∷ xs) zero h lt = h.0
at_number Law none (x ∷ xs) (suc k) h lt = at_number Law none xs k h.1 (omega (arith, lt))

-- what stands for none keeps it too
pub at_any : {X : Type 0} (Law : X → Type 0) (none : X) (xs : List X) (k : ℕ) → Law none → Each Law xs → Law (slice_index_or xs k none)
at_any Law none [] k past h = past
at_any Law none (x ∷ xs) zero past h = h.0
at_any Law none (x ∷ xs) (suc k) past h = at_any Law none xs k past h.1
