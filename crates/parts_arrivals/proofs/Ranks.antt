-- The highest rank of an order.
use Rattle.std.specs.Prelude.{IfSome}
use Rattle.std.specs.List.{AllByRecursion}
use Rattle.std.proofs.Common.{◌≡◌, ◌⊎◌, inl, inr, ⊎_elim, ℕ, zero, suc, ◌<◌, ◌≤◌, Option, Some, None, List, [], ◌∷◌, length, refl, ap, arith, ◌≢◌}
use Rattle.std.proofs.lemmas.Bool.Decides.{nat_tests}
use Rattle.parts_links.proofs.Chains.{equal}
use Rattle.parts_arrivals.specs.Arrivals.{Arrival, IsArrival, higher, highest_rank, of_rank}

has_first : (a : Arrival) (order : List Arrival) → 0 < length (of_rank a.rank (a ∷ order))
has_first a order = grind (arith, nat_tests)

more_first : (k : ℕ) (a : Arrival) (order : List Arrival) → length (of_rank k order) ≤ length (of_rank k (a ∷ order))
more_first k a order = grind (arith, nat_tests)

has_later : (k : ℕ) (a : Arrival) (order : List Arrival) → a.rank ≢ k → 0 < length (of_rank k (a ∷ order)) → 0 < length (of_rank k order)
has_later k a order other some = grind (arith, nat_tests)

ordered : (a b : ℕ) → (a ≤ b) ⊎ (b < a)
ordered zero b = inl (omega arith)
ordered (suc a) zero = inr (omega arith)
ordered (suc a) (suc b) = ⊎_elim (λ (l : a ≤ b). inl (omega (arith, l))) (λ (l : b < a). inr (omega (arith, l))) (ordered a b)

abbrev at_most : ℕ → Option ℕ → Type 0
at_most r o = IfSome o (λ h. h ≤ r)

higher_most : (r rank : ℕ) (o : Option ℕ) → rank ≤ r → at_most r o → higher rank o ≤ r
higher_most r rank None le h = le
higher_most r rank (Some k) le h = omega (arith, le, h)

none_above : (r nodes : ℕ) (order : List Arrival) → AllByRecursion (IsArrival nodes) order → ((k : ℕ) → r < k → k < 32 → length (of_rank k order) ≡ 0) → at_most r (highest_rank order)
none_above r nodes [] each empty = tt
none_above r nodes (a ∷ order) each empty =
    let small : a.rank < 32 = each.0.rank in let has = has_first a order in
    let le : a.rank ≤ r = ⊎_elim (λ (l : a.rank ≤ r). l) (λ (l : r < a.rank). let e = empty a.rank l small in absurd (omega (arith, e, has))) (ordered a.rank r) in
    higher_most r a.rank (highest_rank order) le (none_above r nodes order each.1 (λ k l s. let e = empty k l s in omega (arith, e, more_first k a order)))

abbrev at_least : ℕ → Option ℕ → Type 0
at_least r None = ⊥
at_least r (Some h) = r ≤ h

higher_first : (rank : ℕ) (o : Option ℕ) → rank ≤ higher rank o
higher_first rank None = omega arith
higher_first rank (Some k) = omega arith

higher_later : (r rank : ℕ) (o : Option ℕ) → at_least r o → r ≤ higher rank o
higher_later r rank None h = absurd h
higher_later r rank (Some k) h = omega (arith, h)

some_least : (r : ℕ) (order : List Arrival) → 0 < length (of_rank r order) → at_least r (highest_rank order)
some_least r [] some = absurd (omega (arith, some))
some_least r (a ∷ order) some =
    ⊎_elim (λ (same : a.rank ≡ r). omega (arith, same, higher_first a.rank (highest_rank order)))
    (λ other. higher_later r a.rank (highest_rank order) (some_least r order (has_later r a order other some)))
    (equal a.rank r)

joined : (r : ℕ) (o : Option ℕ) → at_most r o → at_least r o → Some r ≡ o
joined r None most least = absurd least
joined r (Some h) most least = ap Some (omega (arith, most, least))

-- the rank that has nodes, where none above it has
pub highest_is : (r nodes : ℕ) (order : List Arrival) → AllByRecursion (IsArrival nodes) order → 0 < length (of_rank r order) →
    ((k : ℕ) → r < k → k < 32 → length (of_rank k order) ≡ 0) → Some r ≡ highest_rank order
highest_is r nodes order each some empty = joined r (highest_rank order) (none_above r nodes order each empty) (some_least r order some)

pub highest_none : (nodes : ℕ) (order : List Arrival) → AllByRecursion (IsArrival nodes) order → ((k : ℕ) → k < 32 → length (of_rank k order) ≡ 0) → None ≡ highest_rank order
highest_none nodes [] each empty = refl
highest_none nodes (a ∷ order) each empty = let has = has_first a order in let e = empty a.rank each.0.rank in absurd (omega (arith, e, has))
