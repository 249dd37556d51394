-- The digits of numbers, two by two.
use Rattle.std.proofs.Common.{◌≡◌, ℕ, ◌<◌, ◌≤◌, ◌/◌, ◌%◌, ◌^◌, List, [], refl, ◌∙◌, ap, sym, subst, map, decimal, arith}
use Rattle.std.specs.Prelude.{slice_index_or}
use Rattle.std.specs.List.{range_with_len}
use Rattle.std.proofs.lemmas.List.FromFn.{get_or-map-range_with_len}
use Rattle.itoa.proofs.Decimal.{pair, decimal_pair}
use Rattle.parts_bytes.specs.Placed.{Placed}
use Rattle.parts_bytes.proofs.Placed.{placed_then}
use Rattle.parts_bytes.specs.declared.digits.TheConstants.{PAIRS}

table : PAIRS ≡ map pair (range_with_len 0 100)
table = refl

-- the entry of a number
pub PAIRS_at : (n : ℕ) → n < 100 → slice_index_or PAIRS n [] ≡ pair n
PAIRS_at n h = ap (λ (t : List (List ℕ)). slice_index_or t n []) table ∙ get_or-map-range_with_len pair 0 100 n n [] h (omega arith)

-- the digits of a number above 99 are those of its hundreds and two more
pub placed_by_pair : {old mid new : List ℕ} {at next end : ℕ} (n : ℕ) → 100 ≤ n → n < 2 ^ 64
    → Placed old mid at (decimal (n / 100)) next → Placed mid new next (pair (n % 100)) end → Placed old new at (decimal n) end
placed_by_pair {old} {mid} {new} {at} {next} {end} n large fits hundreds two =
    subst (λ (t : List ℕ). Placed old new at t end) (sym (decimal_pair n large fits)) (placed_then hundreds two)
