-- Bits of a word of 32 bits.
use Rattle.std.proofs.Common.{◌≡◌, ℕ, suc, ◌+◌, ◌-◌, ◌/◌, ◌^◌, ◌<◌, ◌≤◌, ◌==◌, ap, arith}
use Rattle.std.specs.Int.{bit_at}
use Rattle.std.specs.Int.Count.{count_leading_zeros}
use Rattle.std.proofs.lemmas.Nat.{leading_top, le-div, pow_pos, shr_below}
use Rattle.std.proofs.lemmas.Nat.Bits.{bit_at_above}
use Rattle.parts_arrivals.specs.Marks.{IsHighest}

-- a number from 2 ^ j up to twice that has the bit j
top_is_set : (a j : ℕ) → 2 ^ j ≤ a → a < 2 ^ suc j → bit_at a j ≡ 1
top_is_set a j low high =
    let some : 1 ≤ a / 2 ^ j = le-div 1 a (2 ^ j) (pow_pos j) (omega arith) in
    let few : a / 2 ^ j < 2 ^ 1 = shr_below a 1 j (let e : 1 + j ≡ suc j = omega arith in rw e high) in
    omega arith

-- the leading zeros of a word stand above its highest bit
pub highest_of_word : (a : ℕ) → 0 < a → a < 2 ^ 32 → IsHighest (31 - count_leading_zeros 32 a) a
highest_of_word a some fits =
    let top = leading_top 32 a some fits in
    let e : 31 - count_leading_zeros 32 a ≡ top.0 = omega (arith, top.1) in
    record {
      small = omega (arith, top.1);
      itself = rw e (ap (λ b. b == 1) (top_is_set a top.0 top.2 top.3));
      above = λ k above. ap (λ b. b == 1) (bit_at_above a (suc top.0) k top.3 (omega (arith, top.1)));
    }
