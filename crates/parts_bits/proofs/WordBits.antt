-- Bits of a word, and those from one of them on.
use Rattle.std.proofs.Common.{◌≡◌, ◌≢◌, ◌<◌, ◌≤◌, ◌⊎◌, inl, inr, ℕ, ◌+◌, ◌-◌, ◌*◌, ◌/◌, ◌%◌, ◌^◌, ap, arith, bit_and, nat_eq, refl, sym, true, w64, ◌∙◌}
use Rattle.std.specs.Int.{bit_at, bit_not, trailing_zeros}
use Rattle.std.proofs.lemmas.Nat.{and_le_l, shr_le, shr-shr}
use Rattle.std.proofs.lemmas.Nat.Bits.{bit_at-trailing_zeros, bit_at-zero, bit_at_above, bit_at_clear_other, same_from_bits_below}
use Rattle.parts_bits.specs.Words.{IsFirstBit}

low_or_high : (u : ℕ) → (u < 64) ⊎ (64 ≤ u)
low_or_high u = grind arith

-- a word has no bit from 64 on
pub above : (word k : ℕ) → word < 2 ^ 64 → 64 ≤ k → bit_at word k ≡ 0
above word k fits high = bit_at_above word 64 k fits high

-- a bit of what is left after a shift
shifted : (word from k : ℕ) → from ≤ k → bit_at (word / 2 ^ from) (k - from) ≡ bit_at word k
shifted word from k low = let e : from + (k - from) ≡ k = omega (arith, low) in ap (λ (n : ℕ). n % 2) (shr-shr word from (k - from) ∙ ap (λ (n : ℕ). word / 2 ^ n) e)

pub none_is : (word from k : ℕ) → word / 2 ^ from ≡ 0 → from ≤ k → bit_at word k ≡ 0
none_is word from k none low = sym (shifted word from k low) ∙ ap (λ (n : ℕ). bit_at n (k - from)) none ∙ bit_at-zero (k - from)

positive : (n : ℕ) → n ≢ 0 → 0 < n
positive n h = omega (arith, h)

pub first_is : (word from : ℕ) → word / 2 ^ from ≢ 0 → word < 2 ^ 64 → IsFirstBit from word (from + trailing_zeros w64 (word / 2 ^ from))
first_is word from not_none fits =
    let rest = word / 2 ^ from in
    let some : 0 < rest = positive rest not_none in
    let less : rest ≤ word = shr_le word from in
    let at = bit_at-trailing_zeros w64 rest some (omega (arith, less, fits)) in
    let bit = from + trailing_zeros w64 rest in
    let back : bit - from ≡ trailing_zeros w64 rest = omega arith in
    record {
      low = omega arith;
      itself = sym (shifted word from bit (omega arith)) ∙ ap (bit_at rest) back ∙ at.1;
      between = λ k low small. sym (shifted word from k low) ∙ at.2 (k - from) (omega (arith, low, small));
    }

-- the bits of a word are below 64
pub below : (word k : ℕ) → bit_at word k ≡ 1 → word < 2 ^ 64 → k < 64
below word k here fits = by_size (low_or_high k)
  where
    by_size : (k < 64) ⊎ (64 ≤ k) → k < 64
    by_size (inl low) = low
    by_size (inr high) = absurd (let no : 1 ≡ 0 = sym here ∙ above word k fits high in omega (arith, no))

-- a word of which one bit is cleared keeps the others
pub cleared : (word bit k : ℕ) → bit < 64 → word < 2 ^ 64 → k ≢ bit → bit_at (bit_and word (bit_not w64 (1 * 2 ^ bit % 2 ^ 64))) k ≡ bit_at word k
cleared word bit k low fits other = by_size (low_or_high k)
  where
    by_size : (k < 64) ⊎ (64 ≤ k) → bit_at (bit_and word (bit_not w64 (1 * 2 ^ bit % 2 ^ 64))) k ≡ bit_at word k
    by_size (inl small) = bit_at_clear_other w64 word bit low k small other
    by_size (inr high) =
        let less = and_le_l word (bit_not w64 (1 * 2 ^ bit % 2 ^ 64)) in
        above (bit_and word (bit_not w64 (1 * 2 ^ bit % 2 ^ 64))) k (omega (arith, less, fits)) high ∙ sym (above word k fits high)

-- the word 0 is the one with no bit
pub zero_clear : (word : ℕ) → nat_eq word 0 ≡ true → (k : ℕ) → k < 64 → bit_at word k ≡ 0
zero_clear word zero k small = let none : word ≡ 0 = grind arith in ap (λ (w : ℕ). bit_at w k) none ∙ bit_at-zero k

pub clear_zero : (word : ℕ) → word < 2 ^ 64 → ((k : ℕ) → k < 64 → bit_at word k ≡ 0) → nat_eq word 0 ≡ true
clear_zero word fits none =
    let zero : word ≡ 0 = same_from_bits_below 64 word 0 fits (omega arith) (λ k small. none k small ∙ sym (bit_at-zero k)) in rw zero refl
