-- Bits of a word, and of four words.
use Rattle.std.proofs.Common.{◌≡◌, ◌∙◌, ◌⊎◌, ℕ, List, inl, inr, true, false, zero, suc, refl, sym, ap, bit_and, ◌+◌, ◌-◌, ◌*◌, ◌/◌, ◌%◌, ◌^◌, ◌<◌, ◌≤◌, arith}
use Rattle.std.specs.Int.{bit_at}
use Rattle.std.specs.Prelude.{bit_or, min, slice_index}
use Rattle.std.specs.Int.Count.{count_leading_zeros}
use Rattle.std.proofs.lemmas.Nat.{le_or_l, le_or_r, leading_top, or_lt, le-div, pow_pos, shr-shr, shr_below}
use Rattle.std.proofs.lemmas.Nat.Bits.{bit_at-lt, bit_at-zero, bit_at_above, bit_at_and, bit_at_ones, bit_at_ones_above, bit_at_or}
use Rattle.std.proofs.lemmas.Bool.Decides.{eqb_tells}
use Rattle.parts_ready.specs.Bits.{is_set, AreClear}

-- a number from 2 ^ j up to twice that has the bit j, and none above it
top_is_set : (a j : ℕ) → 2 ^ j ≤ a → a < 2 ^ suc j → bit_at a j ≡ 1
top_is_set a j low high =
    let some : 1 ≤ a / 2 ^ j = le-div 1 a (2 ^ j) (pow_pos j) (omega arith) in
    let few : a / 2 ^ j < 2 ^ 1 = shr_below a 1 j (let e : 1 + j ≡ suc j = omega arith in rw e high) in
    omega arith

-- with its lowest bit set a word is not 0
some_or : (a : ℕ) → a < 2 ^ 64 → (0 < bit_or a 1) × (bit_or a 1 < 2 ^ 64)
some_or a fits = (omega (arith, le_or_r a 1), or_lt 64 a 1 fits (omega arith))

-- the leading zeros of a word stand above its highest bit
pub zeros_few : (a : ℕ) → a < 2 ^ 64 → count_leading_zeros 64 (bit_or a 1) ≤ 63
zeros_few a fits =
    let some = some_or a fits in
    omega (arith, (leading_top 64 (bit_or a 1) some.0 some.1).1)

pub none_above : (a : ℕ) → a < 2 ^ 64 → (k : ℕ) → 63 - count_leading_zeros 64 (bit_or a 1) < k → bit_at a k ≡ 0
none_above a fits k above =
    let some = some_or a fits in
    let top = leading_top 64 (bit_or a 1) some.0 some.1 in
    let less : a < 2 ^ suc top.0 = omega (arith, le_or_l a 1, top.3) in
    bit_at_above a (suc top.0) k less (omega (arith, above, top.1))

-- the highest bit after the lowest is set was the highest before
same_top : (a j : ℕ) → 0 < a → bit_or a 1 < 2 ^ suc j → bit_at (bit_or a 1) j ≡ 1 → bit_at a j ≡ 1
same_top a zero some high is = let e : a ≡ 1 = omega (arith, some, high, le_or_l a 1) in rw e refl
same_top a (suc j) some high is = grind (arith, bit_at_or a 1 (suc j), bit_at_above 1 1 (suc j) (omega arith) (omega arith), is)

pub top_bit : (a : ℕ) → a < 2 ^ 64 → 0 < a → bit_at a (63 - count_leading_zeros 64 (bit_or a 1)) ≡ 1
top_bit a fits positive =
    let some = some_or a fits in
    let top = leading_top 64 (bit_or a 1) some.0 some.1 in
    let e : 63 - count_leading_zeros 64 (bit_or a 1) ≡ top.0 = omega (arith, top.1) in
    rw e (same_top a top.0 positive top.3 (top_is_set (bit_or a 1) top.0 top.2 top.3))

pub no_bit : (a : ℕ) → a ≡ 0 → 63 - count_leading_zeros 64 (bit_or a 1) ≡ 0
unfolding count_leading_zeros
no_bit a e = rw e refl

-- of no bits the highest is 0
pub with_some : (word i bit : ℕ) → (0 < i → 0 < word) → 0 < i * 64 + bit → (word ≡ 0 → bit ≡ 0) → 0 < word
with_some zero zero bit word positive none = absurd (let e : bit ≡ 0 = none refl in omega (arith, e, positive))
with_some zero (suc i) bit word positive none = word (omega arith)
with_some (suc n) i bit word positive none = omega arith

-- a bit of a word is one of the four words
pub set_in : (words : List ℕ) (i h : ℕ) → h < 64 → bit_at (slice_index words i) h ≡ 1 → is_set (i * 64 + h) words ≡ true
set_in words i h small is =
    let word : (i * 64 + h) / 64 ≡ i = omega arith in
    let bit : (i * 64 + h) % 64 ≡ h = omega arith in
    rw (word, bit, is) refl

-- no bit stands above the highest of the highest word
pub clear_above : (words : List ℕ) (i h : ℕ) → h < 64 → ((k : ℕ) → i < k → slice_index words k ≡ 0) → ((k : ℕ) → h < k → bit_at (slice_index words i) k ≡ 0) → AreClear (suc (i * 64 + h)) words
clear_above words i h small none above k from =
    elim (eqb_tells (k / 64) i) [
      | inl same ↦ (let e : k / 64 ≡ i = omega arith in rw (e, above (k % 64) (omega (arith, e, from))) refl)
      | inr other ↦ (let over : i < k / 64 = omega (arith, other.1, from) in rw (none (k / 64) over, bit_at-zero (k % 64)) refl)
    ]

-- ---- the bits of a word below a place

below_or_not : (h n : ℕ) → (h < n) ⊎ (n ≤ h)
below_or_not h n = grind arith

mask_bit : (s k : ℕ) → bit_at ((2 ^ 64 - 1) / 2 ^ s) k ≡ bit_at (2 ^ 64 - 1) (s + k)
mask_bit s k = ap (λ (n : ℕ). n % 2) (shr-shr (2 ^ 64 - 1) s k)

same_min : (a : ℕ) → a < 2 → min a 1 ≡ a
same_min a few = grind arith

none_min : (a : ℕ) → min a 0 ≡ 0
none_min a = grind arith

pub low_bit : (word end k : ℕ) → k < end → end ≤ 64 → bit_at (bit_and word ((2 ^ 64 - 1) / 2 ^ (64 - end))) k ≡ bit_at word k
low_bit word end k low few =
    bit_at_and word ((2 ^ 64 - 1) / 2 ^ (64 - end)) k
    ∙ ap (min (bit_at word k)) (mask_bit (64 - end) k ∙ bit_at_ones 64 (64 - end + k) (omega (arith, low, few)))
    ∙ same_min (bit_at word k) (bit_at-lt word k)

pub high_bit : (word end k : ℕ) → end ≤ k → end ≤ 64 → bit_at (bit_and word ((2 ^ 64 - 1) / 2 ^ (64 - end))) k ≡ 0
high_bit word end k high few =
    bit_at_and word ((2 ^ 64 - 1) / 2 ^ (64 - end)) k
    ∙ ap (min (bit_at word k)) (mask_bit (64 - end) k ∙ bit_at_ones_above 64 (64 - end + k) (omega (arith, high, few)))
    ∙ none_min (bit_at word k)

-- the highest of them stands below the place
pub below_place : (word end h : ℕ) → end ≤ 64 → bit_at (bit_and word ((2 ^ 64 - 1) / 2 ^ (64 - end))) h ≡ 1 → h + 1 ≤ end
below_place word end h few on = by_place (below_or_not h end)
  where
    by_place : (h < end) ⊎ (end ≤ h) → h + 1 ≤ end
    by_place (inl low) = omega (arith, low)
    by_place (inr high) = absurd (let no : 1 ≡ 0 = sym on ∙ high_bit word end h high few in omega (arith, no))

-- a bit of the word of four that has it
pub is_clear : (words : List ℕ) (i k : ℕ) → 64 * i ≤ k → k < 64 * i + 64 → bit_at (slice_index words i) (k - 64 * i) ≡ 0 → is_set k words ≡ false
is_clear words i k low high none =
    let word : k / 64 ≡ i = omega (arith, low, high) in
    let bit : k % 64 ≡ k - 64 * i = omega (arith, low, high) in
    rw (word, bit, none) refl
