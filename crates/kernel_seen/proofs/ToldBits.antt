-- The bits of facts that may have a text.
use Rattle.std.proofs.Common.{◌≡◌, ◌+◌, ◌<◌, ◌≤◌, ◌⊎◌, List, arith, false, inl, inr, length, refl, subst, true, ℕ}
use Rattle.std.specs.Prelude.{◌-◌, ◌/◌, ◌%◌, ◌^◌}
use Rattle.std.proofs.lemmas.List.{get_or_past}
use Rattle.std.proofs.lemmas.Nat.Bits.{bit_at_ones}
use Rattle.kernel_seen.specs.FactSeen.{may_tell}

within : (i n : ℕ) → (i < n) ⊎ (n ≤ i)
within i n = grind arith

-- that of a fact without a word is set
pub beyond_told : (words : List ℕ) (i : ℕ) → length words ≤ i / 64 → may_tell i words ≡ true
beyond_told words i past = rw (get_or_past words (i / 64) (2 ^ 64 - 1) past, bit_at_ones 64 (i % 64) (omega arith)) refl

-- facts behind some
pub quiet_more : (words : List ℕ) (number quiet more : ℕ) → ((i : ℕ) → i < quiet → may_tell (number + i) words ≡ false) → ((i : ℕ) → i < more → may_tell (number + quiet + i) words ≡ false)
    → (i : ℕ) → i < quiet + more → may_tell (number + i) words ≡ false
quiet_more words number quiet more first next i low = by_place (within i quiet)
  where
    by_place : (i < quiet) ⊎ (quiet ≤ i) → may_tell (number + i) words ≡ false
    by_place (inl early) = first i early
    by_place (inr late) =
        let there : number + quiet + (i - quiet) ≡ number + i = omega (arith, late) in
        subst (λ (k : ℕ). may_tell k words ≡ false) there (next (i - quiet) (omega (arith, late, low)))
