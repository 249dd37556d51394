-- The lowest place that is taken stands in the first word that is not 0.
use Rattle.std.proofs.Common.{◌≡◌, ℕ, zero, suc, ◌+◌, ◌*◌, ◌/◌, ◌%◌, ◌<◌, true, false, List, [], ◌∷◌, inl, inr, refl, sym, arith, length, get_or, nat_lt, ◌∙◌}
use Rattle.std.specs.Prelude.{if◌then◌else◌, ◌==◌, slice_index}
use Rattle.std.specs.Int.{bit_at}
use Rattle.std.proofs.lemmas.Bool.Decides.{eqb_tells, nat_tests}
use Rattle.std.proofs.lemmas.Grind.{get_or_default_zero}
use Rattle.std.proofs.lemmas.Nat.Bits.{bit_at-zero}
use Rattle.parts_wheel.specs.Bits.{AreUsed, IsLowestSet}

-- the mark of a word
abbrev pub mark : ℕ → ℕ
mark n = if nat_lt 0 n then 1 else 0

is_nothing : (n : ℕ) → mark n ≡ 0 → n ≡ 0
is_nothing n h = grind (arith, nat_tests, h)

read_beyond : (xs : List ℕ) (i : ℕ) → mark (slice_index xs i) ≡ 1 → i < length xs
read_beyond [] i h = cc
read_beyond (x ∷ xs) zero h = omega arith
read_beyond (x ∷ xs) (suc i) h = omega (arith, read_beyond xs i h)

of_bit : (n : ℕ) → n ≡ 1 → (n == 1) ≡ true
of_bit n h = rw h refl

not_of_bit : (n : ℕ) → n ≡ 0 → (n == 1) ≡ false
not_of_bit n h = rw h refl

module _ (used : ℕ) (words : List ℕ) (index b : ℕ) where
  pub lowest_at : (word : ℕ) → AreUsed used words → word ≡ get_or words index word →
      index < 64 → bit_at used index ≡ 1 → ((k : ℕ) → k < index → bit_at used k ≡ 0) →
      b < 64 → bit_at word b ≡ 1 → ((k : ℕ) → k < b → bit_at word k ≡ 0) →
      IsLowestSet words (index * 64 + b) × (index * 64 + b < 64 * length words)
  lowest_at word marks read small here earlier low set below =
      let within : index < length words = read_beyond words index (sym (marks.marked index small) ∙ here) in
      let at : word ≡ slice_index words index = read ∙ get_or_default_zero words index word within in
      let q : (index * 64 + b) / 64 ≡ index = omega (arith, low) in
      let r : (index * 64 + b) % 64 ≡ b = omega (arith, low) in (
        record {
          itself = rw (q, r, ← at) (of_bit (bit_at word b) set);
          below = λ k less.
              not_of_bit (bit_at (slice_index words (k / 64)) (k % 64))
              (elim (eqb_tells (k / 64) index) [
                | inl same ↦ (rw (same.1, ← at) (below (k % 64) (omega (arith, less, same.1, low))))
                | inr other ↦ (let first : k / 64 < index = omega (arith, less, other.1, low) in
                    let none : slice_index words (k / 64) ≡ 0 = is_nothing _ (sym (marks.marked (k / 64) (omega (arith, first, small))) ∙ earlier (k / 64) first) in
                    rw none (bit_at-zero (k % 64)))
              ]);
        },
        omega (arith, within, low),
      )
