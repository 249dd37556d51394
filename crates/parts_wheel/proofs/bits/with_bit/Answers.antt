use Rattle.std.proofs.Common.{◌≡◌, ◌≢◌, ℕ, ◌<◌, ◌*◌, ◌^◌, ◌%◌, if◌then◌else◌, Bool, true, false, ap, ◌∙◌, w64, arith}
use Rattle.std.proofs.lemmas.Nat.Bits.{bit_at_set_same, bit_at_set_other, bit_at_clear_same, bit_at_clear_other}
use Rattle.std.specs.Int.{bit_at, bit_not}
use Rattle.std.specs.Int.Bits.{bit_and, bit_or, or_zero_r}
use mir.Val.{bool_byte}
use Rattle.parts_wheel.proofs.bits.with_bit.Goals as goal

-- the word without the bit
abbrev without : ℕ → ℕ → ℕ
without word bit = bit_and word (bit_not w64 (1 * 2 ^ bit % 2 ^ 64))

abbrev with_value : ℕ → ℕ → Bool → ℕ
with_value word bit value = bit_or (without word bit) (bool_byte value * 2 ^ bit % 2 ^ 64)

nothing_added : (word bit : ℕ) → with_value word bit false ≡ without word bit
nothing_added word bit = let none : 0 * 2 ^ bit % 2 ^ 64 ≡ 0 = omega arith in ap (λ n. bit_or (without word bit) n) none ∙ or_zero_r (without word bit)

changed : (word bit : ℕ) (value : Bool) → bit < 64 → bit_at (with_value word bit value) bit ≡ (if value then 1 else 0)
changed word bit true inside = bit_at_set_same w64 (without word bit) bit inside
changed word bit false inside = ap (λ n. bit_at n bit) (nothing_added word bit) ∙ bit_at_clear_same w64 word bit inside

others : (word bit k : ℕ) (value : Bool) → bit < 64 → k < 64 → k ≢ bit → bit_at (with_value word bit value) k ≡ bit_at word k
others word bit k true inside within other = bit_at_set_other w64 (without word bit) bit inside k other ∙ bit_at_clear_other w64 word bit inside k within other
others word bit k false inside within other = ap (λ n. bit_at n k) (nothing_added word bit) ∙ bit_at_clear_other w64 word bit inside k within other

pub returns-clause-changed : goal.returns-clause-changed
returns-clause-changed c = changed c.args.word c.args.bit c.args.value c.requires

pub returns-clause-others : goal.returns-clause-others
returns-clause-others c k within other = others c.args.word c.args.bit k c.args.value c.requires within other
