use Rattle.std.proofs.Common.{◌∙◌, ap, arith, sym, ◌<◌, ◌≢◌, ℕ}
use Rattle.std.specs.Int.{bit_at}
use Rattle.std.proofs.lemmas.Nat.Bits.{bit_at-zero}
use Rattle.parts_ready.proofs.Words.{below_place, low_bit}
use Rattle.parts_ready.proofs.bitmap.bits_below.Goals as goal

positive : (n : ℕ) → n ≢ 0 → 0 < n
positive n h = omega (arith, h)

pub returns-then-low-eq0-clause-clear : goal.returns-then-low-eq0-clause-clear
returns-then-low-eq0-clause-clear c k from low =
    sym (low_bit c.args.word c.args.end k low c.requires) ∙ ap (λ (w : ℕ). bit_at w k) c.if-low-eq0.true ∙ bit_at-zero k

pub returns-clause-below : goal.returns-clause-below
returns-clause-below c = below_place c.args.word c.args.end c.highest_bit.result c.requires (c.highest_bit.ensures.itself (positive _ c.if-low-eq0.false))

pub returns-clause-clear : goal.returns-clause-clear
returns-clause-clear c k from low =
    sym (low_bit c.args.word c.args.end k low c.requires) ∙ c.highest_bit.ensures.above k (omega (arith, from))
