use Rattle.std.proofs.Common.{◌<◌, arith}
use Rattle.parts_bits.proofs.Parts.{alone, both, narrow_alone, rest_alone}
use Rattle.parts_bits.proofs.BitSet.is_alone.Goals as goal

pub returns-then-has_no_bit : goal.returns-then-has_no_bit
returns-then-has_no_bit c =
    let s = c.self.inside in let n = c.args.number in let w = c.without_bit in
    let small : n < 64 = (let not_great = c.if-number-ge64.false in omega (arith, not_great)) in
    rw (← c.self.view_is) (
      alone n s.low s.high w.result w.ensures.others w.ensures.itself small s.is_wide c.self.invariant (c.has_no_bit.ensures.0 c.if-has_no_bit.true),
      narrow_alone n s.low s.high w.result w.ensures.others w.ensures.itself small s.is_wide c.self.invariant,
    )

pub returns-else-has_no_bit : goal.returns-else-has_no_bit
returns-else-has_no_bit c =
    let s = c.self.inside in let n = c.args.number in let w = c.without_bit in
    let small : n < 64 = (let not_great = c.if-number-ge64.false in omega (arith, not_great)) in
    rw (← c.self.view_is) (
      λ is. both c.has_no_bit.result is c.if-has_no_bit.false,
      λ none. c.has_no_bit.ensures.1 (rest_alone n s.low s.high w.result w.ensures.others w.ensures.itself small none),
    )
