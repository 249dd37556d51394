use Rattle.parts_bits.proofs.Parts.{alone_high, both, high_alone, low_alone}
use Rattle.parts_bits.proofs.BitSet.is_alone_high.Goals as goal

pub returns-then-has_no_bit : goal.returns-then-has_no_bit
returns-then-has_no_bit c =
    let s = c.self.inside in let n = c.args.number in let great = c.requires.high in
    rw (← c.self.view_is) (
      λ is. alone_high n s.low s.high great (c.has_no_bit.ensures.0 c.if-has_no_bit.true) (c.is_alone_in.ensures.0 is),
      λ none. c.is_alone_in.ensures.1 (high_alone n s.low s.high great none),
    )

pub returns-else-has_no_bit : goal.returns-else-has_no_bit
returns-else-has_no_bit c =
    let s = c.self.inside in let n = c.args.number in let great = c.requires.high in
    rw (← c.self.view_is) (
      λ is. both c.has_no_bit.result is c.if-has_no_bit.false,
      λ none. c.has_no_bit.ensures.1 (low_alone n s.low s.high great none),
    )
