use Rattle.parts_bits.proofs.Parts.{none_narrow}
use Rattle.parts_bits.proofs.BitSet.first_from.Goals as goal

pub returns-then-not-self-clause-first : goal.returns-then-not-self-clause-first
returns-then-not-self-clause-first c =
    let s = c.self.inside in
    rw (← c.self.view_is) (none_narrow c.args.from s.low s.high s.is_wide c.in_default.ensures.first c.self.invariant c.if-not-self.true)
