use Rattle.std.proofs.Common.{ap, subst, ◌+◌, ◌∙◌}
use Rattle.parts_bits.specs.Sets.{IsFirstFrom, has}
use Rattle.parts_bits.proofs.Parts.{first_high}
use Rattle.parts_bits.proofs.BitSet.first_high.Goals as goal

pub returns-in-Some-clause-first : goal.returns-in-Some-clause-first
returns-in-Some-clause-first c =
    let s = c.self.inside in
    let n = c.in-Some.number in
    let first = subst (λ f. IsFirstFrom f s.high n) c.saturating_sub.ensures c.in-Some.ensures.first in
    subst (λ w. IsFirstFrom c.args.from w (64 + n)) c.self.view_is (first_high c.args.from s.low s.high (λ t after small. ap (has t) c.self.view_is ∙ c.requires t after small) n first)
