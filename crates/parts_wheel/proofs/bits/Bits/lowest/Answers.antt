use Rattle.parts_wheel.proofs.Used.{lowest_at}
use Rattle.parts_wheel.proofs.bits.Bits.lowest.Goals as goal

pub returns : goal.returns
returns c =
    let words = c.self.inside.words.items in
    rw (← c.self.view_is)
    (lowest_at c.self.inside.used words c.lowest_bit-index.result c.lowest_bit.result c.index-word.result.now c.self.invariant c.index-word.ensures
    c.lowest_bit-index.ensures.small c.lowest_bit-index.ensures.is_set c.lowest_bit-index.ensures.below c.lowest_bit.ensures.small c.lowest_bit.ensures.is_set c.lowest_bit.ensures.below)
