use Rattle.std.proofs.Common.{false}
use Rattle.parts_bits.proofs.Parts.{turned_high}
use Rattle.parts_bits.proofs.BitSet.remove_high.Goals as goal

pub returns : goal.returns
returns c =
    let s = c.self.inside in
    rw (← c.self.view_is) (turned_high c.args.number false s.low s.high c.remove_in-self-inside.new.words c.requires.high c.remove_in-self-inside.ensures.removed)
