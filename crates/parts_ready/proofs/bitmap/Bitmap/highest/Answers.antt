use Rattle.std.specs.Prelude.{slice_index}
use Rattle.parts_ready.proofs.Words.{clear_above, set_in, with_some}
use Rattle.parts_ready.proofs.bitmap.Bitmap.highest.Goals as goal

pub returns-clause-above : goal.returns-clause-above
returns-clause-above c =
    let bit = c.highest_bit.ensures in
    clear_above c.args.self.now.words c.highest_word-index.result c.highest_bit.result bit.small c.highest_word-index.ensures.above bit.above

pub returns-clause-itself : goal.returns-clause-itself
returns-clause-itself c positive =
    let words = c.args.self.now.words in let i = c.highest_word-index.result in let bit = c.highest_bit.ensures in
    set_in words i c.highest_bit.result bit.small (bit.itself (with_some (slice_index words i) i c.highest_bit.result c.highest_word-index.ensures.itself positive bit.none))
