use Rattle.std.proofs.Common.{sym, ◌∙◌, ap}
use Rattle.script_table.specs.Faults.{lesser_first}
use Rattle.script_table.proofs.KindOrder.{nothing_more}
use Rattle.script_table.proofs.word_faults.with_word.Goals as goal

pub returns-then-is_right : goal.returns-then-is_right
returns-then-is_right c =
    let right = c.is_right.ensures c.if-is_right.true in
    (sym (ap (lesser_first c.args.found.spelling) right.0 ∙ nothing_more c.args.found.spelling), sym (ap (lesser_first c.args.found.range) right.1 ∙ nothing_more c.args.found.range))
