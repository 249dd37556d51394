use Rattle.script_table.proofs.Parts.{with_comma, without_comma, to_end}
use Rattle.script_table.proofs.words.first_part.Goals as goal

pub returns-then-len-word-clause-parts : goal.returns-then-len-word-clause-parts
returns-then-len-word-clause-parts c = rw to_end (with_comma _ _ c.part_len-len.ensures.len c.if-len-word.true)

pub returns-else-len-word-clause-parts : goal.returns-else-len-word-clause-parts
returns-else-len-word-clause-parts c = without_comma _ _ c.part_len-len.ensures.len c.if-len-word.false
