use Rattle.script_table.proofs.Parts.{to_end}
use Rattle.tool_check.proofs.Split.{with_blank, without_blank}
use Rattle.tool_check.proofs.words.first_word.Goals as goal

pub returns-then-len-line : goal.returns-then-len-line
returns-then-len-line c = rw to_end (with_blank _ _ c.word_len-len.ensures.len c.if-len-line.true)

pub returns-else-len-line : goal.returns-else-len-line
returns-else-len-line c = without_blank _ _ c.word_len-len.ensures.len c.if-len-line.false
