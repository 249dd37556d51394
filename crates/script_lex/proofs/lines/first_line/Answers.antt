use Rattle.std.proofs.lemmas.List.{take_rest}
use Rattle.script_lex.proofs.Split.{line_with_end, last_line}
use Rattle.script_lex.proofs.lines.first_line.Goals as goal

pub returns-then-len-text-clause-lines : goal.returns-then-len-text-clause-lines
returns-then-len-text-clause-lines c = rw take_rest (line_with_end _ _ c.requires.some c.requires.len)

pub returns-else-len-text-clause-lines : goal.returns-else-len-text-clause-lines
returns-else-len-text-clause-lines c = rw take_rest (last_line _ _ c.requires.some c.requires.len c.if-len-text.false)
