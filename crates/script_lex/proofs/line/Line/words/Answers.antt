use Rattle.script_lex.proofs.Slices.{words_stand}
use Rattle.script_lex.proofs.line.Line.words.Goals as goal

pub returns-clause-slices : goal.returns-clause-slices
returns-clause-slices c = simp (c.of.ensures, c.comment_start.ensures.bytes) (words_stand c.args.self.now.bytes.now)
