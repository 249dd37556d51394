use Rattle.std.proofs.Common.{◌∙◌, ap}
use Rattle.script_lex.specs.Words.{WordsAhead}
use Rattle.script_lex.proofs.Ahead.{from_first}
use Rattle.script_lex.proofs.words.Words.from_first.Goals as goal

pub returns : goal.returns
returns c =
    let inside = c.self.inside in
    from_first inside.ahead.now inside.len c.blanks-start.result c.blanks-start.ensures.bound c.blanks-start.ensures.len
    ∙ ap (λ (w : WordsAhead). w.words) c.self.view_is
