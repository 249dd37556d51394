use Rattle.std.proofs.Common.{◌∙◌, ap, length, refl}
use Rattle.std.specs.Prelude.{◌==◌}
use Rattle.script_lex.specs.Words.{WordsAhead}
use Rattle.script_lex.proofs.Ahead.{over}
use Rattle.script_lex.proofs.words.Words.is_over.Goals as goal

pub returns : goal.returns
returns c =
    let inside = c.self.inside in
    over inside.ahead.now inside.len c.blanks.result _ c.self.invariant.0 c.blanks.ensures.bound c.blanks.ensures.len refl
    ∙ ap (λ (w : WordsAhead). length w.words == 0) c.self.view_is
