use Rattle.std.proofs.Common.{◌∙◌, ap}
use Rattle.script_lex.specs.Words.{WordsAhead}
use Rattle.script_reader.proofs.OnlyNumber.{only_number}
use Rattle.script_reader.proofs.structure.statement.LineWords.only_number.Goals as goal

pub returns : goal.returns
returns c = only_number _ _ c.self.inside.keyword.now _ _ c.short_number.ensures (c.from_first.ensures ∙ ap (λ (w : WordsAhead). w.words) c.in_bytes.ensures) c.self.view_is
