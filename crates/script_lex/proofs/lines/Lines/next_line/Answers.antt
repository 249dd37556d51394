use Rattle.std.proofs.Common.{ap, sym, ◌∙◌, eqb-true}
use Rattle.std.proofs.lemmas.List.{nil_from_length}
use Rattle.script_lex.specs.Lines.{lines_of, Ahead}
use Rattle.script_lex.proofs.Split.{no_lines}
use Rattle.script_lex.proofs.lines.Lines.next_line.Goals as goal

pub returns-then-is_empty-clause-line : goal.returns-then-is_empty-clause-line
returns-then-is_empty-clause-line c =
    let none = nil_from_length _ (eqb-true _ 0 (sym c.is_empty.ensures ∙ c.if-is_empty.true)) in
    sym (ap (λ (a : Ahead). a.lines) c.self.view_is) ∙ (ap lines_of none ∙ no_lines)
