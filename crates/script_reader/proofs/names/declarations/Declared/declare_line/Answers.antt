use Rattle.std.proofs.Common.{◌≡◌, ◌∙◌, sym, ap, false}
use Rattle.std.specs.List.{list_any}
use Rattle.script_reader.specs.Declarations.{declares}
use Rattle.script_reader.proofs.Unnamed.{none_declared, declared_past_keyword}
use Rattle.script_reader.proofs.names.declarations.Declared.declare_line.Goals as goal

pub returns-then-not-any_declares : goal.returns-then-not-any_declares
returns-then-not-any_declares c =
    let s = c.args.s.now in
    let none : list_any declares s.row.places ≡ false = ap (list_any declares) c.places.ensures ∙ (sym c.any_declares.ensures ∙ c.if-not-any_declares.true) in
    sym (none_declared s.row.places s.words c.args.self.now s.line none)

pub returns : goal.returns
returns c =
    let s = c.args.s.now in
    rw (declared_past_keyword c.args.self.now s.line s.row.places _ s.words _ _ _ c.places-2.ensures c.operands.ensures) (rw c.line.ensures at c.declare.ensures)
