use Rattle.std.proofs.Common.{◌∙◌, sym}
use Rattle.script_reader.proofs.Unnamed.{faults_past_keyword}
use Rattle.script_reader.proofs.names.declarations.Declared.line_fault.Goals as goal

pub returns : goal.returns
returns c =
    let s = c.args.s.now in
    (rw c.line.ensures at c.place_fault.ensures) ∙ sym (faults_past_keyword c.args.self.now s.line s.row.places _ s.words _ _ _ c.places.ensures c.operands.ensures)
