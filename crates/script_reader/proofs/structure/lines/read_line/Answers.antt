use Rattle.std.proofs.Common.{◌≡◌, sym, ◌∙◌, ap}
use Rattle.std.specs.Prelude.{Some}
use Rattle.script_table.specs.LineFaults.{fitting_some}
use Rattle.script_table.specs.Structure.{row_of_line}
use Rattle.script_reader.proofs.LineReads.{line_says}
use Rattle.script_reader.proofs.structure.lines.read_line.Goals as goal

pub returns-in_ok-pass-in-Some-said : goal.returns-in_ok-pass-in-Some-said
returns-in_ok-pass-in-Some-said c =
    let s = c.in-Some-said.s in
    let line = c.args.line in
    let found = rw c.in-Some-said.is at c.statement-said.ensures.row in
    let said = rw c.in-Some-said.is at c.statement-said.ensures.line in
    let words = said.1 ∙ c.words.ensures.words in
    let row : row_of_line c.args.patterns.now line.bytes.now ≡ Some s.row = sym (found ∙ ap (fitting_some c.args.patterns.now) c.words.ensures.words) in
    line_says c.args.patterns.now line.number line.bytes.now c.args.blocks.now c.pass.new.self s.row s c.line_fault.result
    row c.in_default.is (rw c.table.ensures at c.line_fault.ensures) (λ k. record { line = said.0 k; row = s.row; words = words k }) (rw c.form.ensures at c.in_ok-pass-in-Some-said.ensures)
