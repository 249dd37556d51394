use Rattle.std.proofs.Common.{sym}
use Rattle.script_writer.specs.Line.{line_text}
use Rattle.script_writer.specs.Canon.{quantum_words, decls_lines}
use Rattle.script_writer.proofs.Writes.{writes_then, writes_failed, writes_as}
use Rattle.script_writer.proofs.Text.{text_of-one, decls_text}
use Rattle.script_writer.proofs.write.write_body.Goals as goal

pub returns-in_err-write_line : goal.returns-in_err-write_line
returns-in_err-write_line g c =
    let decls = c.args.script.now.decls in
    let quantum = quantum_words c.args.script.now.quantum in
    writes_as _ _ _ _ _ _ _ (sym (text_of-one quantum (decls_lines decls decls)))
    (writes_failed _ _ _ _ _ _ _ (line_text quantum) (decls_text decls decls) (rw c.quantum_line.ensures at c.write_line.ensures)
    c.in_err-write_line.was c.from_residual.ensures.0)

pub returns : goal.returns
returns g c =
    let decls = c.args.script.now.decls in
    let quantum = quantum_words c.args.script.now.quantum in
    writes_as _ _ _ _ _ _ _ (sym (text_of-one quantum (decls_lines decls decls)))
    (writes_then _ _ _ _ _ _ (line_text quantum) (decls_text decls decls)
    (rw (c.quantum_line.ensures, c.in_ok-write_line.was) at c.write_line.ensures) (rw c.items.ensures at c.write_decls.ensures))
