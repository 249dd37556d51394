use Rattle.std.proofs.Common.{sym}
use Rattle.script_writer.specs.Line.{line_text}
use Rattle.script_writer.specs.Canon.{quantum_words, decls_lines, version_lines, body_lines, text_of}
use Rattle.script_writer.proofs.Lengths.{both_len}
use Rattle.script_writer.proofs.Text.{text_of-one, text_of-append, decls_text}
use Rattle.script_writer.proofs.length.canon_len.Goals as goal

pub returns : goal.returns
returns c =
    let script = c.args.script.now in
    let quantum = quantum_words script.quantum in
    let body = both_len (line_text quantum) (decls_text script.decls script.decls) (text_of (body_lines script)) _ _ _
    (rw c.quantum_line.ensures at c.line_len.ensures) (rw c.items.ensures at c.decls_len.ensures) c.sum-body.ensures (sym (text_of-one quantum (decls_lines script.decls script.decls))) in
    both_len (text_of (version_lines script.version)) (text_of (body_lines script)) _ _ _ _ c.version_len.ensures body c.sum.ensures (sym (text_of-append (version_lines script.version) (body_lines script)))
