use Rattle.std.proofs.Common.{sym}
use Rattle.script_writer.specs.Canon.{version_lines, body_lines, text_of}
use Rattle.script_writer.proofs.Writes.{writes_then, writes_failed, writes_as}
use Rattle.script_writer.proofs.Text.{text_of-append}
use Rattle.script_writer.proofs.write.write_script.Goals as goal

pub returns-in_err-write_version-clause-written : goal.returns-in_err-write_version-clause-written
returns-in_err-write_version-clause-written g c =
    let script = c.args.script.now in
    (writes_as _ _ _ _ _ _ _ (sym (text_of-append (version_lines script.version) (body_lines script)))
    (writes_failed _ _ _ _ _ _ _ (text_of (version_lines script.version)) (text_of (body_lines script)) c.write_version.ensures
    c.in_err-write_version.was c.from_residual.ensures.0)).written

pub returns-clause-written : goal.returns-clause-written
returns-clause-written g c =
    let script = c.args.script.now in
    (writes_as _ _ _ _ _ _ _ (sym (text_of-append (version_lines script.version) (body_lines script)))
    (writes_then _ _ _ _ _ _ (text_of (version_lines script.version)) (text_of (body_lines script))
    (rw c.in_ok-write_version.was at c.write_version.ensures) c.write_body.ensures)).written
