use Rattle.script_writer.proofs.Writes.{writes_then, writes_failed}
use Rattle.script_writer.proofs.Text.{decls_text_more, decls_text_split}
use Rattle.script_writer.proofs.write.write_decls.Goals as goal

pub returns-in_err-write_decl : goal.returns-in_err-write_decl
returns-in_err-write_decl g c =
    let all = c.args.decls.now in
    let text = decls_text_split all all c.loop-decl.decl-index c.decl-item.result c.loop-decl-test.true c.decl-item.is in
    rw (← text)
    (writes_then _ _ _ _ _ _ _ _ c.loop-decl.invariant
    (writes_failed _ _ _ _ _ _ _ _ _ c.write_decl.ensures c.in_err-write_decl.was c.from_residual.ensures.0))

pub loop-decl-preserved : goal.loop-decl-preserved
loop-decl-preserved g c =
    let all = c.args.decls.now in
    let text = decls_text_more all all c.loop-decl.decl-index c.decl-item.result c.loop-decl-test.true c.decl-item.is in
    rw (← text) (writes_then _ _ _ _ _ _ _ _ c.loop-decl.invariant (rw c.in_ok-write_decl.was at c.write_decl.ensures))
