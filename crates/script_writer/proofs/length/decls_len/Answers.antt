use Rattle.script_writer.proofs.Lengths.{both_len}
use Rattle.script_writer.proofs.Text.{decls_text_more}
use Rattle.script_writer.proofs.length.decls_len.Goals as goal

pub loop-decl-preserved : goal.loop-decl-preserved
loop-decl-preserved c =
    let all = c.args.decls.now in
    both_len _ _ _ _ _ _ c.loop-decl.invariant c.decl_len.ensures c.sum-len.ensures
    (decls_text_more all all c.loop-decl.decl-index c.decl-item.result c.loop-decl-test.true c.decl-item.is)
