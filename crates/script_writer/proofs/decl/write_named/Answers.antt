use Rattle.script_writer.proofs.Writes.{writes_as}
use Rattle.script_writer.proofs.Firsts.{block_kind}
use Rattle.script_writer.proofs.decl.write_named.Goals as goal

pub returns-in-Some : goal.returns-in-Some
returns-in-Some g c =
    writes_as _ _ _ _ _ _ _ (block_kind c.args.decls.now c.args.name.now c.args.kind.now c.in-Some.body.now c.in-Some.ensures)
    (rw (c.named_line-opening.ensures, c.end_line.ensures) at c.write_block.ensures)
