use Rattle.std.proofs.Common.{ap, ◌∙◌}
use Rattle.script_writer.specs.Firsts.{capped_len}
use Rattle.script_writer.proofs.Firsts.{block_kind}
use Rattle.script_writer.proofs.length.named_len.Goals as goal

pub returns-in-Some : goal.returns-in-Some
returns-in-Some c =
    (rw (c.named_line-opening.ensures, c.end_line.ensures) at c.block_len.ensures)
    ∙ ap capped_len (block_kind c.args.decls.now c.args.name.now c.args.kind.now c.in-Some.body.now c.in-Some.ensures)
