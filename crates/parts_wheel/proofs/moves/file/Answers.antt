use Rattle.std.proofs.Common.{arith}
use Rattle.parts_wheel.proofs.Filing.{list_small}
use Rattle.parts_wheel.proofs.moves.file.Goals as goal

pub put-requires-clause-node : goal.put-requires-clause-node
put-requires-clause-node c =
    let small = list_small c.args.base c.args.due c.if-due-base.false c.requires.node.1 in
    (c.requires.node.0, omega (arith, small, c.list_for.ensures), c.requires.node.2)
