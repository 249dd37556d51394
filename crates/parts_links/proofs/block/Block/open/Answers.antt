use Rattle.parts_links.proofs.Blocks.{opened, seen_alone}
use Rattle.parts_links.proofs.block.Block.open.Goals as goal

pub invariant_of-result : goal.invariant_of-result
invariant_of-result c =
    let e = c.in_ok-base.ensures in
    opened c.in_ok-base.base.ptr c.fill.new.cells c.args.count c.fill.ensures c.in_ok-base.deed c.args.alloc e.2 e.3 e.4

pub returns : goal.returns
returns c = seen_alone c.in_ok-base.base.ptr c.fill.new.cells c.args.count c.fill.ensures
