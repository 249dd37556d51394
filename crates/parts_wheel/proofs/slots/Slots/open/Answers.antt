use Rattle.parts_wheel.proofs.Holding.{opened}
use Rattle.parts_wheel.proofs.slots.Slots.open.Goals as goal

pub invariant_of-result : goal.invariant_of-result
invariant_of-result c =
    opened c.args.ids c.in_ok-dues.dues.items c.in_ok-links.links c.in_ok-occupied.occupied c.in_ok-passed.passed c.requires c.in_ok-dues.ensures c.in_ok-links.ensures
    c.in_ok-occupied.ensures c.in_ok-passed.ensures
