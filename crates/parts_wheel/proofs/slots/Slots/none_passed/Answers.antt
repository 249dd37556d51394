use Rattle.std.proofs.Common.{None}
use Rattle.parts_wheel.proofs.Holding.{passed_first}
use Rattle.parts_wheel.proofs.slots.Slots.none_passed.Goals as goal

pub returns : goal.returns
returns c h = let s = c.self.inside in rw (← c.self.view_is) (passed_first s.base s.dues.items s.links.lists s.passed None 0 c.self.invariant.filed (c.is_empty.ensures h))
