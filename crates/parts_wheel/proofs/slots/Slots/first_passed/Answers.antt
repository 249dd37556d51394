use Rattle.std.proofs.Common.{length, ◌*◌}
use Rattle.parts_wheel.proofs.Holding.{passed_first}
use Rattle.parts_wheel.proofs.slots.Slots.first_passed.Goals as goal

pub returns : goal.returns
returns c =
    let s = c.self.inside in
    rw (← c.self.view_is) (passed_first s.base s.dues.items s.links.lists s.passed c.lowest.result (64 * length s.passed) c.self.invariant.filed c.lowest.ensures)
