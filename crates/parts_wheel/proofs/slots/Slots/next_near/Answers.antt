use Rattle.std.proofs.Common.{◌+◌, ◌*◌, ◌/◌}
use Rattle.parts_wheel.proofs.Holding.{first_at_tick, least_at_lowest, least_at_tick}
use Rattle.parts_wheel.proofs.slots.Slots.next_near.Goals as goal

pub returns-in-Some : goal.returns-in-Some
returns-in-Some c =
    let s = c.self.inside in let i = c.self.invariant in let list = c.in-Some.list in
    let of = least_at_tick s.base s.dues.items s.links.lists s.occupied s.passed list i.filed i.marked c.in-Some.ensures.0 c.if-list-lt2048.true in
    rw (← c.self.view_is) (
      least_at_lowest s.base s.dues.items s.links.lists s.occupied s.passed list (s.base / 2048 * 2048 + list) i.filed i.marked i.small c.in-Some.ensures.0 of,
      first_at_tick s.base list c.first_of_few.result s.dues.items s.links.lists s.passed i.filed c.if-list-lt2048.true c.first_of_few.ensures,
    )
