use Rattle.std.proofs.Common.{◌≡◌, ◌≤◌, ◌-◌}
use Rattle.parts_wheel.specs.Slots.{IsLeastLater, IsFirstAt}
use Rattle.parts_wheel.proofs.caught_up.Given as goal

abbrev pub invariant-loop-next : goal.invariant-loop-next
invariant-loop-next l = (l.slots.dues ≡ l.fn.slots.dues) × (l.slots.base ≤ l.now) × IsLeastLater l.slots.base l.slots.dues l.next.tick × IsFirstAt l.slots.dues l.next.tick l.next.first

abbrev pub decreases-loop-next : goal.decreases-loop-next
decreases-loop-next l = l.now - l.slots.base
