use Rattle.std.proofs.Common.{refl, ◌∙◌, arith}
use Rattle.parts_wheel.proofs.Leaving.{left_early, left_cached, left_view, left_front}
use Rattle.parts_wheel.proofs.Wheel.disarm_other.Goals as goal

pub look-requires : goal.look-requires
look-requires c =
    left_early c.self.inside.slots c.disarm_near.new.self c.args.id.number _ c.self.inside.last c.args.self.now c.disarm_near.ensures.dues c.self.view_is c.requires.0
    c.self.inside.front.early c.self.invariant.front.none_before

pub look-requires-then-tick-self-3 : goal.look-requires-then-tick-self-3
look-requires-then-tick-self-3 c =
    left_early c.self.inside.slots c.disarm_next.new.self c.args.id.number _ c.self.inside.last c.args.self.now c.disarm_next.ensures c.self.view_is c.requires.0
    c.self.inside.front.early c.self.invariant.front.none_before

pub look-requires-then-not-later : goal.look-requires-then-not-later
look-requires-then-not-later c =
    left_early c.self.inside.slots c.disarm.new.self c.args.id.number _ c.self.inside.last c.args.self.now c.disarm.ensures c.self.view_is c.requires.0
    c.self.inside.front.early c.self.invariant.front.none_before

pub returns-then-is_near : goal.returns-then-is_near
returns-then-is_near c =
    left_view c.self.inside.slots c.disarm_near.new.self c.args.id.number _ c.self.inside.last c.args.self.now c.disarm_near.ensures.dues c.self.view_is c.requires.0

pub returns-then-tick-self-3 : goal.returns-then-tick-self-3
returns-then-tick-self-3 c =
    left_view c.self.inside.slots c.disarm_next.new.self c.args.id.number _ c.self.inside.last c.args.self.now c.disarm_next.ensures c.self.view_is c.requires.0

pub returns-then-not-later : goal.returns-then-not-later
returns-then-not-later c =
    left_view c.self.inside.slots c.disarm.new.self c.args.id.number _ c.self.inside.last c.args.self.now c.disarm.ensures c.self.view_is c.requires.0

pub returns-else-tick-self-4 : goal.returns-else-tick-self-4
returns-else-tick-self-4 c =
    left_view c.self.inside.slots c.disarm.new.self c.args.id.number _ c.self.inside.last c.args.self.now c.disarm.ensures c.self.view_is c.requires.0

pub invariant_of-self : goal.invariant_of-self
invariant_of-self c =
    left_cached c.self.inside.slots c.disarm_near.new.self c.args.id.number _ c.self.inside.last c.args.self.now c.disarm_near.ensures.dues c.self.view_is c.requires.0
    _ _ _ c.look.ensures c.self.invariant.behind c.self.invariant.small

pub invariant_of-self-then-tick-self-3 : goal.invariant_of-self-then-tick-self-3
invariant_of-self-then-tick-self-3 c =
    left_cached c.self.inside.slots c.disarm_next.new.self c.args.id.number _ c.self.inside.last c.args.self.now c.disarm_next.ensures c.self.view_is c.requires.0
    _ _ _ c.look-then-tick-self-3.ensures (omega (arith, c.if-tick-self-3.true)) c.self.invariant.small

pub invariant_of-self-then-not-later : goal.invariant_of-self-then-not-later
invariant_of-self-then-not-later c =
    left_cached c.self.inside.slots c.disarm.new.self c.args.id.number _ c.self.inside.last c.args.self.now c.disarm.ensures c.self.view_is c.requires.0
    _ _ _ c.look-then-not-later.ensures c.self.invariant.behind c.self.invariant.small

pub invariant_of-self-else-tick-self-4 : goal.invariant_of-self-else-tick-self-4
invariant_of-self-else-tick-self-4 c =
    left_cached c.self.inside.slots c.disarm.new.self c.args.id.number _ c.self.inside.last c.args.self.now c.disarm.ensures c.self.view_is c.requires.0
    _ _ _
    (left_front c.self.inside.slots c.disarm.new.self c.args.id.number _ c.self.inside.last c.args.self.now c.disarm.ensures c.self.view_is c.requires.0
    _ _ _ _ c.self.invariant.front refl c.requires.1 (λ same. c.if-tick-self-4.false (c.get-tick.ensures.value ∙ same)))
    c.self.invariant.behind c.self.invariant.small
