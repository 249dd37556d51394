use Rattle.std.proofs.Common.{◌<◌, sym, ◌∙◌, arith}
use Rattle.parts_ready.proofs.Heads.{named_small}
use Rattle.parts_ready.proofs.Places.{highest_unmarked}
use Rattle.parts_ready.proofs.Tops.{found_head, found_none, no_top}
use Rattle.parts_ready.proofs.find_head.Goals as goal

pub returns-in-Some-clause-head : goal.returns-in-Some-clause-head
returns-in-Some-clause-head c =
    let n = c.in-Some.first in
    let small : n < 256 = omega (arith, c.in-Some.ensures.stands.0, c.requires.nodes.0) in
    named_small n small ∙ sym (found_head c.highest-place.result n c.args.links.now.lists c.args.occupied.now.words c.requires.marked c.highest-place.ensures.above c.in-Some.ensures.head)

pub returns-in-None-clause-head : goal.returns-in-None-clause-head
returns-in-None-clause-head c =
    let from = c.highest-place.ensures in
    let none = found_none c.highest-place.result c.args.links.now.lists c.args.occupied.now.words c.requires.marked from.above from.itself c.in-None.ensures.head in
    sym (highest_unmarked c.args.links.now.lists c.args.occupied.now.words c.requires.marked none)

pub returns-in-None-clause-top : goal.returns-in-None-clause-top
returns-in-None-clause-top c =
    let from = c.highest-place.ensures in
    no_top c.args.occupied.now.words (found_none c.highest-place.result c.args.links.now.lists c.args.occupied.now.words c.requires.marked from.above from.itself c.in-None.ensures.head)
