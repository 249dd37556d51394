use Rattle.std.proofs.Common.{◌<◌, length, refl, sym, subst₂, ◌∙◌, arith}
use Rattle.parts_links.specs.Links.{list_at, follower}
use Rattle.parts_links.specs.Walks.{rest_of}
use Rattle.parts_links.proofs.Walks.{head_stands, follower_stands, follows_in, shorter}
use Rattle.parts_links.proofs.Standing.{on_at}
use Rattle.parts_wheel.proofs.Filing.{armed_inside}
use Rattle.parts_wheel.proofs.Holding.{read_at}
use Rattle.parts_wheel.proofs.Walking.{walk_start, walk_on}
use Rattle.parts_wheel.proofs.walks.least_in.Goals as goal

pub loop-at-init : goal.loop-at-init
loop-at-init c =
    let l = c.args.links.now in let k = c.args.list in let xs = list_at l.lists k in let head = c.front-at.ensures.head in (
      walk_start c.args.dues.now xs c.front-at.result head,
      λ n e. let h = head_stands n xs (sym head ∙ e) in (c.stand_once.ensures.small n k c.requires.list h, h),
    )

pub bounds-dues-node : goal.bounds-dues-node
bounds-dues-node c = let n = c.in-Some.node in let o = c.requires.armed n (c.loop-at.invariant.1 n c.in-Some.is).1 in armed_inside c.args.dues.now n o.0 o.1

pub next-at-requires : goal.next-at-requires
next-at-requires c =
    let n = c.in-Some.node in let at = c.loop-at.invariant.1 n c.in-Some.is in (at.0, on_at n c.args.list c.args.links.now.lists at.1)

pub loop-at-smaller : goal.loop-at-smaller
loop-at-smaller c =
    let l = c.args.links.now in let k = c.args.list in let xs = list_at l.lists k in let n = c.in-Some.node in let stands = (c.loop-at.invariant.1 n c.in-Some.is).1 in
    let next = c.next-at.ensures.follower ∙ follows_in l c.stand_once.ensures n k c.requires.list stands in
    subst₂ (λ a b. length (rest_of a xs) < length (rest_of b xs)) (sym next) (sym c.in-Some.is) (shorter n xs (c.stand_once.ensures.distinct k c.requires.list) stands)

pub loop-at-preserved : goal.loop-at-preserved
loop-at-preserved c =
    let l = c.args.links.now in let k = c.args.list in let xs = list_at l.lists k in let n = c.in-Some.node in let stands = (c.loop-at.invariant.1 n c.in-Some.is).1 in
    let next = c.next-at.ensures.follower ∙ follows_in l c.stand_once.ensures n k c.requires.list stands in
    let o = c.requires.armed n stands in let inside = armed_inside c.args.dues.now n o.0 o.1 in (
      walk_on c.args.dues.now xs c.loop-at.at _ c.next-at.result n o.0 c.loop-at.next.tick c.loop-at.next.first c.sooner-next.result.tick c.sooner-next.result.first (c.stand_once.ensures.distinct k c.requires.list) c.in-Some.is stands next o.1
          (read_at c.args.dues.now n c.index-dues-node.result c.index-dues-node.is inside ∙ o.1) c.sooner-next.ensures c.loop-at.invariant.0,
      λ m e. let h = follower_stands n m xs (sym next ∙ e) in (c.stand_once.ensures.small m k c.requires.list h, h),
    )

pub returns-then-is_none-clause-least : goal.returns-then-is_none-clause-least
returns-then-is_none-clause-least c =
    let l = c.args.links.now in let k = c.args.list in let xs = list_at l.lists k in let n = c.in-Some.node in let stands = (c.loop-at.invariant.1 n c.in-Some.is).1 in
    let o = c.requires.armed n stands in let inside = armed_inside c.args.dues.now n o.0 o.1 in
    let walked = walk_on c.args.dues.now xs c.loop-at.at _ (follower n xs) n o.0 c.loop-at.next.tick c.loop-at.next.first c.sooner-next.result.tick c.sooner-next.result.first (c.stand_once.ensures.distinct k c.requires.list) c.in-Some.is stands refl o.1
    (read_at c.args.dues.now n c.index-dues-node.result c.index-dues-node.is inside ∙ o.1) c.sooner-next.ensures c.loop-at.invariant.0 in
    record { least = λ i d h due. let e = c.requires.early i d due in omega (arith, e, c.if-next-early.true); holds = walked.holds }
