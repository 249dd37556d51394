use Rattle.std.proofs.Common.{◌∙◌, sym}
use Rattle.parts_links.specs.Links.{list_at}
use Rattle.parts_links.proofs.Walks.{head_stands, follower_stands, follows_in}
use Rattle.parts_links.proofs.Standing.{on_at}
use Rattle.parts_wheel.proofs.Walking.{passed_start, passed_step}
use Rattle.parts_wheel.proofs.walks.first_of_few.Goals as goal

pub loop-at-init : goal.loop-at-init
loop-at-init c =
    let l = c.args.links.now in let k = c.args.list in let xs = list_at l.lists k in let n = c.in_ok-first.first in
    let stands = head_stands n xs (sym c.in_ok-first.ensures.head) in
    let next = c.next-at.ensures.follower ∙ follows_in l c.stand_once.ensures n k c.requires.list stands in (
      passed_start xs c.next-at.result n (c.stand_once.ensures.distinct k c.requires.list) (sym c.in_ok-first.ensures.head) stands next,
      λ m e. let h = follower_stands n m xs (sym next ∙ e) in (c.stand_once.ensures.small m k c.requires.list h, h),
    )

pub next-at-requires-in-Some : goal.next-at-requires-in-Some
next-at-requires-in-Some c = let n = c.in-Some.node in let at = c.loop-at.invariant.1 n c.in-Some.is in (at.0, on_at n c.args.list c.args.links.now.lists at.1)

pub loop-at-preserved : goal.loop-at-preserved
loop-at-preserved c =
    let l = c.args.links.now in let k = c.args.list in let xs = list_at l.lists k in let n = c.in-Some.node in let stands = (c.loop-at.invariant.1 n c.in-Some.is).1 in
    let next = c.next-at-in-Some.ensures.follower ∙ follows_in l c.stand_once.ensures n k c.requires.list stands in (
      passed_step xs c.loop-at.at c.next-at-in-Some.result n c.loop-at.least c.min-least.result (c.stand_once.ensures.distinct k c.requires.list) c.in-Some.is stands next c.min-least.ensures c.loop-at.invariant.0,
      λ m e. let h = follower_stands n m xs (sym next ∙ e) in (c.stand_once.ensures.small m k c.requires.list h, h),
    )
