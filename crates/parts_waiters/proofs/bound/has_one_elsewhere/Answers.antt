use Rattle.std.proofs.Common.{◌≡◌, ◌<◌, length, sym, ap, subst₂, ◌∙◌, false, true}
use Rattle.parts_links.specs.Links.{list_at}
use Rattle.parts_links.specs.Walks.{rest_of}
use Rattle.parts_links.proofs.Walks.{rest_first, head_stands, follower_stands, follows_in, shorter}
use Rattle.parts_links.proofs.Standing.{on_at}
use Rattle.parts_waiters.specs.Bound.{has_one, others, waits_with_other}
use Rattle.parts_waiters.proofs.Elsewhere.{one_is, one_not}
use Rattle.parts_waiters.proofs.Waiting.{read_at}
use Rattle.parts_waiters.proofs.bound.has_one_elsewhere.Goals as goal

pub loop-at-init : goal.loop-at-init
loop-at-init c =
    let l = c.args.links.now in let k = c.args.list in let xs = list_at l.lists k in let head = c.front-at.ensures.head in (
      ap (λ o. has_one (others c.args.k c.args.places.now) (rest_of o xs)) head ∙ ap (has_one (others c.args.k c.args.places.now)) (rest_first xs),
      λ n e. let h = head_stands n xs (sym head ∙ e) in (c.stand_once.ensures.small n k c.requires.list.0 h, h),
    )

pub bounds-places-node : goal.bounds-places-node
bounds-places-node c = c.requires.waiters c.in-Some.node (c.loop-at.invariant.1 c.in-Some.node c.in-Some.is).1

pub returns-then-is_elsewhere : goal.returns-then-is_elsewhere
returns-then-is_elsewhere c =
    let l = c.args.links.now in let k = c.args.list in let xs = list_at l.lists k in let n = c.in-Some.node in let stands = (c.loop-at.invariant.1 n c.in-Some.is).1 in
    let elsewhere = others c.args.k c.args.places.now in
    let read = read_at c.args.places.now n c.index-places-node.result c.index-places-node.is (c.requires.waiters n stands) in
    let is : elsewhere n ≡ true = sym (c.is_elsewhere.ensures ∙ ap (waits_with_other c.args.k) read) ∙ c.if-is_elsewhere.true in
    one_is elsewhere n xs (c.stand_once.ensures.distinct k c.requires.list.0) stands is ∙ ap (λ o. has_one elsewhere (rest_of o xs)) (sym c.in-Some.is) ∙ c.loop-at.invariant.0

pub next-at-requires : goal.next-at-requires
next-at-requires c =
    let n = c.in-Some.node in let at = c.loop-at.invariant.1 n c.in-Some.is in (at.0, on_at n c.args.list c.args.links.now.lists at.1)

pub loop-at-smaller : goal.loop-at-smaller
loop-at-smaller c =
    let l = c.args.links.now in let k = c.args.list in let xs = list_at l.lists k in let n = c.in-Some.node in let stands = (c.loop-at.invariant.1 n c.in-Some.is).1 in
    let next = c.next-at.ensures.follower ∙ follows_in l c.stand_once.ensures n k c.requires.list.0 stands in
    subst₂ (λ a b. length (rest_of a xs) < length (rest_of b xs)) (sym next) (sym c.in-Some.is) (shorter n xs (c.stand_once.ensures.distinct k c.requires.list.0) stands)

pub loop-at-preserved : goal.loop-at-preserved
loop-at-preserved c =
    let l = c.args.links.now in let k = c.args.list in let xs = list_at l.lists k in let n = c.in-Some.node in let stands = (c.loop-at.invariant.1 n c.in-Some.is).1 in
    let elsewhere = others c.args.k c.args.places.now in
    let next = c.next-at.ensures.follower ∙ follows_in l c.stand_once.ensures n k c.requires.list.0 stands in
    let read = read_at c.args.places.now n c.index-places-node.result c.index-places-node.is (c.requires.waiters n stands) in
    let not : elsewhere n ≡ false = sym (c.is_elsewhere.ensures ∙ ap (waits_with_other c.args.k) read) ∙ c.if-is_elsewhere.false in (
      ap (λ o. has_one elsewhere (rest_of o xs)) next ∙ one_not elsewhere n xs (c.stand_once.ensures.distinct k c.requires.list.0) stands not
          ∙ ap (λ o. has_one elsewhere (rest_of o xs)) (sym c.in-Some.is) ∙ c.loop-at.invariant.0,
      λ m e. let h = follower_stands n m xs (sym next ∙ e) in (c.stand_once.ensures.small m k c.requires.list.0 h, h),
    )
