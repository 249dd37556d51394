use Rattle.std.proofs.Common.{◌≡◌, ◌∙◌, ℕ, None, Some, ap, slice_get, subst}
use Rattle.parts_links.specs.Links.{list_at}
use Rattle.parts_links.proofs.Standing.{head_in}
use Rattle.parts_waiters.specs.Bound.{released_is}
use Rattle.parts_waiters.proofs.Alike.{like_first, none_there}
use Rattle.parts_waiters.proofs.Waiting.{inside, read_at}
use Rattle.parts_waiters.proofs.bound.is_like_first.Goals as goal

pub bounds-places-node : goal.bounds-places-node
bounds-places-node c =
    let there = c.requires.held.only c.in-Some.node c.args.list (head_in c.in-Some.node (list_at c.args.links.now.lists c.args.list) c.in-Some.ensures.head) in
    inside c.args.places.now c.in-Some.node there.0 there.1.0

pub returns-in-None : goal.returns-in-None
returns-in-None c = λ is. none_there c.args.places.now c.args.links.now c.requires.held c.requires.alike c.args.place.now
    (subst (λ (k : ℕ). None ≡ slice_get (list_at c.args.links.now.lists k) 0) c.requires.list c.in-None.ensures.head)

pub returns-in-Some : goal.returns-in-Some
returns-in-Some c =
    let places = c.args.places.now in let p = c.args.place.now in let n = c.in-Some.node in let links = c.args.links.now in
    let there = c.requires.held.only n c.args.list (head_in n (list_at links.lists c.args.list) c.in-Some.ensures.head) in
    let read = read_at places n c.index-places-node.result c.index-places-node.is (inside places n there.0 there.1.0) in
    like_first places links c.requires.held c.requires.alike p n c.has_released.result
    (subst (λ (k : ℕ). Some n ≡ slice_get (list_at links.lists k) 0) c.requires.list c.in-Some.ensures.head)
    (c.has_released.ensures ∙ ap (released_is p.released) read)
