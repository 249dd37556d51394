use Rattle.std.proofs.Common.{◌∙◌, ap}
use Rattle.parts_links.specs.Links.{list_at}
use Rattle.parts_links.proofs.Standing.{head_in}
use Rattle.parts_waiters.specs.Bound.{others, waits_with_other}
use Rattle.parts_waiters.proofs.Alike.{told_by_first, told_by_none}
use Rattle.parts_waiters.proofs.Waiting.{read_at}
use Rattle.parts_waiters.proofs.bound.is_first_elsewhere.Goals as goal

pub bounds-places-node : goal.bounds-places-node
bounds-places-node c = c.requires.waiters c.in-Some.node (head_in c.in-Some.node (list_at c.args.links.now.lists c.args.list) c.in-Some.ensures.head)

pub returns-in-None : goal.returns-in-None
returns-in-None c = told_by_none (others c.args.k c.args.places.now) (list_at c.args.links.now.lists c.args.list) c.in-None.ensures.head

pub returns-in-Some : goal.returns-in-Some
returns-in-Some c =
    let places = c.args.places.now in let n = c.in-Some.node in let xs = list_at c.args.links.now.lists c.args.list in
    let read = read_at places n c.index-places-node.result c.index-places-node.is (c.requires.waiters n (head_in n xs c.in-Some.ensures.head)) in
    c.is_elsewhere.ensures ∙ ap (waits_with_other c.args.k) read ∙ told_by_first c.args.k places n xs c.requires.alike c.in-Some.ensures.head
