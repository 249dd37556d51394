use Rattle.std.proofs.Common.{◌≡◌, ◌<◌, ◌≤◌, ◌+◌, Some, slice_get, sym, ◌∙◌, subst, arith, add-one, length}
use Rattle.std.proofs.lemmas.Option.{slice_get_within}
use Rattle.parts_links.specs.Links.{Lists, list_at, read_lists}
use Rattle.parts_links.proofs.Linkeds.{short}
use Rattle.parts_links.proofs.Standing.{on_at}
use Rattle.parts_links.proofs.Walks.{follows_in}
use Rattle.parts_links.proofs.Nth.{follower_get, get_stands, none_later}
use Rattle.parts_links.proofs.links.Links.nth.Goals as goal

pub next-requires : goal.next-requires
next-requires c =
    let l = c.args.self.now in let n = c.loop-past.node in
    let stands = get_stands n c.loop-past._past (list_at l.lists c.args.list) c.loop-past.invariant in
    (c.stand_once.ensures.small n c.args.list c.requires stands, on_at n c.args.list l.lists stands)

pub loop-past-preserved : goal.loop-past-preserved
loop-past-preserved c =
    let l = c.args.self.now in let n = c.loop-past.node in let xs = list_at l.lists c.args.list in
    let stands = get_stands n c.loop-past._past xs c.loop-past.invariant in
    let next = follows_in l c.stand_once.ensures n c.args.list c.requires stands in
    let here = follower_get n c.loop-past._past xs (c.stand_once.ensures.distinct c.args.list c.requires) c.loop-past.invariant in
    rw add-one (c.in_ok-node-2.ensures.follower ∙ next ∙ here)

pub returns-in_err-node-2-clause-node : goal.returns-in_err-node-2-clause-node
returns-in_err-node-2-clause-node c =
    let l = c.args.self.now in let n = c.loop-past.node in let xs = list_at l.lists c.args.list in
    let stands = get_stands n c.loop-past._past xs c.loop-past.invariant in
    let next = follows_in l c.stand_once.ensures n c.args.list c.requires stands in
    let here = follower_get n c.loop-past._past xs (c.stand_once.ensures.distinct c.args.list c.requires) c.loop-past.invariant in
    let none = c.in_err-node-2.ensures.follower ∙ next ∙ here in
    let le : c.loop-past._past + 1 ≤ c.args.place = omega arith in
    let all = none_later (c.loop-past._past + 1) c.args.place xs (rw add-one none) le in
    c.from_residual-in_err-node-2.ensures ∙ all

pub returns-clause-node : goal.returns-clause-node
returns-clause-node c =
    let same : c.loop-past._past ≡ c.args.place = omega arith in
    subst (λ i. Some c.loop-past.node ≡ slice_get (list_at c.args.self.now.lists c.args.list) i) same c.loop-past.invariant

pub returns-clause-small : goal.returns-clause-small
returns-clause-small c =
    let l = c.args.self.now in let n = c.loop-past.node in
    c.stand_once.ensures.small n c.args.list c.requires (get_stands n c.loop-past._past (list_at l.lists c.args.list) c.loop-past.invariant)

pub returns-clause-few : goal.returns-clause-few
returns-clause-few c =
    let h = c.self.inside in let is = c.self.invariant.2 in let ls = read_lists h.block h.nodes 0 h.lists in let k = c.args.list in
    let inside : k < h.lists = (let l : k < length ls = subst (λ (v : Lists). k < length v.lists) (sym c.self.view_is) c.requires in omega (arith, l, is.counted)) in
    let few : length (list_at ls k) ≤ h.nodes = short h.nodes k h.block (list_at ls k) (is.ring k inside) in
    let here : Some c.loop-past.node ≡ slice_get (list_at ls k) c.loop-past._past =
    subst (λ (v : Lists). Some c.loop-past.node ≡ slice_get (list_at v.lists k) c.loop-past._past) (sym c.self.view_is) c.loop-past.invariant in
    let within : c.loop-past._past < length (list_at ls k) = slice_get_within (list_at ls k) c.loop-past._past c.loop-past.node (sym here) in
    let nodes : h.nodes ≤ 65536 = c.self.invariant.0 in
    omega (arith, within, few, nodes)
