use Rattle.std.proofs.Common.{◌≡◌, ◌+◌, [], None, get_or, true, subst, sym, ap, ◌∙◌, arith}
use Rattle.parts_links.specs.Links.{follower_on, stands_in}
use Rattle.rules_lists.specs.Lists.{ReadyLists, to_tail}
use Rattle.parts_ready.proofs.Nodes.{on_at}
use Rattle.parts_ready.proofs.Tails.{tail_stays}
use Rattle.parts_ready.proofs.Ready.to_tail.Goals as goal

pub next-requires : goal.next-requires
next-requires c = (omega (arith, c.get-node.ensures.small, c.self.invariant.nodes), on_at c.get-node.result c.in-Some.place c.self.inside.links.lists c.in-Some.ensures.1)

pub returns-in_default : goal.returns-in_default
returns-in_default c =
    let lists = c.self.inside.links.lists in let t = c.args.t in let k = c.in-Some.place in
    let at : k + 1 ≡ c.args.p = c.if-place-get.true ∙ c.get.ensures.value in
    let stands : stands_in t (get_or lists k []) ≡ true = subst (λ n. stands_in n (get_or lists k []) ≡ true) c.get-node.ensures.value c.in-Some.ensures.1 in
    let last = subst (λ n. follower_on n lists ≡ None) c.get-node.ensures.value (sym c.in_default.ensures.follower) in
    let same = tail_stays t c.args.p k lists (c.self.invariant.lists.once t) at c.in-Some.ensures.0 stands last in
    ap (λ ls. record c.args.self.now { lists = ls }) (sym (subst (λ (r : ReadyLists). to_tail t c.args.p r.lists ≡ r.lists) c.self.view_is same))
