use Rattle.std.proofs.Common.{◌≡◌, ◌<◌, ◌-◌, inr, suc, true, map, length, get_or, set, sym, ap, subst, ◌∙◌, arith}
use Rattle.parts_links.specs.Links.{Lists, list_at, read_lists, on_a_list, stands_in, placed, placed_before}
use Rattle.parts_links.proofs.Linkeds.{marked_on}
use Rattle.parts_links.proofs.Heads.{put_before}
use Rattle.parts_links.proofs.links.Links.insert_before.Goals as goal

pub overflow_sub-list : goal.overflow_sub-list
overflow_sub-list c =
    let h = c.self.inside in let is = c.self.invariant.2 in let ls = read_lists h.block h.nodes 0 h.lists in
    let on = marked_on h.nodes h.lists h.block ls is c.args.at (subst (λ (v : Lists). on_a_list c.args.at v.lists ≡ true) (sym c.self.view_is) c.requires.1) in
    let mark : get_or h.block.list c.args.at 0 ≡ suc on.0 = on.4 in
    omega (arith, mark, c.list-list.ensures)

pub place-requires-clause-node : goal.place-requires-clause-node
place-requires-clause-node c =
    let h = c.self.inside in let is = c.self.invariant.2 in let ls = read_lists h.block h.nodes 0 h.lists in
    let on = marked_on h.nodes h.lists h.block ls is c.args.at (subst (λ (v : Lists). on_a_list c.args.at v.lists ≡ true) (sym c.self.view_is) c.requires.1) in
    let mark : get_or h.block.list c.args.at 0 ≡ suc on.0 = on.4 in
    let here : c.list-list.result - 1 ≡ on.0 = omega (arith, mark, c.list-list.ensures) in
    let l : on.0 < h.lists = on.1 in
    (subst (λ (v : Lists). c.list-list.result - 1 < length v.lists) c.self.view_is (omega (arith, here, l, is.counted)), c.requires.2, c.requires.3)

pub place-requires-clause-at : goal.place-requires-clause-at
place-requires-clause-at c =
    let h = c.self.inside in let is = c.self.invariant.2 in let ls = read_lists h.block h.nodes 0 h.lists in
    let on = marked_on h.nodes h.lists h.block ls is c.args.at (subst (λ (v : Lists). on_a_list c.args.at v.lists ≡ true) (sym c.self.view_is) c.requires.1) in
    let mark : get_or h.block.list c.args.at 0 ≡ suc on.0 = on.4 in
    let here : c.list-list.result - 1 ≡ on.0 = omega (arith, mark, c.list-list.ensures) in
    inr (subst (λ (v : Lists). stands_in c.args.at (list_at v.lists (c.list-list.result - 1)) ≡ true) c.self.view_is (subst (λ k. stands_in c.args.at (list_at ls k) ≡ true) (sym here) on.2))

pub returns : goal.returns
returns c =
    let h = c.self.inside in let is = c.self.invariant.2 in let ls = read_lists h.block h.nodes 0 h.lists in
    let on = marked_on h.nodes h.lists h.block ls is c.args.at (subst (λ (v : Lists). on_a_list c.args.at v.lists ≡ true) (sym c.self.view_is) c.requires.1) in
    let mark : get_or h.block.list c.args.at 0 ≡ suc on.0 = on.4 in
    let here : c.list-list.result - 1 ≡ on.0 = omega (arith, mark, c.list-list.ensures) in
    let put = put_before h.nodes h.lists h.block ls is c.args.at on.0 c.args.node on.3 on.1 mark in
    let there = subst (λ k. map (placed_before c.args.at c.args.node) ls ≡ set ls k (placed c.args.at c.args.node (list_at ls k))) (sym here) put in
    c.place.ensures ∙ subst (λ (v : Lists). record v { lists = set v.lists (c.list-list.result - 1) (placed c.args.at c.args.node (list_at v.lists (c.list-list.result - 1))) } ≡ record v { lists = map (placed_before c.args.at c.args.node) v.lists }) c.self.view_is
    (ap (λ ys. record { nodes = h.nodes; lists = ys }) (sym there))
