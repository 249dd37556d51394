use Rattle.std.proofs.Common.{◌≡◌, ◌<◌, ◌-◌, suc, true, false, length, get_or, sym, subst, ◌∙◌, arith}
use Rattle.parts_links.specs.Links.{Lists, list_at, read_lists, on_a_list, stands_in}
use Rattle.parts_links.proofs.Heads.{none_marked}
use Rattle.parts_links.proofs.links.Links.list_of.Goals as goal

pub returns-in-0 : goal.returns-in-0
returns-in-0 c =
    let h = c.self.inside in let is = c.self.invariant.2 in let ls = read_lists h.block h.nodes 0 h.lists in
    subst (λ (v : Lists). on_a_list c.args.node v.lists ≡ false) c.self.view_is (none_marked h.nodes h.lists h.block ls is c.args.node (sym c.list.ensures ∙ c.in-0.is))

pub returns-in_default : goal.returns-in_default
returns-in_default c =
    let h = c.self.inside in let is = c.self.invariant.2 in let ls = read_lists h.block h.nodes 0 h.lists in
    let small = subst (λ (v : Lists). c.args.node < v.nodes) (sym c.self.view_is) c.requires in
    let k = c.list.result - 1 in
    let mark : get_or h.block.list c.args.node 0 ≡ suc k = (let e = c.list.ensures in let some = c.in_default in omega (arith, e, some)) in
    let found = is.found c.args.node k small mark in
    subst (λ (v : Lists). (k < length v.lists) × (stands_in c.args.node (list_at v.lists k) ≡ true)) c.self.view_is
    ((let l : k < h.lists = found.0 in omega (arith, l, is.counted)), found.1)
