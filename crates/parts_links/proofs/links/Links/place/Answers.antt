use Rattle.std.proofs.Common.{◌≡◌, ◌<◌, ◌+◌, ◌⊎◌, true, false, length, set, sym, ap, subst, ◌∙◌, arith}
use Rattle.parts_links.specs.Links.{Lists, list_at, read_lists, on_a_list, stands_in, placed, AreLinked}
use Rattle.parts_links.proofs.Linkeds.{cell_inside, linked_with, linked_read, read_is}
use Rattle.parts_links.proofs.links.Links.place.Goals as goal

pub put_in-requires : goal.put_in-requires
put_in-requires c =
    let h = c.self.inside in let is = c.self.invariant.2 in let ls = read_lists h.block h.nodes 0 h.lists in
    let asked = subst (λ (v : Lists). (c.args.list < length v.lists) × (c.args.node < v.nodes) × (on_a_list c.args.node v.lists ≡ false)) (sym c.self.view_is) c.requires.node in
    let at = subst (λ (v : Lists). (c.args.at ≡ v.nodes + c.args.list) ⊎ (stands_in c.args.at (list_at v.lists c.args.list) ≡ true)) (sym c.self.view_is) c.requires.at in
    let inside : c.args.list < h.lists = (let l : c.args.list < length ls = asked.0 in omega (arith, l, is.counted)) in
    let q : c.args.at < h.nodes + h.lists = (cell_inside h.nodes h.lists h.block ls is c.args.list c.args.at c.args.node inside asked.1 asked.2 at).1 in
    let n : c.args.node < h.nodes = asked.1 in
    (omega (arith, q, is.afters), omega (arith, n, is.afters))

pub invariant_of-self : goal.invariant_of-self
invariant_of-self c =
    let h = c.self.inside in let is = c.self.invariant.2 in let ls = read_lists h.block h.nodes 0 h.lists in
    let k = c.args.list in let q = c.args.at in let n = c.args.node in
    let asked = subst (λ (v : Lists). (k < length v.lists) × (n < v.nodes) × (on_a_list n v.lists ≡ false)) (sym c.self.view_is) c.requires.node in
    let at = subst (λ (v : Lists). (q ≡ v.nodes + k) ⊎ (stands_in q (list_at v.lists k) ≡ true)) (sym c.self.view_is) c.requires.at in
    let inside : k < h.lists = (let l : k < length ls = asked.0 in omega (arith, l, is.counted)) in
    let lists = set ls k (placed q n (list_at ls k)) in
    let new = c.put_in.ensures in
    let now = subst (λ r. AreLinked h.nodes h.lists r lists) (sym new) (linked_with h.nodes h.lists h.block ls is k q n inside asked.1 asked.2 at) in
    (c.self.invariant.0, c.self.invariant.1, linked_read h.nodes h.lists c.put_in.new.self lists now)

pub returns : goal.returns
returns c =
    let h = c.self.inside in let is = c.self.invariant.2 in let ls = read_lists h.block h.nodes 0 h.lists in
    let k = c.args.list in let q = c.args.at in let n = c.args.node in
    let asked = subst (λ (v : Lists). (k < length v.lists) × (n < v.nodes) × (on_a_list n v.lists ≡ false)) (sym c.self.view_is) c.requires.node in
    let at = subst (λ (v : Lists). (q ≡ v.nodes + k) ⊎ (stands_in q (list_at v.lists k) ≡ true)) (sym c.self.view_is) c.requires.at in
    let inside : k < h.lists = (let l : k < length ls = asked.0 in omega (arith, l, is.counted)) in
    let lists = set ls k (placed q n (list_at ls k)) in
    let new = c.put_in.ensures in
    let now = subst (λ r. AreLinked h.nodes h.lists r lists) (sym new) (linked_with h.nodes h.lists h.block ls is k q n inside asked.1 asked.2 at) in
    let read = read_is h.nodes h.lists c.put_in.new.self lists now in
    (λ j. record { nodes = h.nodes; lists = read j }) ∙ ap (λ (v : Lists). record v { lists = set v.lists k (placed q n (list_at v.lists k)) }) c.self.view_is
