use Rattle.std.proofs.Common.{◌≡◌, ◌<◌, true, map, get_or, get_or-set_same, sym, ap, subst, ◌∙◌, arith}
use Rattle.parts_links.specs.Rings.{Rings}
use Rattle.parts_links.specs.Links.{Lists, read_lists, on_a_list, without, AreLinked, OthersStay}
use Rattle.parts_links.proofs.Linkeds.{marked_on, linked_without, linked_read, read_is}
use Rattle.parts_links.proofs.Heads.{none_marked, stand_once}
use Rattle.parts_links.proofs.Standing.{others_stay}
use Rattle.parts_links.proofs.links.Links.unlink.Goals as goal

pub take_out-requires : goal.take_out-requires
take_out-requires c =
    let h = c.self.inside in let n = c.args.node in let is = c.self.invariant.2 in let ls = read_lists h.block h.nodes 0 h.lists in
    let on = subst (λ (v : Lists). on_a_list n v.lists ≡ true) (sym c.self.view_is) c.requires.1 in
    let small : n < h.nodes = (marked_on h.nodes h.lists h.block ls is n on).3 in
    omega (arith, small, is.afters)

pub invariant_of-self : goal.invariant_of-self
invariant_of-self c =
    let h = c.self.inside in let n = c.args.node in let is = c.self.invariant.2 in let ls = read_lists h.block h.nodes 0 h.lists in
    let on = subst (λ (v : Lists). on_a_list n v.lists ≡ true) (sym c.self.view_is) c.requires.1 in
    let new = c.take_out.ensures in
    let now = subst (λ r. AreLinked h.nodes h.lists r (map (without n) ls)) (sym new) (linked_without h.nodes h.lists h.block ls is n on) in
    (c.self.invariant.0, c.self.invariant.1, linked_read h.nodes h.lists c.take_out.new.self (map (without n) ls) now)

pub returns-clause-lists : goal.returns-clause-lists
returns-clause-lists c =
    let h = c.self.inside in let n = c.args.node in let is = c.self.invariant.2 in let ls = read_lists h.block h.nodes 0 h.lists in
    let on = subst (λ (v : Lists). on_a_list n v.lists ≡ true) (sym c.self.view_is) c.requires.1 in
    let new = c.take_out.ensures in
    let now = subst (λ r. AreLinked h.nodes h.lists r (map (without n) ls)) (sym new) (linked_without h.nodes h.lists h.block ls is n on) in
    let read = read_is h.nodes h.lists c.take_out.new.self (map (without n) ls) now in
    (λ j. record { nodes = h.nodes; lists = read j }) ∙ ap (λ (v : Lists). record v { lists = map (without n) v.lists }) c.self.view_is

pub returns-clause-gone : goal.returns-clause-gone
returns-clause-gone c =
    let h = c.self.inside in let n = c.args.node in let is = c.self.invariant.2 in let ls = read_lists h.block h.nodes 0 h.lists in
    let on = subst (λ (v : Lists). on_a_list n v.lists ≡ true) (sym c.self.view_is) c.requires.1 in
    let new = c.take_out.ensures in
    let now = subst (λ r. AreLinked h.nodes h.lists r (map (without n) ls)) (sym new) (linked_without h.nodes h.lists h.block ls is n on) in
    let small : n < h.nodes = (marked_on h.nodes h.lists h.block ls is n on).3 in
    none_marked h.nodes h.lists c.take_out.new.self (read_lists c.take_out.new.self h.nodes 0 h.lists) (linked_read h.nodes h.lists c.take_out.new.self (map (without n) ls) now) n
    (ap (λ (r : Rings). get_or r.list n 0) new ∙ get_or-set_same h.block.list n 0 0 (omega (arith, small, is.marks)))

pub returns-clause-others : goal.returns-clause-others
returns-clause-others c =
    let h = c.self.inside in let n = c.args.node in let is = c.self.invariant.2 in let ls = read_lists h.block h.nodes 0 h.lists in
    let on = subst (λ (v : Lists). on_a_list n v.lists ≡ true) (sym c.self.view_is) c.requires.1 in
    let new = c.take_out.ensures in
    let now = subst (λ r. AreLinked h.nodes h.lists r (map (without n) ls)) (sym new) (linked_without h.nodes h.lists h.block ls is n on) in
    let read = read_is h.nodes h.lists c.take_out.new.self (map (without n) ls) now in
    let stay = others_stay (record { nodes = h.nodes; lists = ls }) n (stand_once h.nodes h.lists h.block ls is) in
    subst (λ (v : Lists). OthersStay n v.lists (read_lists c.take_out.new.self h.nodes 0 h.lists)) c.self.view_is (subst (OthersStay n ls) (sym read) stay)
