use Rattle.std.proofs.Common.{◌≡◌, true, ◌<◌, ◌≤◌, length, slice_get, Some, sym, ap, subst, ◌∙◌, arith}
use Rattle.parts_links.specs.Links.{on_a_list, Lists, list_at, read_lists}
use Rattle.parts_links.proofs.Heads.{front_on, front_some, front_none}
use Rattle.parts_links.proofs.links.Links.front.Goals as goal

pub returns-then-first-self-clause-head : goal.returns-then-first-self-clause-head
returns-then-first-self-clause-head c =
    let h = c.self.inside in let is = c.self.invariant.2 in let ls = read_lists h.block h.nodes 0 h.lists in
    let inside : c.args.list < h.lists = (let l : c.args.list < length ls = subst (λ (v : Lists). c.args.list < length v.lists) (sym c.self.view_is) c.requires in omega (arith, l, is.counted)) in
    ap Some c.after-first.ensures ∙ front_some h.nodes h.lists h.block ls is c.args.list inside (subst (λ x. x < h.nodes) c.after-first.ensures c.if-first-self.true) ∙ ap (λ (v : Lists). slice_get (list_at v.lists c.args.list) 0) c.self.view_is

pub returns-else-first-self-clause-head : goal.returns-else-first-self-clause-head
returns-else-first-self-clause-head c =
    let h = c.self.inside in let is = c.self.invariant.2 in let ls = read_lists h.block h.nodes 0 h.lists in
    let inside : c.args.list < h.lists = (let l : c.args.list < length ls = subst (λ (v : Lists). c.args.list < length v.lists) (sym c.self.view_is) c.requires in omega (arith, l, is.counted)) in
    front_none h.nodes h.lists h.block ls is c.args.list inside (subst (λ x. h.nodes ≤ x) c.after-first.ensures c.if-first-self.false) ∙ ap (λ (v : Lists). slice_get (list_at v.lists c.args.list) 0) c.self.view_is

pub returns-then-first-self-clause-stands : goal.returns-then-first-self-clause-stands
returns-then-first-self-clause-stands c =
    let h = c.self.inside in let is = c.self.invariant.2 in let ls = read_lists h.block h.nodes 0 h.lists in
    let inside : c.args.list < h.lists = (let l : c.args.list < length ls = subst (λ (v : Lists). c.args.list < length v.lists) (sym c.self.view_is) c.requires in omega (arith, l, is.counted)) in
    subst (λ (v : Lists). (c.after-first.result < v.nodes) × (on_a_list c.after-first.result v.lists ≡ true)) c.self.view_is
    (c.if-first-self.true, subst (λ x. on_a_list x ls ≡ true) (sym c.after-first.ensures) (front_on h.nodes h.lists h.block ls is c.args.list inside (subst (λ x. x < h.nodes) c.after-first.ensures c.if-first-self.true)))
