use Rattle.std.proofs.Common.{◌≡◌, ◌<◌, ◌≤◌, None, Some, length, ap, subst, sym, ◌∙◌, arith}
use Rattle.std.specs.List.{last_or}
use Rattle.parts_links.specs.Links.{Lists, list_at, read_lists}
use Rattle.parts_links.proofs.Tails.{back_some, back_none}
use Rattle.parts_links.proofs.links.Links.back.Goals as goal

pub returns-then-last-self : goal.returns-then-last-self
returns-then-last-self c =
    let h = c.self.inside in let is = c.self.invariant.2 in let ls = read_lists h.block h.nodes 0 h.lists in
    let inside : c.args.list < h.lists = (let l : c.args.list < length ls = subst (λ (v : Lists). c.args.list < length v.lists) (sym c.self.view_is) c.requires in omega (arith, l, is.counted)) in
    record {
      tail = ap Some c.before-last.ensures ∙ back_some h.nodes h.lists h.block ls is c.args.list inside (subst (λ x. x < h.nodes) c.before-last.ensures c.if-last-self.true)
          ∙ ap (λ (v : Lists). last_or None (list_at v.lists c.args.list)) c.self.view_is;
    }

pub returns-else-last-self : goal.returns-else-last-self
returns-else-last-self c =
    let h = c.self.inside in let is = c.self.invariant.2 in let ls = read_lists h.block h.nodes 0 h.lists in
    let inside : c.args.list < h.lists = (let l : c.args.list < length ls = subst (λ (v : Lists). c.args.list < length v.lists) (sym c.self.view_is) c.requires in omega (arith, l, is.counted)) in
    record {
      tail = back_none h.nodes h.lists h.block ls is c.args.list inside (subst (λ x. h.nodes ≤ x) c.before-last.ensures c.if-last-self.false)
          ∙ ap (λ (v : Lists). last_or None (list_at v.lists c.args.list)) c.self.view_is;
    }
