use Rattle.std.proofs.Common.{◌≡◌, ◌<◌, ◌≤◌, true, Some, sym, ap, subst, ◌∙◌}
use Rattle.parts_links.specs.Links.{Lists, read_lists, on_a_list, follower_on}
use Rattle.parts_links.proofs.Heads.{next_on, next_some, next_none}
use Rattle.parts_links.proofs.links.Links.next.Goals as goal

pub returns-then-next-self-clause-follower : goal.returns-then-next-self-clause-follower
returns-then-next-self-clause-follower c =
    let h = c.self.inside in let is = c.self.invariant.2 in let ls = read_lists h.block h.nodes 0 h.lists in
    let on = subst (λ (v : Lists). on_a_list c.args.node v.lists ≡ true) (sym c.self.view_is) c.requires.1 in
    ap Some c.after-next.ensures ∙ next_some h.nodes h.lists h.block ls is c.args.node on (subst (λ x. x < h.nodes) c.after-next.ensures c.if-next-self.true) ∙ ap (λ (v : Lists). follower_on c.args.node v.lists) c.self.view_is

pub returns-else-next-self-clause-follower : goal.returns-else-next-self-clause-follower
returns-else-next-self-clause-follower c =
    let h = c.self.inside in let is = c.self.invariant.2 in let ls = read_lists h.block h.nodes 0 h.lists in
    let on = subst (λ (v : Lists). on_a_list c.args.node v.lists ≡ true) (sym c.self.view_is) c.requires.1 in
    next_none h.nodes h.lists h.block ls is c.args.node on (subst (λ x. h.nodes ≤ x) c.after-next.ensures c.if-next-self.false) ∙ ap (λ (v : Lists). follower_on c.args.node v.lists) c.self.view_is

pub returns-then-next-self-clause-stands : goal.returns-then-next-self-clause-stands
returns-then-next-self-clause-stands c =
    let h = c.self.inside in let is = c.self.invariant.2 in let ls = read_lists h.block h.nodes 0 h.lists in
    let on = subst (λ (v : Lists). on_a_list c.args.node v.lists ≡ true) (sym c.self.view_is) c.requires.1 in
    subst (λ (v : Lists). (c.after-next.result < v.nodes) × (on_a_list c.after-next.result v.lists ≡ true)) c.self.view_is
    (c.if-next-self.true, subst (λ x. on_a_list x ls ≡ true) (sym c.after-next.ensures) (next_on h.nodes h.lists h.block ls is c.args.node on (subst (λ x. x < h.nodes) c.after-next.ensures c.if-next-self.true)))
