use Rattle.std.proofs.Common.{◌≡◌, true, subst, sym, ◌∙◌, arith}
use Rattle.parts_arrivals.specs.Arrivals.{Arrivals, has_come}
use Rattle.parts_arrivals.proofs.Holding.{come_below, next_held, on_ranks, stands}
use Rattle.parts_arrivals.proofs.arrivals.Arrivals.next.Goals as goal

pub next-requires : goal.next-requires
next-requires c =
    let a = c.self.inside in let h = c.self.invariant in let n = c.args.node in
    let came = stands a.arrived a.ranked a.ranks.items a.marks a.count h n (subst (λ (o : Arrivals). has_come n o.order ≡ true) (sym c.self.view_is) c.requires) in
    (omega (arith, come_below a.arrived a.ranked a.ranks.items a.marks a.count h n came, h.same_nodes), on_ranks a.arrived a.ranked a.ranks.items a.marks a.count h n came)

pub returns : goal.returns
returns c =
    let a = c.self.inside in let h = c.self.invariant in let n = c.args.node in
    let came = stands a.arrived a.ranked a.ranks.items a.marks a.count h n (subst (λ (o : Arrivals). has_come n o.order ≡ true) (sym c.self.view_is) c.requires) in
    rw (← c.self.view_is) (c.next.ensures.follower ∙ next_held a.arrived a.ranked a.ranks.items a.marks a.count h n came)
