use Rattle.std.proofs.Common.{◌≡◌, true, subst, sym, ◌∙◌}
use Rattle.parts_arrivals.specs.Arrivals.{Arrivals, has_come}
use Rattle.parts_arrivals.proofs.Holding.{after_held, come_below, on_ages, stands}
use Rattle.parts_arrivals.proofs.arrivals.Arrivals.after.Goals as goal

pub next-requires : goal.next-requires
next-requires c =
    let a = c.self.inside in let h = c.self.invariant in let n = c.args.node in
    let came = stands a.arrived a.ranked a.ranks.items a.marks a.count h n (subst (λ (o : Arrivals). has_come n o.order ≡ true) (sym c.self.view_is) c.requires) in
    (come_below a.arrived a.ranked a.ranks.items a.marks a.count h n came, on_ages a.arrived a.ranked a.ranks.items a.marks a.count h n came)

pub returns : goal.returns
returns c =
    let a = c.self.inside in let h = c.self.invariant in let n = c.args.node in
    let came = stands a.arrived a.ranked a.ranks.items a.marks a.count h n (subst (λ (o : Arrivals). has_come n o.order ≡ true) (sym c.self.view_is) c.requires) in
    rw (← c.self.view_is) (c.next.ensures.follower ∙ after_held a.arrived a.ranked a.ranks.items a.marks a.count h n came)
