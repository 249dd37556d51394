use Rattle.std.proofs.Common.{subst, sym, ◌∙◌}
use Rattle.parts_links.specs.Links.{list_at}
use Rattle.parts_arrivals.specs.Arrivals.{AreArrivals}
use Rattle.parts_arrivals.proofs.Orders.{oldest_is}
use Rattle.parts_arrivals.proofs.Holding.{are_arrivals}
use Rattle.parts_arrivals.proofs.arrivals.Arrivals.oldest.Goals as goal

pub returns-clause-value : goal.returns-clause-value
returns-clause-value c =
    let a = c.self.inside in
    rw (← c.self.view_is) (c.front.ensures.head ∙ sym (oldest_is a.ranks.items (list_at a.arrived.lists 0)))

pub returns-clause-arrivals : goal.returns-clause-arrivals
returns-clause-arrivals c =
    let a = c.self.inside in
    subst AreArrivals c.self.view_is (are_arrivals a.arrived a.ranked a.ranks.items a.marks a.count c.self.invariant)
