use Rattle.std.proofs.Common.{subst}
use Rattle.parts_arrivals.specs.Arrivals.{AreArrivals}
use Rattle.parts_arrivals.proofs.Holding.{are_arrivals, marked_held}
use Rattle.parts_arrivals.proofs.arrivals.Arrivals.ranks.Goals as goal

pub returns-clause-value : goal.returns-clause-value
returns-clause-value c = let a = c.self.inside in rw (← c.self.view_is) (marked_held a.arrived a.ranked a.ranks.items a.marks a.count c.self.invariant)

pub returns-clause-arrivals : goal.returns-clause-arrivals
returns-clause-arrivals c =
    let a = c.self.inside in
    subst AreArrivals c.self.view_is (are_arrivals a.arrived a.ranked a.ranks.items a.marks a.count c.self.invariant)
