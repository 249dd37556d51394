use Rattle.parts_arrivals.proofs.Holding.{highest_held}
use Rattle.parts_arrivals.proofs.arrivals.Arrivals.highest.Goals as goal

pub returns-clause-value : goal.returns-clause-value
returns-clause-value c =
    let a = c.self.inside in
    rw (← c.self.view_is) (highest_held a.arrived a.ranked a.ranks.items a.marks a.count c.self.invariant c.highest_mark.result c.highest_mark.ensures)
