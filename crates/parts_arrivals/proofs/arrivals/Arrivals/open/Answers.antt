use Rattle.parts_arrivals.proofs.Holding.{opened}
use Rattle.parts_arrivals.proofs.arrivals.Arrivals.open.Goals as goal

pub invariant_of-result : goal.invariant_of-result
invariant_of-result c =
    opened c.in_ok-arrived.arrived c.in_ok-ranked.ranked c.in_ok-ranks.ranks.items c.args.nodes c.requires c.in_ok-arrived.ensures c.in_ok-ranked.ensures.0 c.in_ok-ranked.ensures.1
    c.in_ok-ranks.ensures c.stand_once.ensures c.stand_once-2.ensures
