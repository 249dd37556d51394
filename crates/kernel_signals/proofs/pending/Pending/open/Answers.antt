use Rattle.kernel_signals.proofs.Keeping.{kept_none}
use Rattle.kernel_signals.proofs.pending.Pending.open.Goals as goal

pub invariant_of-result : goal.invariant_of-result
invariant_of-result c = kept_none c.in_ok-arrivals.arrivals c.in_ok-records.records.items c.none.result c.in_ok-arrivals.ensures c.in_ok-records.ensures c.none.ensures
