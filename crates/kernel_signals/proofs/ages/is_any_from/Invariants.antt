use Rattle.std.specs.List.{list_any}
use Rattle.std.proofs.Common.{◌≡◌, ℕ, Some, length, true}
use Rattle.parts_arrivals.specs.Arrivals.{has_come}
use Rattle.kernel_signals.specs.Ages.{is_from}
use Rattle.kernel_signals.specs.Kept.{records_of}
use Rattle.kernel_signals.specs.Walks.{rest_of}
use Rattle.kernel_signals.proofs.ages.is_any_from.Given as goal

abbrev pub invariant-loop-at : goal.invariant-loop-at
invariant-loop-at l = (list_any (is_from l.q) (records_of l.records (rest_of l.at l.arrivals.order)) ≡ list_any (is_from l.q) (records_of l.records l.arrivals.order))
    × ((n : ℕ) → l.at ≡ Some n → has_come n l.arrivals.order ≡ true)

abbrev pub decreases-loop-at : goal.decreases-loop-at
decreases-loop-at l = length (rest_of l.at l.arrivals.order)
