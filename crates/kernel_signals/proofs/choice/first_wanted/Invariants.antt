use Rattle.std.proofs.Common.{◌≡◌, ℕ, Some, length, true}
use Rattle.parts_arrivals.specs.Arrivals.{has_come}
use Rattle.kernel_signals.specs.Choice.{first_wanted}
use Rattle.kernel_signals.specs.Walks.{rank_of, rest_of}
use Rattle.kernel_signals.proofs.choice.first_wanted.Given as goal

abbrev pub invariant-loop-at : goal.invariant-loop-at
invariant-loop-at l = (first_wanted l.wanted l.signal l.records (rest_of l.at l.arrivals.order) ≡ first_wanted l.wanted l.signal l.records l.arrivals.order)
    × ((n : ℕ) → l.at ≡ Some n → (has_come n l.arrivals.order ≡ true) × (rank_of n l.arrivals.order ≡ l.signal))

abbrev pub decreases-loop-at : goal.decreases-loop-at
decreases-loop-at l = length (rest_of l.at l.arrivals.order)
