use Rattle.std.proofs.Common.{◌≡◌, ◌++◌, ℕ, Some, length, true}
use Rattle.parts_arrivals.specs.Arrivals.{has_come}
use Rattle.kernel_signals.specs.Ages.{before, kept_for}
use Rattle.kernel_signals.specs.Kept.{counted_in, records_of}
use Rattle.kernel_signals.specs.Timed.{AreTimed}
use Rattle.kernel_signals.specs.Walks.{rest_of}
use Rattle.kernel_signals.proofs.ages.drop_for.Given as goal

abbrev pub invariant-loop-at : goal.invariant-loop-at
invariant-loop-at l = record {
  order : l.arrivals ≡ record l.initial.arrivals { order = kept_for l.t l.records (before l.at l.initial.arrivals.order) ++ rest_of l.at l.initial.arrivals.order };
  come : (n : ℕ) → l.at ≡ Some n → has_come n l.initial.arrivals.order ≡ true;
  long : length l.timed ≡ 256;
  timed : AreTimed l.timed (records_of l.records l.arrivals.order);
  counted : l.stay ≡ counted_in (records_of l.records (kept_for l.t l.records (before l.at l.initial.arrivals.order)));
}

abbrev pub decreases-loop-at : goal.decreases-loop-at
decreases-loop-at l = length (rest_of l.at l.initial.arrivals.order)
