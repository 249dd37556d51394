use Rattle.std.proofs.Common.{◌≡◌, ◌<◌, ◌≤◌, false, ℕ}
use Rattle.parts_ready.specs.Bits.{is_set}
use Rattle.parts_ready.proofs.bitmap.Bitmap.end_below.Given as goal

abbrev pub invariant-loop-end : goal.invariant-loop-end
invariant-loop-end l = (l.end ≤ l.place) × ((k : ℕ) → l.end ≤ k → k < l.place → is_set k l.self.words ≡ false)

abbrev pub decreases-loop-end : goal.decreases-loop-end
decreases-loop-end l = l.end
