use Rattle.std.proofs.Common.{◌≡◌, ◌<◌, ℕ, Some}
use Rattle.parts_wheel.specs.Dues.{due_of}
use Rattle.parts_wheel.proofs.dues.first_of.Given as goal

abbrev pub invariant-loop-at : goal.invariant-loop-at
invariant-loop-at l = (j d : ℕ) → j < l.at → due_of j l.dues ≡ Some d → l.now < d
