use Rattle.std.proofs.Common.{◌≡◌, ℕ, ◌*◌, ◌<◌, ◌≤◌, false}
use Rattle.parts_bits.specs.Sets.{has}
use Rattle.parts_bits.proofs.wide.first_in.Given as goal

abbrev pub invariant-loop-index : goal.invariant-loop-index
invariant-loop-index l = (t : ℕ) → l.from ≤ t → t < 64 * l.index → has t l.words ≡ false
