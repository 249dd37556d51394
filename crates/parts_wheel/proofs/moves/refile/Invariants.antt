use Rattle.std.proofs.Common.{◌≡◌, ◌≢◌, ◌<◌, ℕ, false, length, slice_get, Some}
use Rattle.parts_links.specs.Links.{list_at}
use Rattle.parts_wheel.specs.Bits.{is_set}
use Rattle.parts_wheel.specs.Moves.{IsSized, AreRefiling}
use Rattle.parts_wheel.proofs.Stands.{IsMarked}
use Rattle.parts_wheel.proofs.moves.refile.Given as goal

abbrev pub invariant-loop-first : goal.invariant-loop-first
invariant-loop-first l = IsSized l.links l.occupied × (length l.passed ≡ 16)
    × (is_set l.target l.occupied ≡ false) × ((k : ℕ) → k ≢ l.target → IsMarked k l.links.lists l.occupied)
    × AreRefiling l.target l.to l.dues l.fn.links.lists l.links.lists l.fn.passed l.passed
    × (l.first ≡ slice_get (list_at l.links.lists l.target) 0)
    × ((n : ℕ) → l.first ≡ Some n → n < 1024)

abbrev pub decreases-loop-first : goal.decreases-loop-first
decreases-loop-first l = length (list_at l.links.lists l.target)
