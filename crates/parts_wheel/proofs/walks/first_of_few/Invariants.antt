use Rattle.std.proofs.Common.{◌≡◌, ◌<◌, ℕ, Some, true}
use Rattle.parts_links.specs.Links.{list_at, stands_in}
use Rattle.parts_wheel.proofs.Walking.{IsLeastPassed}
use Rattle.parts_wheel.proofs.walks.first_of_few.Given as goal

abbrev pub invariant-loop-at : goal.invariant-loop-at
invariant-loop-at l = IsLeastPassed (list_at l.links.lists l.list) l.at l.least
    × ((n : ℕ) → l.at ≡ Some n → (n < l.links.nodes) × (stands_in n (list_at l.links.lists l.list) ≡ true))

abbrev pub decreases-loop-at : goal.decreases-loop-at
decreases-loop-at l = l.left
