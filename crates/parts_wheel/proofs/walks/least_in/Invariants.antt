use Rattle.std.proofs.Common.{◌≡◌, ◌<◌, ℕ, Some, length, true}
use Rattle.parts_links.specs.Links.{list_at, stands_in}
use Rattle.parts_links.specs.Walks.{rest_of}
use Rattle.parts_wheel.proofs.Walking.{IsWalked}
use Rattle.parts_wheel.proofs.walks.least_in.Given as goal

abbrev pub invariant-loop-at : goal.invariant-loop-at
invariant-loop-at l = IsWalked l.dues (list_at l.links.lists l.list) l.at l.next.tick l.next.first
    × ((n : ℕ) → l.at ≡ Some n → (n < l.links.nodes) × (stands_in n (list_at l.links.lists l.list) ≡ true))

abbrev pub decreases-loop-at : goal.decreases-loop-at
decreases-loop-at l = length (rest_of l.at (list_at l.links.lists l.list))
