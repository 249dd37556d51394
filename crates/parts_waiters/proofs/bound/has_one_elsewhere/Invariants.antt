use Rattle.std.proofs.Common.{◌≡◌, ◌<◌, ℕ, Some, length, true}
use Rattle.parts_links.specs.Links.{list_at, stands_in}
use Rattle.parts_links.specs.Walks.{rest_of}
use Rattle.parts_waiters.specs.Bound.{has_one, others}
use Rattle.parts_waiters.proofs.bound.has_one_elsewhere.Given as goal

abbrev pub invariant-loop-at : goal.invariant-loop-at
invariant-loop-at l = (has_one (others l.k l.places) (rest_of l.at (list_at l.links.lists l.list)) ≡ has_one (others l.k l.places) (list_at l.links.lists l.list))
    × ((n : ℕ) → l.at ≡ Some n → (n < l.links.nodes) × (stands_in n (list_at l.links.lists l.list) ≡ true))

abbrev pub decreases-loop-at : goal.decreases-loop-at
decreases-loop-at l = length (rest_of l.at (list_at l.links.lists l.list))
