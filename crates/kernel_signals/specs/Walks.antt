-- A walk along the nodes of one rank.
use Rattle.std.specs.Prelude.{◌==◌, if◌then◌else◌, List, [], ◌∷◌, None, Option, Some, ℕ}
use Rattle.parts_arrivals.specs.Arrivals.{Arrival}

-- the order from the node on
abbrev pub since : ℕ → List Arrival → List Arrival
since n [] = []
since n (a ∷ order) = if a.node == n then a ∷ order else since n order

-- the order from the node on at which a walk stands; nothing at its end
abbrev pub rest_of : Option ℕ → List Arrival → List Arrival
rest_of None order = []
rest_of (Some n) order = since n order

-- the rank of a node
abbrev pub rank_of : ℕ → List Arrival → ℕ
rank_of n [] = 0
rank_of n (a ∷ order) = if a.node == n then a.rank else rank_of n order
