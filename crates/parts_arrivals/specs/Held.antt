-- When lists of nodes hold the arrivals.
use Rattle.std.specs.Prelude.{◌≡◌, ◌≤◌, ◌<◌, ◌+◌, ◌==◌, ℕ, zero, suc, List, [], ◌∷◌, ◌++◌, length, map, nat_lt, slice_index, Bool}
use Rattle.std.specs.Int.{bit_at}
use Rattle.parts_links.specs.Links.{Lists, StandOnce, list_at}
use Rattle.parts_arrivals.specs.Arrivals.{Arrival, of_rank}

-- the numbers below n, rising
abbrev pub first_nodes : ℕ → List ℕ
first_nodes zero = []
first_nodes (suc n) = first_nodes n ++ n ∷ []

-- the node with its rank
abbrev pub arrival : List ℕ → ℕ → Arrival
arrival ranks n = record { node = n; rank = slice_index ranks n }

-- the nodes of a list with their ranks
abbrev pub order_of : List ℕ → List ℕ → List Arrival
order_of ranks nodes = map (arrival ranks) nodes

-- whether the rank is marked
abbrev pub is_marked : ℕ → ℕ → Bool
is_marked rank marks = bit_at marks rank == 1

-- of `arrived` the first list has the nodes that have come, and the second those that have not; `ranked` has a list for each rank
pub record AreHeld (arrived ranked : Lists) (ranks : List ℕ) (marks count : ℕ) : Type 0 where
  pub ages_once : StandOnce arrived
  pub ranks_once : StandOnce ranked
  pub few : arrived.nodes ≤ 65536
  pub two : length arrived.lists ≡ 2
  pub same_nodes : ranked.nodes ≡ arrived.nodes
  pub each_rank : length ranked.lists ≡ 32
  pub known : length ranks ≡ arrived.nodes
  pub tallied : count ≡ length (list_at arrived.lists 0)
  pub counted : length (list_at arrived.lists 0) + length (list_at arrived.lists 1) ≡ arrived.nodes
  pub small : (n : ℕ) → slice_index ranks n < 32
  pub placed : (rank : ℕ) → rank < 32 → list_at ranked.lists rank ≡ of_rank rank (order_of ranks (list_at arrived.lists 0))
  pub marked : (rank : ℕ) → rank < 32 → is_marked rank marks ≡ nat_lt 0 (length (list_at ranked.lists rank))
