-- Nodes in the order in which they came, each of a rank.
use Rattle.std.specs.Prelude.{◌≡◌, ◌==◌, ◌<◌, ◌≤◌, ℕ, Bool, false, true, if◌then◌else◌, Option, None, Some, List, [], ◌∷◌, length, max}
use Rattle.std.specs.List.{AllByRecursion}

-- a node that has come, and its rank
pub record Arrival : Type 0 where
  pub node : ℕ
  pub rank : ℕ

-- how many nodes there are, and those that have come, the oldest first
pub record Arrivals : Type 0 where
  pub nodes : ℕ
  pub order : List Arrival

-- whether the node has come
abbrev pub has_come : ℕ → List Arrival → Bool
has_come n [] = false
has_come n (a ∷ order) = if a.node == n then true else has_come n order

-- without the node
abbrev pub without_node : ℕ → List Arrival → List Arrival
without_node n [] = []
without_node n (a ∷ order) = if a.node == n then order else a ∷ without_node n order

-- the nodes of a rank, the oldest first
abbrev pub of_rank : ℕ → List Arrival → List ℕ
of_rank rank [] = []
of_rank rank (a ∷ order) = if a.rank == rank then a.node ∷ of_rank rank order else of_rank rank order

-- the oldest of a rank
abbrev pub first_of_rank : ℕ → List Arrival → Option ℕ
first_of_rank rank [] = None
first_of_rank rank (a ∷ order) = if a.rank == rank then Some a.node else first_of_rank rank order

-- the one of the same rank that came next after the node
abbrev pub next_of_rank : ℕ → List Arrival → Option ℕ
next_of_rank n [] = None
next_of_rank n (a ∷ order) = if a.node == n then first_of_rank a.rank order else next_of_rank n order

-- the oldest of all
abbrev pub oldest : List Arrival → Option ℕ
oldest [] = None
oldest (a ∷ order) = Some a.node

-- the one that came next after the node
abbrev pub next_in_order : ℕ → List Arrival → Option ℕ
next_in_order n [] = None
next_in_order n (a ∷ order) = if a.node == n then oldest order else next_in_order n order

abbrev pub higher : ℕ → Option ℕ → ℕ
higher rank None = rank
higher rank (Some other) = max rank other

-- the highest rank that a node has
abbrev pub highest_rank : List Arrival → Option ℕ
highest_rank [] = None
highest_rank (a ∷ order) = Some (higher a.rank (highest_rank order))

-- no node but this comes twice
abbrev pub AreDistinct : List Arrival → Type 0
AreDistinct [] = Unit {0}
AreDistinct (a ∷ order) = (has_come a.node order ≡ false) × AreDistinct order

-- a node that there is, and a rank
pub record IsArrival (nodes : ℕ) (a : Arrival) : Type 0 where
  pub node : a.node < nodes
  pub rank : a.rank < 32

-- each node has come once, and there are no more than there are nodes
pub record AreArrivals (a : Arrivals) : Type 0 where
  pub each : AllByRecursion (IsArrival a.nodes) a.order
  pub distinct : AreDistinct a.order
  pub few : length a.order ≤ a.nodes
