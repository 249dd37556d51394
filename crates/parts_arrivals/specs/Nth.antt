-- A node with its rank, as a call tells them.
use Rattle.std.specs.Prelude.{ℕ}
use Rattle.parts_arrivals.specs.Arrivals.{Arrival}

abbrev pub arrival_of : ℕ × ℕ → Arrival
arrival_of a = record { node = a.0; rank = a.1 }
