-- The priorities of messages are the ranks of their nodes.
use Rattle.std.specs.List.{AllByRecursion}
use Rattle.std.proofs.Common.{◌<◌, List, [], ◌∷◌, ℕ}
use Rattle.rules_machine.specs.State.{Message}
use Rattle.parts_arrivals.specs.Arrivals.{Arrival, IsArrival}
use Rattle.kernel_queues.specs.Messages.{messages_of}

pub priorities_small : (nodes : ℕ) (values : List ℕ) (order : List Arrival) → AllByRecursion (IsArrival nodes) order
    → AllByRecursion (λ (m : Message). m.priority < 32) (messages_of values order)
priorities_small nodes values [] each = tt
priorities_small nodes values (a ∷ order) each = (each.0.rank, priorities_small nodes values order each.1)
