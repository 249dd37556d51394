-- Walks along all records, by age.
use Rattle.std.specs.Prelude.{◌==◌, if◌then◌else◌, Bool, List, [], ◌∷◌, None, Option, Some, filter, not, ℕ}
use Rattle.rules_machine.specs.Lists.{is}
use Rattle.rules_machine.specs.State.{SignalRecord}
use Rattle.parts_arrivals.specs.Arrivals.{Arrival}
use Rattle.kernel_signals.specs.Kept.{record_of}

-- whether a record is from a queue's notification
abbrev pub is_from : ℕ → SignalRecord → Bool
is_from q r = is r.queue q

abbrev pub stays : ℕ → List SignalRecord → Arrival → Bool
stays t records a = not (is (record_of records a).target t)

-- those that are not for the thread
abbrev pub kept_for : ℕ → List SignalRecord → List Arrival → List Arrival
kept_for t records order = filter (stays t records) order

abbrev pub before_node : ℕ → List Arrival → List Arrival
before_node n [] = []
before_node n (a ∷ order) = if a.node == n then [] else a ∷ before_node n order

-- the order before the node at which a walk stands; all of it at its end
abbrev pub before : Option ℕ → List Arrival → List Arrival
before None order = order
before (Some n) order = before_node n order
