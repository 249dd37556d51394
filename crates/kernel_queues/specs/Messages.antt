-- How the messages of a queue are kept: each at a node, with its priority as the node's rank.
use Rattle.std.specs.Prelude.{List, map, slice_index, ℕ}
use Rattle.rules_machine.specs.State.{Message}
use Rattle.parts_arrivals.specs.Arrivals.{Arrival}

-- the message at a node
abbrev pub message_at : List ℕ → Arrival → Message
message_at values a = record { priority = a.rank; value = slice_index values a.node }

-- the messages in the order of arrival
abbrev pub messages_of : List ℕ → List Arrival → List Message
messages_of values order = map (message_at values) order
