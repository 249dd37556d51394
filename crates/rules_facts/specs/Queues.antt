-- What is told of message queues: their messages in the order of receiving, who waits, and whom a message tells. That it is told so
-- is this project's own.
use Rattle.std.specs.Prelude.{Bool, List, [], nat_lt, ℕ, ◌∷◌}
use Rattle.rules_machine.specs.Queues.{waits_to_receive, waits_to_send}
use Rattle.rules_machine.specs.State.{Machine, Message}
use Rattle.rules_machine.specs.Threads.{queue_at}
use Rattle.rules_facts.specs.Fact.{Fact, messages_of, receivers_of, registration_of, senders_of}
use Rattle.rules_facts.specs.Objects.{in_service_order}
use Rattle.rules_facts.specs.Order.{in_order}

-- mq_receive: the highest priority first, and of equals the oldest
abbrev pub is_received_before : Message → Message → Bool
is_received_before a b = nat_lt b.priority a.priority

abbrev pub messages_fact : {P : Type 0} → Machine P → ℕ → Fact
messages_fact m q = messages_of q (in_order is_received_before (queue_at m q).messages)

abbrev pub senders_and_receivers : {P : Type 0} → Machine P → ℕ → List Fact
senders_and_receivers m q = senders_of q (in_service_order m (waits_to_send q)) ∷ receivers_of q (in_service_order m (waits_to_receive q)) ∷ []

abbrev pub registration_fact : {P : Type 0} → Machine P → ℕ → Fact
registration_fact m q = registration_of q (queue_at m q).registration
