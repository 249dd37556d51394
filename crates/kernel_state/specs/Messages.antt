-- The message of a thread that waits to send one.
use Rattle.std.specs.Prelude.{ℕ}
use Rattle.std.specs.Option.{option_map_or}
use Rattle.rules_machine.specs.Queues.{message_of}
use Rattle.rules_machine.specs.State.{Machine, Message, Waiting, for_time}
use Rattle.rules_machine.specs.Threads.{waiting_of}

-- the message that a thread waits to send; one of priority 0 and value 0 where it waits for no room
abbrev pub waiting_message : {P : Type 0} → Machine P → ℕ → Message
waiting_message m t = option_map_or (λ (w : Waiting). message_of w.wait) (waiting_of m t) (message_of for_time)
