-- Message queues by their numbers, and what taking the next message leaves.
use Rattle.std.specs.Prelude.{List, None, Option, Some, option_map, slice_index_or, ℕ}
use Rattle.rules_machine.specs.Lists.{changed_at}
use Rattle.rules_machine.specs.Queues.{next_message, value_at, without_message}
use Rattle.rules_machine.specs.State.{Queue}
use Rattle.rules_machine.specs.Threads.{no_queue}

-- the queue of a number
abbrev pub queue_in : List Queue → ℕ → Queue
queue_in queues q = slice_index_or queues q no_queue

-- the queue of a number alone changes
abbrev pub with_queue : ℕ → (Queue → Queue) → List Queue → List Queue
with_queue q change queues = changed_at no_queue q change queues

-- the value of the next message
abbrev pub next_value : Queue → Option ℕ
next_value queue = option_map (value_at queue.messages) (next_message queue.messages)

abbrev pub without_one : Option ℕ → Queue → Queue
without_one None queue = queue
without_one (Some n) queue = without_message n queue

-- without the next message, if there is one
abbrev pub without_next : Queue → Queue
without_next queue = without_one (next_message queue.messages) queue
