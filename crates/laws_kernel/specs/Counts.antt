-- How many objects a machine has, beside its threads.
use Rattle.std.specs.Prelude.{ℕ, length, ◌≤◌, ◌<◌, ◌^◌}
use Rattle.rules_bodies.specs.declared.cursor.Cursor.{Cursor}
use Rattle.rules_machine.specs.State.{Machine}
use Rattle.rules_flat_code.specs.KnownCalls.{Objects}

pub record Counts : Type 0 where
  pub mutexes : ℕ
  pub semaphores : ℕ
  pub queues : ℕ
  pub timers : ℕ

abbrev pub counts_of : {P : Type 0} → Machine P → Counts
counts_of m = record { mutexes = length m.mutexes; semaphores = length m.semaphores; queues = length m.queues; timers = length m.timers }

abbrev pub counts_in : Objects → Counts
counts_in o = record { mutexes = o.mutexes; semaphores = o.semaphores; queues = o.queues; timers = o.timers }

-- serials are left until 10^18 ticks
abbrev pub HasSerials : Machine Cursor → Type 0
HasSerials m = m.now ≤ 10 ^ 18 → m.next_serial < 2 ^ 62
