-- Whether a thread waits for nothing but an instant.
use Rattle.std.specs.Prelude.{Bool, None, Option, Some, false, true}
use Rattle.rules_machine.specs.State.{Wait, Waiting, for_condition, for_end, for_message, for_mutex, for_mutex_again, for_room, for_semaphore, for_signal, for_time}

abbrev pub is_for_time : Wait → Bool
is_for_time (for_mutex k) = false
is_for_time (for_mutex_again k how) = false
is_for_time (for_condition c k) = false
is_for_time (for_end u) = false
is_for_time (for_semaphore k) = false
is_for_time for_time = true
is_for_time (for_room q message) = false
is_for_time (for_message q) = false
is_for_time (for_signal signals) = false

abbrev pub waits_for_time : Option Waiting → Bool
waits_for_time None = false
waits_for_time (Some w) = is_for_time w.wait
