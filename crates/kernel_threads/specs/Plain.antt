-- The plain data of the code as the machine's.
use Rattle.std.specs.Prelude.{Option, ℕ}
use Rattle.kernel_threads.specs.declared.status.Joiner.{Joiner}
use Rattle.kernel_threads.specs.declared.status.Joiner.TheVariants as joiner
use Rattle.kernel_threads.specs.declared.status.Message.{Message}
use Rattle.kernel_threads.specs.declared.status.Phase.{Phase}
use Rattle.kernel_threads.specs.declared.status.Phase.TheVariants as phase
use Rattle.kernel_threads.specs.declared.status.Status.{Status}
use Rattle.kernel_threads.specs.declared.status.Status.TheVariants as status
use Rattle.kernel_threads.specs.declared.status.Wait.{Wait}
use Rattle.kernel_threads.specs.declared.status.Wait.TheVariants as wait
use Rattle.kernel_threads.specs.declared.status.Waiting.{Waiting}
use Rattle.rules_machine.specs.State as machine

abbrev pub message_of : Message → machine.Message
message_of m = record { priority = m.priority; value = m.value }

abbrev pub wait_of : Wait → machine.Wait
wait_of (wait.Mutex k) = machine.for_mutex k
wait_of (wait.MutexAgain k how) = machine.for_mutex_again k how
wait_of (wait.Condition c k) = machine.for_condition c k
wait_of (wait.End u) = machine.for_end u
wait_of (wait.Semaphore k) = machine.for_semaphore k
wait_of wait.Time = machine.for_time
wait_of (wait.Room q m) = machine.for_room q (message_of m)
wait_of (wait.Message q) = machine.for_message q
wait_of (wait.Signal set) = machine.for_signal set

abbrev pub waiting_of : Waiting → machine.Waiting
waiting_of w = record { wait = wait_of w.wait; serial = w.serial; due = w.due; call = w.call }

abbrev pub status_of : Status → machine.Status
status_of (status.Dormant at) = machine.dormant at
status_of status.Runnable = machine.runnable
status_of (status.Blocked w) = machine.blocked (waiting_of w)
status_of status.Ended = machine.ended

-- what a thread does, with the tick at which it starts and with its wait
abbrev pub status_in : Phase → Option ℕ → Waiting → machine.Status
status_in phase.Dormant at w = machine.dormant at
status_in phase.Runnable at w = machine.runnable
status_in phase.Blocked at w = machine.blocked (waiting_of w)
status_in phase.Ended at w = machine.ended

abbrev pub joiner_of : Joiner → machine.Joiner
joiner_of joiner.Nobody = machine.nobody
joiner_of (joiner.WaitsToJoin t) = machine.waits_to_join t
joiner_of joiner.HasJoined = machine.has_joined
