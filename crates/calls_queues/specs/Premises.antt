-- What the calls that pass messages count on. This project's own.
use Rattle.std.specs.Prelude.{◌≡◌, ◌≤◌, ◌<◌, ◌^◌, ℕ, IfSome, Option, Some, length, true}
use Rattle.rules_bodies.specs.declared.cursor.Cursor.{Cursor}
use Rattle.rules_machine.specs.Queues.{has_room}
use Rattle.rules_machine.specs.State.{Machine, Message, Registration}
use Rattle.rules_machine.specs.Threads.{can_run, is_blocked, queue_at, thread_at}
use Rattle.kernel_state.specs.Callers.{AllRest}
use Rattle.kernel_state.specs.Caught.{HasRoomToPend}
use Rattle.kernel_state.specs.Kernel.{Kernel}
use Rattle.kernel_state.specs.Messages.{waiting_message}
use Rattle.kernel_state.specs.Pending.{PendingFits, SignalsFit}
use Rattle.kernel_wakes.specs.Waits.{WaitsFit}

-- a thread that can run can send and receive: it can wait, others can wake, and a notification can be sent
pub record CanPass (k : Kernel) (t : ℕ) : Type 0 where
  pub known : t < length k.names
  pub runs : can_run k.machine t ≡ true
  pub fits : WaitsFit k.machine
  pub pends : PendingFits k.machine
  pub signals : SignalsFit k.machine
  pub serial : k.machine.next_serial < 2 ^ 62
  pub room : length k.direct < 128
  pub early : k.machine.now ≤ 10 ^ 18

-- where a notification is asked of the queue, its signal is a signal, and there is room for its record
pub record CanNotify (m : Machine Cursor) (q : ℕ) : Type 0 where
  pub signal : (r : Registration) → (queue_at m q).registration ≡ Some r → r.signal < 32
  pub pends : (r : Registration) → (queue_at m q).registration ≡ Some r → HasRoomToPend m
  pub rests : AllRest m
  pub serial : m.next_serial < 2 ^ 63
  pub early : m.now ≤ 10 ^ 18

-- the message can enter the queue, and the notification that it fires can be sent
pub record CanEnter (k : Kernel) (q : ℕ) (message : Message) : Type 0 where
  pub queue : q < length k.machine.queues
  pub priority : message.priority < 32
  pub space : has_room (queue_at k.machine q) ≡ true
  pub notifies : CanNotify k.machine q
  pub room : length k.direct < 255

-- the message of the sender, if there is one, can enter the queue, and the sender can wake
pub record CanTakeOver (k : Kernel) (sender : Option ℕ) (q : ℕ) : Type 0 where
  pub queue : q < length k.machine.queues
  pub known : IfSome sender (λ w. w < length k.names)
  pub blocked : IfSome sender (λ w. is_blocked (thread_at k.machine w).status ≡ true)
  pub priority : IfSome sender (λ w. (waiting_message k.machine w).priority < 32)
  pub space : has_room (queue_at k.machine q) ≡ true
  pub room : length k.direct < 255
