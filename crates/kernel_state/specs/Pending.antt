-- What records that become pending ask of a machine, and the numbers of what sends them.
use Rattle.std.specs.Prelude.{◌≡◌, ◌<◌, ℕ, All, Some, false, length}
use Rattle.rules_bodies.specs.declared.cursor.Cursor.{Cursor}
use Rattle.rules_machine.specs.Signals.{is_full}
use Rattle.rules_machine.specs.State.{Machine, Message, Registration, SignalRecord, Waiting, for_room}
use Rattle.rules_machine.specs.Threads.{queue_at, timer_at, waiting_of}
use Rattle.rules_machine.specs.Timers.{is_pending_from}
use Rattle.kernel_signals.specs.Kept.{room}

-- there is room for a record of a call, of a timer, or of a queue's notification, wherever one may become pending
pub record PendingFits (m : Machine Cursor) : Type 0 where
  pub calls : is_full m ≡ false → length m.pending < room
  pub timers : (k : ℕ) → k < length m.timers → is_pending_from k m ≡ false → length m.pending < room
  pub queues : (q : ℕ) (r : Registration) → (queue_at m q).registration ≡ Some r → length m.pending < room
  pub youngest : All (λ (r : SignalRecord). r.serial < m.next_serial) m.pending

-- the signals of timers and registrations are signals, and a sender that waits has a message for a queue
pub record SignalsFit (m : Machine Cursor) : Type 0 where
  pub timers : (k : ℕ) → k < length m.timers → (timer_at m k).signal < 32
  pub registrations : (q : ℕ) (r : Registration) → (queue_at m q).registration ≡ Some r → r.signal < 32
  pub senders : (t q : ℕ) (x : Message) (w : Waiting) → waiting_of m t ≡ Some w → w.wait ≡ for_room q x → (q < length m.queues) × (x.priority < 32)
