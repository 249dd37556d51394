-- What signals ask of a kernel.
use Rattle.std.specs.Prelude.{◌≡◌, ◌≤◌, ◌<◌, ℕ, All, length, true}
use Rattle.rules_bodies.specs.declared.cursor.Cursor.{Cursor}
use Rattle.rules_machine.specs.declared.signal.SigAction.{SigAction}
use Rattle.rules_machine.specs.declared.signal.SigAction.TheVariants as action
use Rattle.rules_machine.specs.Delivery.{may_be_interrupted}
use Rattle.rules_machine.specs.State.{Machine, SignalRecord, Thread}
use Rattle.rules_machine.specs.Threads.{action_of, thread_at}
use Rattle.kernel_signals.specs.Kept.{room}
use Rattle.kernel_state.specs.Callers.{RestsBlocked}
use Rattle.kernel_state.specs.Kernel.{Kernel}

-- an action names one of so many handlers
abbrev pub CatchesBy : ℕ → SigAction → Type 0
CatchesBy handlers action.Kill = Unit {0}
CatchesBy handlers action.Ignore = Unit {0}
CatchesBy handlers (action.Handler h) = h < handlers

-- the action of each signal names a handler that there is
pub record AreCaught (k : Kernel) : Type 0 where
  pub each : (signal : ℕ) → CatchesBy (length k.code.handlers) (action_of k.machine signal)

-- there is room for one more record, which will be the youngest
pub record HasRoomToPend (m : Machine Cursor) : Type 0 where
  pub few : length m.pending < room
  pub youngest : All (λ (r : SignalRecord). r.serial < m.next_serial) m.pending

-- a thread can take a signal: there is room for the frame of its handler
pub record CanVisit (th : Thread Cursor) : Type 0 where
  pub frames : may_be_interrupted th ≡ true → length th.frames ≤ 2
  pub rests : RestsBlocked th

-- each thread can, and each signal's handler is there
pub record CanSweep (k : Kernel) : Type 0 where
  pub caught : AreCaught k
  pub each : (t : ℕ) → CanVisit (thread_at k.machine t)
