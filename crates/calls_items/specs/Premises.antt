-- What expiries and interruptions count on. This project's own.
use Rattle.std.specs.Prelude.{◌≤◌, ◌<◌, ◌^◌, ℕ, length}
use Rattle.rules_machine.specs.Threads.{thread_at}
use Rattle.kernel_state.specs.Callers.{AllRest, RestsBlocked}
use Rattle.kernel_state.specs.Kernel.{Kernel}
use Rattle.kernel_state.specs.Pending.{PendingFits, SignalsFit}

-- a thread can be interrupted
pub record CanInterrupt (k : Kernel) (t : ℕ) : Type 0 where
  pub known : t < length k.names
  pub room : length k.direct < 512
  pub rests : RestsBlocked (thread_at k.machine t)
  pub early : k.machine.now ≤ 10 ^ 18

-- a timer can expire: whoever accepts its signal can wake, and there is room for its record
pub record CanExpire (k : Kernel) : Type 0 where
  pub room : length k.direct < 512
  pub rests : AllRest k.machine
  pub pends : PendingFits k.machine
  pub signals : SignalsFit k.machine
  pub serial : k.machine.next_serial < 2 ^ 63
  pub early : k.machine.now ≤ 10 ^ 18
