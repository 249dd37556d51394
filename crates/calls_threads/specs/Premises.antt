-- What cancellation and the ends of threads count on. This project's own.
use Rattle.std.specs.Prelude.{◌≡◌, ◌≤◌, ◌<◌, ◌^◌, length}
use Rattle.kernel_state.specs.Kernel.{Kernel}
use Rattle.kernel_wakes.specs.Waits.{BlockedRest, WaitsFit}
use Rattle.kernel_wakes.specs.Joins.{JoinsFit}

-- a request can act in a thread, whatever that waits for
pub record CanCancel (k : Kernel) : Type 0 where
  pub threads : length k.machine.threads ≡ length k.names
  pub fits : WaitsFit k.machine
  pub joins : JoinsFit k.machine
  pub room : length k.direct < 512
  pub serial : k.machine.next_serial < 2 ^ 63
  pub early : k.machine.now ≤ 10 ^ 18

-- a thread can end, and who waits to join it wakes
pub record CanFinish (k : Kernel) : Type 0 where
  pub threads : length k.machine.threads ≡ length k.names
  pub rests : BlockedRest k.machine
  pub joins : JoinsFit k.machine
  pub room : length k.direct < 512
  pub early : k.machine.now ≤ 10 ^ 18
