-- What the calls of mutexes and conditions count on. This project's own.
use Rattle.std.specs.Prelude.{◌≡◌, ◌≤◌, ◌<◌, ◌^◌, ℕ, Some, length}
use Rattle.rules_machine.specs.Threads.{mutex_at}
use Rattle.kernel_state.specs.Kernel.{Kernel}
use Rattle.kernel_wakes.specs.Waits.{MutexWaitersRest, WaitsFit}

-- a thread can leave its condition, to own its mutex again or to wait for it
pub record CanContend (k : Kernel) : Type 0 where
  pub fits : WaitsFit k.machine
  pub room : length k.direct < 512
  pub serial : k.machine.next_serial < 2 ^ 63
  pub early : k.machine.now ≤ 10 ^ 18

-- each of the threads that wait on a condition can
pub record CanBroadcast (k : Kernel) : Type 0 where
  pub fits : WaitsFit k.machine
  pub room : length k.direct < 128
  pub serial : k.machine.next_serial < 2 ^ 62
  pub early : k.machine.now ≤ 10 ^ 18

-- a thread owns the mutex, and can hand it over
pub record CanRelease (k : Kernel) (t number : ℕ) : Type 0 where
  pub mutex : number < length k.machine.mutexes
  pub owned : (mutex_at k.machine number).owner ≡ Some t
  pub room : length k.direct < 512
  pub rests : MutexWaitersRest k.machine number
  pub early : k.machine.now ≤ 10 ^ 18
