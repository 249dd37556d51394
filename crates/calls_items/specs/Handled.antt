-- What a due item asks of the machine.
use Rattle.std.specs.Prelude.{◌≡◌, ◌≤◌, ◌<◌, ◌^◌, ℕ, [], false}
use Rattle.rules_bodies.specs.declared.cursor.Cursor.{Cursor}
use Rattle.rules_machine.specs.State.{Machine}
use Rattle.rules_machine.specs.Threads.{thread_at}
use Rattle.rules_machine.specs.Servers.{has_high}
use Rattle.kernel_threads.specs.Unused.{IsUnused}
use Rattle.kernel_state.specs.Kernel.{Kernel}
use Rattle.kernel_state.specs.Pending.{PendingFits, SignalsFit}
use Rattle.kernel_wakes.specs.Waits.{WaitsFit}

-- a timeout ends a wait; what wakes is activated, and so is what a refill gives its high priority back; a timer sends its signal
pub record CanHandle (m : Machine Cursor) : Type 0 where
  pub waits : WaitsFit m
  pub pends : PendingFits m
  pub signals : SignalsFit m
  pub rests_low : (t : ℕ) → has_high (thread_at m t).server ≡ false → IsUnused (thread_at m t).server

-- and of a kernel, in which nobody has moved since the last settling
pub record CanHandleNext (k : Kernel) : Type 0 where
  pub quiet : k.direct ≡ []
  pub fits : CanHandle k.machine
  pub serial : k.machine.next_serial < 2 ^ 62
  pub early : k.machine.now ≤ 10 ^ 18
