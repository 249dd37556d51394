-- What the kernel counts on in each state of the run of a script.
use Rattle.std.specs.Prelude.{◌≡◌, ℕ, false, length}
use Rattle.words_script.specs.declared.decl.Script.{Script}
use Rattle.rules_bodies.specs.declared.cursor.Cursor.{Cursor}
use Rattle.rules_machine.specs.Servers.{has_high}
use Rattle.rules_machine.specs.State.{Machine}
use Rattle.rules_machine.specs.Threads.{thread_at}
use Rattle.rules_flat_code.specs.FlatBodies.{code_of}
use Rattle.rules_flat_code.specs.KnownCalls.{objects_of}
use Rattle.kernel_threads.specs.Unused.{IsUnused}
use Rattle.kernel_state.specs.Pending.{PendingFits, SignalsFit}
use Rattle.kernel_wakes.specs.Waits.{WaitsFit}
use Rattle.kernel_wakes.specs.Joins.{JoinsFit}
use Rattle.laws_kernel.specs.Counts.{HasSerials, counts_in, counts_of}
use Rattle.laws_kernel.specs.Visitable.{CanBeSwept}

pub record FitsKernel (script : Script) (m : Machine Cursor) : Type 0 where
  pub waits : WaitsFit m
  pub joins : JoinsFit m
  pub pends : PendingFits m
  pub signals : SignalsFit m
  -- a thread that does not run at its high priority has consumed nothing that is not planned
  pub rests_low : (t : ℕ) → has_high (thread_at m t).server ≡ false → IsUnused (thread_at m t).server
  pub sweeps : CanBeSwept (code_of script) m
  pub serial : HasSerials m
  -- the threads and objects are those of the script
  pub threads : length m.threads ≡ (objects_of script).threads
  pub counts : counts_of m ≡ counts_in (objects_of script)
