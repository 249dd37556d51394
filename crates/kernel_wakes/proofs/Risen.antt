-- A thread that gets a mutex and wakes can rise just where it could.
use Rattle.std.proofs.Common.{ℕ, refl, subst, sym}
use Rattle.words_numbers.specs.declared.res.Res.{Res}
use Rattle.rules_bodies.specs.declared.cursor.Cursor.{Cursor}
use Rattle.rules_machine.specs.Mutexes.{taken_by}
use Rattle.rules_machine.specs.State.{Thread}
use Rattle.rules_machine.specs.Threads.{no_thread}
use Rattle.rules_machine.specs.Turns.{changes, changes_mutex, ◌▷◌}
use Rattle.rules_machine.specs.Waking.{woken}
use Rattle.rules_machine.proofs.Reading.{changed-keeps}
use Rattle.kernel_threads.specs.Unused.{IsUnused}
use Rattle.kernel_state.specs.Callers.{CanRise}
use Rattle.kernel_state.specs.Kernel.{Kernel, after}

pub handed_rises : (kernel : Kernel) (k t : ℕ) (res : Res) (value : ℕ) → CanRise kernel t →
    CanRise (after (λ s. s ▷ changes_mutex k (taken_by t) ▷ changes t (woken res value)) kernel) t
handed_rises kernel k t res value can = record {
  known = can.known;
  room = can.room;
  unused = subst IsUnused (sym (changed-keeps no_thread t t (woken res value) (λ (th : Thread Cursor). th.server) (λ th. refl) kernel.machine.threads)) can.unused;
  early = can.early;
}
