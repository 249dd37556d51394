-- What stays where the joiner of a thread changes.
use Rattle.std.proofs.Common.{◌≡◌, ℕ, true, refl}
use Rattle.rules_bodies.specs.declared.cursor.Cursor.{Cursor}
use Rattle.rules_machine.specs.Lives.{with_joiner}
use Rattle.rules_machine.specs.State.{Joiner}
use Rattle.rules_machine.specs.Threads.{can_run, thread_at}
use Rattle.rules_machine.specs.Turns.{Turn, changes}
use Rattle.kernel_threads.specs.Unused.{IsUnused}
use Rattle.calls_sync.proofs.Kept.{kept_runs, kept_unused}

module _ (t : ℕ) (j : Joiner) (s : Turn Cursor) where
  pub joined_runs : (u : ℕ) → can_run s.machine u ≡ true → can_run (changes t (with_joiner j) s).machine u ≡ true
  joined_runs u e = kept_runs t (with_joiner j) s (λ th. refl) u e

  pub joined_unused : (u : ℕ) → IsUnused (thread_at s.machine u).server → IsUnused (thread_at (changes t (with_joiner j) s).machine u).server
  joined_unused u h = kept_unused t (with_joiner j) s (λ th. refl) (λ th. refl) u h
