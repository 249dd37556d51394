-- What a plan may leave as it was beside the thread.
use Rattle.std.specs.Prelude.{◌≡◌, ℕ, None, Option, Some, false, true}
use Rattle.rules_bodies.specs.declared.cursor.Cursor.{Cursor}
use Rattle.rules_machine.specs.Priorities.{assigned_of}
use Rattle.rules_machine.specs.State.{Thread}
use Rattle.kernel_threads.specs.declared.ends.Planned.{Planned}
use Rattle.kernel_table.specs.Times.{refill_of}

-- a thread after a plan, where its refill was due and its assigned priority was that
pub record IsPlanned (th : Thread Cursor) (due : Option ℕ) (assigned : ℕ) (p : Planned) : Type 0 where
  pub first : p.has_room ≡ true → p.is_first ≡ true → (due ≡ None) × (refill_of th ≡ Some p.replenish.due)
  pub later : p.has_room ≡ true → p.is_first ≡ false → due ≡ refill_of th
  pub same : p.has_room ≡ true → assigned_of th ≡ assigned
