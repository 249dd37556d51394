-- What a thread may begin to wait for.
use Rattle.std.specs.Prelude.{◌≡◌, ◌<◌, ℕ, IsSome, None, Option, Some, false, length}
use Rattle.rules_bodies.specs.declared.cursor.Cursor.{Cursor}
use Rattle.rules_machine.specs.State.{Machine}
use Rattle.rules_machine.specs.Threads.{mutex_at}
use Rattle.rules_machine.specs.Mutexes.{closes_cycle}

-- a mutex is owned, and to wait for it closes no cycle
abbrev pub CanWait : Machine Cursor → ℕ → Option ℕ → Type 0
CanWait m t None = Unit {0}
CanWait m t (Some k) = (k < length m.mutexes) × IsSome (mutex_at m k).owner × (closes_cycle m k t ≡ false)
