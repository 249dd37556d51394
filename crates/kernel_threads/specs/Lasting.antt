-- As many ticks at once as a thread runs by itself. All of it is this project's own.
use Rattle.std.specs.Prelude.{Bool, ℕ, max, min, ◌==◌, ◌&&◌, ◌||◌}
use Rattle.rules_bodies.specs.declared.cursor.Cursor.{Cursor}
use Rattle.rules_machine.specs.State.{Thread}
use Rattle.rules_machine.specs.Ticks.{capacity_in, slice_is_used}
use Rattle.rules_leaps.specs.Leap.{thread_lasts}

-- how many these are, of a thread that has taken its unit: at most so many, but one at least
abbrev pub lasts_by : ℕ → ℕ → Thread Cursor → ℕ
lasts_by most quantum th = max 1 (min most (thread_lasts most quantum th))

-- whether the interval of a thread, or its capacity where it had its high priority, is used up
abbrev pub used_up : Bool → ℕ → Thread Cursor → Bool
used_up was_high quantum th = slice_is_used th.policy th.slice quantum || (was_high && capacity_in th.server == 0)
