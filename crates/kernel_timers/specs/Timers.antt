-- Interval timers by their numbers.
use Rattle.std.specs.Prelude.{List, slice_index_or, ℕ}
use Rattle.rules_machine.specs.Lists.{changed_at}
use Rattle.rules_machine.specs.State.{Timer}
use Rattle.rules_machine.specs.Threads.{no_timer}

-- the timer of a number
abbrev pub timer_in : List Timer → ℕ → Timer
timer_in timers k = slice_index_or timers k no_timer

-- the timer of a number alone changes
abbrev pub with_timer : ℕ → (Timer → Timer) → List Timer → List Timer
with_timer k change timers = changed_at no_timer k change timers
