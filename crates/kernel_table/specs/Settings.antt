-- CLOCK_REALTIME is set: the due ticks of the times on it move.
use Rattle.std.specs.Prelude.{◌≡◌, ◌≤◌, ◌+◌, ◌*◌, ◌^◌, ℕ, Option, Some, length, suc, zero}
use Rattle.rules_machine.specs.Clock.{due_as_set, thread_moved, timer_moved}
use Rattle.rules_machine.specs.State.{Timer}
use Rattle.rules_machine.specs.Threads.{thread_in}
use Rattle.kernel_threads.specs.RealDues.{real_due_if, real_due_in}
use Rattle.kernel_timers.specs.Timers.{timer_in}
use Rattle.kernel_table.specs.declared.settings.Setting.{Setting}
use Rattle.kernel_table.specs.Table.{Table, with_thread, with_timer}

-- when a time comes that was due at a tick
abbrev pub move_of : Setting → ℕ → ℕ
move_of set due = due_as_set set.at set.before set.reading due

-- no reading of the clock that is waited for is later than 2·10^18
abbrev pub IsModest : Setting → ℕ → Type 0
IsModest set due = due + set.before ≤ set.at + 2 * 10 ^ 18

abbrev pub EachModest : Setting → Option ℕ → Type 0
EachModest set due = (at : ℕ) → due ≡ Some at → IsModest set at

-- when a timer expires next, where that is a time on its clock, which is CLOCK_REALTIME
abbrev pub timer_real_due : Timer → Option ℕ
timer_real_due k = real_due_if k.due k.is_reading

abbrev pub WaitsAreModest : Setting → Table → Type 0
WaitsAreModest set table = (t : ℕ) → EachModest set (real_due_in (thread_in table.threads t).status)

abbrev pub TimersAreModest : Setting → Table → Type 0
TimersAreModest set table = (k : ℕ) → EachModest set (timer_real_due (timer_in table.timers k))

-- the first n threads, and the first n timers
abbrev pub threads_moved : (ℕ → ℕ) → ℕ → Table → Table
threads_moved move zero table = table
threads_moved move (suc n) table = with_thread n (thread_moved move) (threads_moved move n table)

abbrev pub timers_moved : (ℕ → ℕ) → ℕ → Table → Table
timers_moved move zero table = table
timers_moved move (suc n) table = with_timer n (timer_moved move) (timers_moved move n table)

-- all of them
abbrev pub times_moved : (ℕ → ℕ) → Table → Table
times_moved move table = timers_moved move (length table.timers) (threads_moved move (length table.threads) table)
