-- When times on CLOCK_REALTIME may be due, and what setting it does.
use Rattle.std.specs.Prelude.{◌≡◌, ◌≤◌, ◌+◌, ◌*◌, ◌^◌, ℕ, IfSome, List, Option, Some}
use Rattle.words_script.specs.declared.call.Call.{Call}
use Rattle.rules_bodies.specs.declared.cursor.Cursor.{Cursor}
use Rattle.rules_machine.specs.Clock.{clock_at, due_as_set, moves_times, waits_on_real}
use Rattle.rules_machine.specs.State.{Clock, Machine, Thread, Timer}
use Rattle.rules_machine.specs.Threads.{real_time, thread_in}
use Rattle.rules_machine.specs.Turns.{Turn, becomes, ◌▷◌}
use Rattle.kernel_threads.specs.RealDues.{real_due_if, real_due_in}
use Rattle.kernel_timers.specs.Timers.{timer_in}
use Rattle.kernel_table.specs.Settings.{timer_real_due}

-- the clock, left as it is, reads at most 2·10^18 at that tick
abbrev pub IsModest : Clock → ℕ → Type 0
IsModest clock due = due + clock.ahead ≤ clock.behind + 2 * 10 ^ 18

-- so does a wait of a call with that limit, or a timer, where its due tick stands for a time on the clock
abbrev pub ComesModestly : Clock → Option ℕ → Type 0
ComesModestly clock due = IfSome due (λ (at : ℕ). IsModest clock at)

abbrev pub MayWaitUntil : Machine Cursor → Call → Option ℕ → Type 0
MayWaitUntil m call due = ComesModestly m.clock (real_due_if due (waits_on_real call))

abbrev pub EachModest : Clock → Option ℕ → Type 0
EachModest clock due = (at : ℕ) → due ≡ Some at → IsModest clock at

-- the clock is not set back before the start, and all that waits for it comes so
pub record AreModest (now : ℕ) (clock : Clock) (threads : List (Thread Cursor)) (timers : List Timer) : Type 0 where
  pub past : clock.behind ≤ now
  pub ahead : clock.ahead ≤ 10 ^ 18
  pub waits : (t : ℕ) → EachModest clock (real_due_in (thread_in threads t).status)
  pub expiries : (k : ℕ) → EachModest clock (timer_real_due (timer_in timers k))

-- the clock reads that now, and what waits for it comes when it then reads it
abbrev pub sets_clock : ℕ → Turn Cursor → Turn Cursor
sets_clock reading s =
    s
    ▷ becomes (λ m. record m { clock = clock_at reading m.now })
    ▷ moves_times (due_as_set s.machine.now (real_time s.machine) reading)
