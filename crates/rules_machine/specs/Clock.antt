-- Setting CLOCK_REALTIME: clock_settime. The new reading is used to find when each absolute time on the clock comes, and no relative time
-- is moved. A due tick stands for the time that its clock reads then, so it moves as far as the clock is set.
use Rattle.std.specs.Prelude.{Bool, List, None, Option, Some, [], false, nat_lt, true, ℕ, ◌+◌, ◌-◌, ◌^◌, ◌∷◌, if◌then◌else◌}
use Rattle.std.specs.Option.{option_map}
use Rattle.words_numbers.specs.declared.res.Res.TheVariants as res
use Rattle.words_script.specs.declared.call.Call.{Call}
use Rattle.words_script.specs.declared.call.Call.TheVariants as call
use Rattle.words_script.specs.declared.call.Moment.{Moment}
use Rattle.words_script.specs.declared.call.Moment.TheVariants as moment
use Rattle.rules_machine.specs.Lists.{numbers}
use Rattle.rules_machine.specs.State.{Clock, Machine, Status, Thread, Timer, Waiting, blocked, dormant, ended, runnable}
use Rattle.rules_machine.specs.Threads.{real_time, thread_numbers}
use Rattle.rules_machine.specs.Turns.{Caller, Turn, becomes, changes, changes_timer, returns, ◌▷◌}

-- CLOCK_REALTIME that reads this at an instant
abbrev pub clock_at : ℕ → ℕ → Clock
clock_at reading now = record { ahead = reading - now; behind = now - reading }

-- when a time comes that was due at a tick: once the clock, which read `old` and now reads `reading`, reads it; now, where it has
abbrev pub due_as_set : ℕ → ℕ → ℕ → ℕ → ℕ
due_as_set now old reading due = now + (due + old - (now + reading))

abbrev pub is_on_real : Moment → Bool
is_on_real (moment.Monotonic at) = false
is_on_real (moment.Realtime at) = true

-- whether a call waits for a time on CLOCK_REALTIME
abbrev pub waits_on_real : Call → Bool
waits_on_real (call.Timedlock k at) = is_on_real at
waits_on_real (call.Timedwait c k at) = is_on_real at
waits_on_real (call.SemTimedwait k at) = is_on_real at
waits_on_real (call.ClockNanosleep at) = is_on_real at
waits_on_real (call.MqTimedsend q len p v at) = is_on_real at
waits_on_real (call.MqTimedreceive q at) = is_on_real at
waits_on_real other = false

abbrev pub moved_if : Bool → (ℕ → ℕ) → Option ℕ → Option ℕ
moved_if true move due = option_map move due
moved_if false move due = due

abbrev pub status_moved : (ℕ → ℕ) → Status → Status
status_moved move (dormant at) = dormant at
status_moved move runnable = runnable
status_moved move (blocked w) = blocked (record w { due = moved_if (waits_on_real w.call) move w.due })
status_moved move ended = ended

abbrev pub thread_moved : {P : Type 0} → (ℕ → ℕ) → Thread P → Thread P
thread_moved move th = record th { status = status_moved move th.status }

abbrev pub timer_moved : (ℕ → ℕ) → Timer → Timer
timer_moved move k = record k { due = moved_if k.is_reading move k.due }

-- one change for each number
abbrev pub changes_each : {P : Type 0} → (ℕ → Turn P → Turn P) → List ℕ → Turn P → Turn P
changes_each change [] s = s
changes_each change (n ∷ ns) s = changes_each change ns (change n s)

abbrev pub moves_times : {P : Type 0} → (ℕ → ℕ) → Turn P → Turn P
moves_times move s =
    s
    ▷ changes_each (λ t. changes t (thread_moved move)) (thread_numbers s.machine)
    ▷ changes_each (λ k. changes_timer k (timer_moved move)) (numbers s.machine.timers)

-- the greatest reading that the clock can be set to (this project's own)
abbrev pub clock_limit : ℕ
clock_limit = 10 ^ 18

-- clock_settime
abbrev pub sets_real_clock : {P : Type 0} → Caller → ℕ → Turn P → Turn P
sets_real_clock by reading s =
    if nat_lt clock_limit reading then returns by res.Inval 0 s
    else (s ▷ becomes (λ m. record m { clock = clock_at reading m.now }) ▷ moves_times (due_as_set s.machine.now (real_time s.machine) reading) ▷ returns by res.Zero 0)
