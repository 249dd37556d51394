-- Setting CLOCK_REALTIME brings nobody to run by itself.
use Rattle.std.proofs.Common.{◌≡◌, ℕ, List, [], ◌∷◌, true}
use Rattle.std.specs.Prelude.{nat_lt}
use Rattle.words_numbers.specs.declared.res.Res.TheVariants as res
use Rattle.rules_machine.specs.Clock.{changes_each, clock_at, clock_limit, due_as_set, moves_times, sets_real_clock, status_moved, thread_moved, timer_moved}
use Rattle.rules_machine.specs.Lists.{numbers}
use Rattle.rules_machine.specs.State.{Status, blocked, dormant, ended, runnable}
use Rattle.rules_machine.specs.Threads.{is_runnable, real_time, thread_at, thread_numbers}
use Rattle.rules_machine.specs.Turns.{Caller, Turn, becomes, changes, changes_timer, returns}
use Rattle.calls_items.proofs.Coming.Steps.{Comes, Fewer, changes_fewer, fewer_come, if_come, returns_come, returns_fewer}

moved_runs : (move : ℕ → ℕ) (status : Status) → is_runnable (status_moved move status) ≡ true → is_runnable status ≡ true
moved_runs move (dormant at) h = h
moved_runs move runnable h = h
moved_runs move (blocked w) h = h
moved_runs move ended h = h

threads_fewer : {P : Type 0} (move : ℕ → ℕ) (ts : List ℕ) (s : Turn P) → Fewer s.machine (changes_each (λ t. changes t (thread_moved move)) ts s).machine
threads_fewer move [] s u r = r
threads_fewer move (t ∷ ts) s u r =
    let moved = changes t (thread_moved move) s in
    changes_fewer t (thread_moved move) s (moved_runs move (thread_at s.machine t).status) u (threads_fewer move ts moved u r)

timers_fewer : {P : Type 0} (move : ℕ → ℕ) (ks : List ℕ) (s : Turn P) → Fewer s.machine (changes_each (λ k. changes_timer k (timer_moved move)) ks s).machine
timers_fewer move [] s u r = r
timers_fewer move (k ∷ ks) s u r = timers_fewer move ks (changes_timer k (timer_moved move) s) u r

pub sets_clock_come : {P : Type 0} (b : Caller) (reading : ℕ) (s : Turn P) → Comes s (sets_real_clock b reading s)
sets_clock_come b reading s =
    let move = due_as_set s.machine.now (real_time s.machine) reading in
    let set = becomes (λ m. record m { clock = clock_at reading m.now }) s in
    let threads = changes_each (λ t. changes t (thread_moved move)) (thread_numbers s.machine) set in
    let moved = moves_times move set in
    let done = returns b res.Zero 0 moved in
    if_come (nat_lt clock_limit reading) (returns b res.Inval 0 s) done s (returns_come b res.Inval 0 s)
    (fewer_come s.machine done.machine done.direct
    (λ u r. threads_fewer move (thread_numbers s.machine) set u (timers_fewer move (numbers s.machine.timers) threads u (returns_fewer b res.Zero 0 moved u r))))
