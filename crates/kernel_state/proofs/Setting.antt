-- CLOCK_REALTIME is set: what the table moves is what the machine moves.
use Rattle.std.proofs.Common.{◌≡◌, ◌∙◌, ◌≤◌, ◌+◌, ◌-◌, ◌*◌, ◌^◌, ℕ, zero, suc, List, None, Option, Some, ap, arith, length, refl, subst, sym}
use Rattle.std.specs.List.{range_with_len}
use Rattle.std.specs.Option.{option_map}
use Rattle.rules_bodies.specs.declared.cursor.Cursor.{Cursor}
use Rattle.rules_machine.specs.Clock.{changes_each, clock_at, due_as_set, moves_times, thread_moved, timer_moved}
use Rattle.rules_machine.specs.State.{Clock, Mutex}
use Rattle.rules_machine.specs.Threads.{is_runnable, real_time, thread_in}
use Rattle.rules_machine.specs.Turns.{Turn, changes, changes_timer}
use Rattle.kernel_threads.specs.RealDues.{real_due_in}
use Rattle.kernel_timers.specs.Timers.{timer_in}
use Rattle.kernel_table.specs.Movers.{KeepsExec}
use Rattle.kernel_table.specs.Settings.{threads_moved, timer_real_due, timers_moved, times_moved}
use Rattle.kernel_table.specs.Table.{Table, thread_at}
use Rattle.kernel_table.proofs.SetTimes.{all_long, all_mutexes, all_run, expiries_then, waits_then}
use Rattle.kernel_state.specs.Kernel.{Kernel, after, turn}
use Rattle.kernel_state.specs.RealTimes.{AreModest, EachModest, IsModest, sets_clock}
use Rattle.kernel_state.specs.Standing.{OthersStand}
use Rattle.kernel_state.proofs.Carried.{none_named}

-- ---- one after another, and the last at last

last_each : {P : Type 0} (change : ℕ → Turn P → Turn P) (a n : ℕ) (s : Turn P) →
    changes_each change (range_with_len a (suc n)) s ≡ change (a + n) (changes_each change (range_with_len a n) s)
last_each change a zero s = let same : a ≡ a + 0 = omega arith in ap (λ (i : ℕ). change i s) same
last_each change a (suc n) s =
    let same : a + 1 + n ≡ a + suc n = omega arith in
    last_each change (a + 1) n (change a s) ∙ ap (λ (i : ℕ). change i (changes_each change (range_with_len (a + 1) n) (change a s))) same

-- ---- a machine with the threads and timers of a table

abbrev put : Table → Turn Cursor → Turn Cursor
put table s = record s { machine = record s.machine { threads = table.threads; timers = table.timers } }

each_thread : (move : ℕ → ℕ) (n : ℕ) (table : Table) (s : Turn Cursor) →
    changes_each (λ t. changes t (thread_moved move)) (range_with_len 0 n) (put table s) ≡ put (threads_moved move n table) s
each_thread move zero table s = refl
each_thread move (suc n) table s =
    last_each (λ t. changes t (thread_moved move)) 0 n (put table s) ∙ ap (changes (0 + n) (thread_moved move)) (each_thread move n table s)
    ∙ ap (λ (i : ℕ). changes i (thread_moved move) (put (threads_moved move n table) s)) (omega arith)

each_timer : (move : ℕ → ℕ) (n : ℕ) (table : Table) (s : Turn Cursor) →
    changes_each (λ k. changes_timer k (timer_moved move)) (range_with_len 0 n) (put table s) ≡ put (timers_moved move n table) s
each_timer move zero table s = refl
each_timer move (suc n) table s =
    last_each (λ k. changes_timer k (timer_moved move)) 0 n (put table s) ∙ ap (changes_timer (0 + n) (timer_moved move)) (each_timer move n table s)
    ∙ ap (λ (i : ℕ). changes_timer i (timer_moved move) (put (timers_moved move n table) s)) (omega arith)

times_put : (move : ℕ → ℕ) (table : Table) (s : Turn Cursor) → moves_times move (put table s) ≡ put (times_moved move table) s
times_put move table s =
    ap (changes_each (λ k. changes_timer k (timer_moved move)) (range_with_len 0 (length table.timers))) (each_thread move (length table.threads) table s)
    ∙ each_timer move (length table.timers) (threads_moved move (length table.threads) table) s

-- a kernel with the threads, mutexes and timers of a table
abbrev pub with_table : Kernel → Table → Kernel
with_table k table = record k { machine = record k.machine { threads = table.threads; mutexes = table.mutexes; timers = table.timers } }

abbrev pub with_clock : Kernel → Clock → Kernel
with_clock k clock = record k { machine = record k.machine { clock = clock } }

pub kernel_set : (k : Kernel) (old new : Table) (reading : ℕ) → new ≡ times_moved (due_as_set k.machine.now (real_time k.machine) reading) old →
    with_clock (with_table k new) (clock_at reading k.machine.now) ≡ after (sets_clock reading) (with_table k old)
kernel_set k old new reading is =
    let move : ℕ → ℕ = due_as_set k.machine.now (real_time k.machine) reading in
    let all : Table = times_moved move old in
    let start : Turn Cursor = turn (with_clock (with_table k old) (clock_at reading k.machine.now)) in
    ap (λ (x : Table). with_clock (with_table k x) (clock_at reading k.machine.now)) is
    ∙ ap (λ (ms : List Mutex). with_clock (with_table k (record all { mutexes = ms })) (clock_at reading k.machine.now)) (all_mutexes move old)
    ∙ sym (ap (λ (s : Turn Cursor). record k { machine = s.machine; direct = s.direct }) (times_put move old start))

-- ---- what waits for a time on the clock is due modestly then

bounded : (now reading due : ℕ) (clock : Clock) → now ≤ 10 ^ 18 → reading ≤ 10 ^ 18 → clock.behind ≤ now → clock.ahead ≤ 10 ^ 18 → IsModest clock due →
    IsModest (clock_at reading now) (due_as_set now (now + clock.ahead - clock.behind) reading due)
bounded now reading due clock early small past ahead modest = omega arith

each_bounded : (now reading : ℕ) (clock : Clock) (due : Option ℕ) → now ≤ 10 ^ 18 → reading ≤ 10 ^ 18 → clock.behind ≤ now → clock.ahead ≤ 10 ^ 18 → EachModest clock due →
    EachModest (clock_at reading now) (option_map (due_as_set now (now + clock.ahead - clock.behind) reading) due)
each_bounded now reading clock None early small past ahead modest = λ at e. absurd cc
each_bounded now reading clock (Some due) early small past ahead modest = λ at e.
    let same : due_as_set now (now + clock.ahead - clock.behind) reading due ≡ at = cc in
    subst (IsModest (clock_at reading now)) same (bounded now reading due clock early small past ahead (modest due refl))

pub set_modest : (now reading : ℕ) (clock : Clock) (old new : Table) → now ≤ 10 ^ 18 → reading ≤ 10 ^ 18 → new ≡ times_moved (due_as_set now (now + clock.ahead - clock.behind) reading) old →
    AreModest now clock old.threads old.timers → AreModest now (clock_at reading now) new.threads new.timers
set_modest now reading clock old new early small is h =
    let move : ℕ → ℕ = due_as_set now (now + clock.ahead - clock.behind) reading in
    subst (λ (x : Table). AreModest now (clock_at reading now) x.threads x.timers) (sym is) (record {
      past = omega arith;
      ahead = omega (arith, small);
      waits = λ t. subst (EachModest (clock_at reading now)) (sym (waits_then move old t))
          (each_bounded now reading clock (real_due_in (thread_in old.threads t).status) early small h.past h.ahead (h.waits t));
      expiries = λ k. subst (EachModest (clock_at reading now)) (sym (expiries_then move old k))
          (each_bounded now reading clock (timer_real_due (timer_in old.timers k)) early small h.past h.ahead (h.expiries k));
    })

-- and before
pub modest_now : (now : ℕ) (clock : Clock) (due : Option ℕ) → clock.behind ≤ now → EachModest clock due →
    (at : ℕ) → due ≡ Some at → at + (now + clock.ahead - clock.behind) ≤ now + 2 * 10 ^ 18
modest_now now clock due past modest at e = let here = modest at e in omega (arith, here, past)

-- ---- no thread comes to stand elsewhere

pub stand_set : (move : ℕ → ℕ) (old new : Table) (lists : List (List ℕ)) (bits : List ℕ) → new ≡ times_moved move old → KeepsExec old new → OthersStand bits old lists → OthersStand bits new lists
stand_set move old new lists bits is same are =
    let long : length new.threads ≡ length old.threads = ap (λ (x : Table). length x.threads) is ∙ all_long move old in
    none_named old new lists bits are long (λ t runs. ap (λ (x : Table). is_runnable (thread_at x t).status) is ∙ all_run move old t ∙ runs) same

pub many_set : (move : ℕ → ℕ) (old new : Table) → new ≡ times_moved move old → length new.threads ≡ length old.threads
many_set move old new is = ap (λ (x : Table). length x.threads) is ∙ all_long move old
