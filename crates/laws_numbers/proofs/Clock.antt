-- Setting CLOCK_REALTIME keeps the numbers small.
use Rattle.std.proofs.Common.{Bool, List, None, Option, Some, [], add-one, ap, arith, false, length, refl, suc, sym, true, zero, ℕ, ◌*◌, ◌+◌, ◌-◌, ◌^◌, ◌<◌, ◌≤◌, ◌∷◌, ◌≡◌}
use Rattle.std.specs.Prelude.{if◌then◌else◌, map, nat_lt, slice_index_or}
use Rattle.std.specs.List.{range_with_len}
use Rattle.std.proofs.lemmas.List.{length-map}
use mathlib.Core.Path.{subst, ◌∙◌}
use Rattle.words_numbers.specs.declared.res.Res.TheVariants as res
use Rattle.rules_machine.specs.Clock.{changes_each, clock_at, clock_limit, due_as_set, moved_if, moves_times, sets_real_clock, status_moved, thread_moved, timer_moved, waits_on_real}
use Rattle.rules_machine.specs.GoodState.{ClockFits}
use Rattle.rules_machine.specs.Lists.{changed_at, numbers}
use Rattle.rules_machine.specs.State.{Clock, Status, Thread, Timer, blocked, dormant, ended, runnable}
use Rattle.rules_machine.specs.Threads.{no_thread, no_timer, real_time, thread_numbers}
use Rattle.rules_machine.specs.Turns.{Caller, Turn, becomes, changes, changes_timer, returns}
use Rattle.laws_numbers.specs.Numbers.{DueSmall, IsSmall, ReadingSmall, StatusSmall, ThreadSmall, TimerSmall, TurnSmall}
use Rattle.laws_numbers.proofs.Lists.{mapped}
use Rattle.laws_numbers.proofs.Turns.{no_thread_small, no_timer_small, not_on_real, now_low, returns_small}
use Rattle.laws_numbers.proofs.Waking.{zero_small}

-- ---- one change for each member changes them all

changed_each : {X : Type 0} → X → (X → X) → List ℕ → List X → List X
changed_each none f [] xs = xs
changed_each none f (n ∷ ns) xs = changed_each none f ns (changed_at none n f xs)

behind_first : {X : Type 0} (none : X) (f : X → X) (a n : ℕ) (x : X) (xs : List X) → changed_each none f (range_with_len (a + 1) n) (x ∷ xs) ≡ x ∷ changed_each none f (range_with_len a n) xs
unfolding changed_each
behind_first none f a zero x xs = refl
behind_first none f a (suc n) x xs =
    ap (λ k. changed_each none f (range_with_len (a + 1 + 1) n) (changed_at none k f (x ∷ xs))) (add-one a)
    ∙ behind_first none f (a + 1) n x (changed_at none a f xs)

all_changed : {X : Type 0} (none : X) (f : X → X) (xs : List X) → changed_each none f (numbers xs) xs ≡ map f xs
unfolding changed_each
all_changed none f [] = refl
all_changed none f (x ∷ xs) = behind_first none f 0 (length xs) (f x) xs ∙ ap (λ ys. f x ∷ ys) (all_changed none f xs)

module _ {P : Type 0} where
  threads_each : (f : Thread P → Thread P) (ts : List ℕ) (s : Turn P) → changes_each (λ t. changes t f) ts s ≡ becomes (λ m. record m { threads = changed_each no_thread f ts m.threads }) s
  unfolding changed_each
  threads_each f [] s = refl
  threads_each f (t ∷ ts) s = threads_each f ts (changes t f s)

  timers_each : (f : Timer → Timer) (ks : List ℕ) (s : Turn P) → changes_each (λ k. changes_timer k f) ks s ≡ becomes (λ m. record m { timers = changed_each no_timer f ks m.timers }) s
  unfolding changed_each
  timers_each f [] s = refl
  timers_each f (k ∷ ks) s = timers_each f ks (changes_timer k f s)

  -- each thread and each timer is moved once
  all_moved : (move : ℕ → ℕ) (s : Turn P) → moves_times move s ≡ becomes (λ m. record m { threads = map (thread_moved move) m.threads; timers = map (timer_moved move) m.timers }) s
  all_moved move s =
      let timers = changes_each (λ k. changes_timer k (timer_moved move)) (numbers s.machine.timers) in
      let with_threads : List (Thread P) → Turn P = λ ths. becomes (λ m. record m { threads = ths }) s in
      let moved = with_threads (map (thread_moved move) s.machine.threads) in
      ap timers (threads_each (thread_moved move) (thread_numbers s.machine) s ∙ ap with_threads (all_changed no_thread (thread_moved move) s.machine.threads))
      ∙ timers_each (timer_moved move) (numbers s.machine.timers) moved
      ∙ ap (λ ks. becomes (λ m. record m { timers = ks }) moved) (all_changed no_timer (timer_moved move) s.machine.timers)

-- ---- what is moved stays small

module _ (now reading : ℕ) (clock : Clock) (low : now ≤ 10 ^ 18) (limited : reading ≤ 10 ^ 18) (ahead : clock.ahead ≤ 10 ^ 18) (behind : clock.behind ≤ now) where
  abbrev move : ℕ → ℕ
  move n = due_as_set now (now + clock.ahead - clock.behind) reading n

  abbrev set : Clock
  set = clock_at reading now

  set_small : ClockFits now set
  set_small = record { ahead = omega (arith, limited); behind = omega arith }

  tick_small : (n : ℕ) → n + clock.ahead ≤ 2 * 10 ^ 18 + clock.behind → IsSmall (move n)
  tick_small n h = omega (arith, h, low, limited, ahead, behind)

  read_small : (n : ℕ) → n + clock.ahead ≤ 2 * 10 ^ 18 + clock.behind → move n + (reading - now) ≤ 2 * 10 ^ 18 + (now - reading)
  read_small n h = omega (arith, h, low, limited, ahead, behind)

  due_moved : (is_real : Bool) (due : Option ℕ) → DueSmall due → ReadingSmall clock due is_real → DueSmall (moved_if is_real move due)
  due_moved true None d r = tt
  due_moved true (Some n) d r = tick_small n r
  due_moved false due d r = d

  reading_moved : (is_real : Bool) (due : Option ℕ) → ReadingSmall clock due is_real → ReadingSmall set (moved_if is_real move due) is_real
  reading_moved true None r = tt
  reading_moved true (Some n) r = read_small n r
  reading_moved false due r = not_on_real set due false refl

  status_small : (status : Status) → StatusSmall clock status → StatusSmall set (status_moved move status)
  status_small (dormant at) h = h
  status_small runnable h = tt
  status_small (blocked w) h = record {
    wait = h.wait;
    time = record {
      due = due_moved (waits_on_real w.call) w.due h.time.due h.time.reading;
      reading = reading_moved (waits_on_real w.call) w.due h.time.reading;
    };
  }
  status_small ended h = tt

  thread_small : {P : Type 0} (count : ℕ) (th : Thread P) → ThreadSmall count clock th → ThreadSmall count set (thread_moved move th)
  thread_small count th h = record {
    status = status_small th.status h.status;
    policy = h.policy;
    server = h.server;
    frames = h.frames;
    exit_value = h.exit_value;
    joiner = h.joiner;
  }

  timer_small : (k : Timer) → TimerSmall clock k → TimerSmall set (timer_moved move k)
  timer_small k h = record {
    signal = h.signal;
    value = h.value;
    due = due_moved k.is_reading k.due h.due h.reading;
    reading = reading_moved k.is_reading k.due h.reading;
    interval = h.interval;
    extra = h.extra;
    overrun = h.overrun;
  }

-- ---- clock_settime

module _ {P : Type 0} (count top : ℕ) (low : top ≤ 10 ^ 18) where
  abbrev Small : Turn P → Type 0
  Small s = TurnSmall count top s

  set_turn_small : (reading : ℕ) (s : Turn P) → reading ≤ 10 ^ 18 → Small s →
      Small (moves_times (due_as_set s.machine.now (real_time s.machine) reading) (becomes (λ m. record m { clock = clock_at reading m.now }) s))
  set_turn_small reading s limited h =
      let m = s.machine in
      let early = now_low count top low s h in
      let by : ℕ → ℕ = due_as_set m.now (real_time m) reading in
      subst Small (sym (all_moved by (becomes (λ m. record m { clock = clock_at reading m.now }) s))) (record {
        early = h.early;
        of_clock = set_small m.now reading m.clock early limited h.of_clock.ahead h.of_clock.behind;
        of_quantum = h.of_quantum;
        counted = length-map m.threads (thread_moved by) ∙ h.counted;
        of_threads =
            mapped (ThreadSmall count (clock_at reading m.now)) no_thread (thread_moved by) m.threads (no_thread_small count (clock_at reading m.now))
            (λ t. thread_small m.now reading m.clock early limited h.of_clock.ahead h.of_clock.behind count (slice_index_or m.threads t no_thread) (h.of_threads t));
        of_mutexes = h.of_mutexes;
        of_semaphores = h.of_semaphores;
        of_queues = h.of_queues;
        of_timers =
            mapped (TimerSmall (clock_at reading m.now)) no_timer (timer_moved by) m.timers (no_timer_small (clock_at reading m.now))
            (λ k. timer_small m.now reading m.clock early limited h.of_clock.ahead h.of_clock.behind (slice_index_or m.timers k no_timer) (h.of_timers k));
        of_records = h.of_records;
        of_events = h.of_events;
      })

  pub sets_real_clock_small : (by : Caller) (reading : ℕ) (s : Turn P) → by.thread < count → Small s → Small (sets_real_clock by reading s)
  sets_real_clock_small by reading s lt h = by_test (nat_lt clock_limit reading) refl
    where
      moved : Turn P
      moved = moves_times (due_as_set s.machine.now (real_time s.machine) reading) (becomes (λ m. record m { clock = clock_at reading m.now }) s)

      within_limit : nat_lt clock_limit reading ≡ false → reading ≤ 10 ^ 18
      within_limit e = grind arith

      by_test : (b : Bool) → nat_lt clock_limit reading ≡ b → Small (if b then returns by res.Inval 0 s else returns by res.Zero 0 moved)
      by_test true e = returns_small count top low by res.Inval 0 s lt zero_small h
      by_test false e = returns_small count top low by res.Zero 0 moved lt zero_small (set_turn_small reading s (within_limit e) h)
