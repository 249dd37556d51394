-- Sleeping, the clock, and interval timers: XSH 2.8.5, nanosleep, clock_nanosleep, clock_gettime, timer_settime, timer_gettime,
-- timer_getoverrun. Both clocks count ticks.
use Rattle.std.specs.Prelude.{Bool, None, Option, Some, min, suc, zero, ℕ, ◌+◌, ◌-◌, if◌then◌else◌, false}
use Rattle.std.specs.List.{list_any}
use Rattle.words_numbers.specs.declared.res.Res.TheVariants as res
use Rattle.words_numbers.specs.declared.sig_code.SigCode.TheVariants as code
use Rattle.rules_machine.specs.Lists.{is}
use Rattle.rules_machine.specs.State.{Machine, SignalRecord, Timer, for_time}
use Rattle.rules_machine.specs.Threads.{real_time, timer_at}
use Rattle.rules_machine.specs.Turns.{Caller, Turn, changes_timer, has_passed, returns, ◌▷◌}
use Rattle.rules_machine.specs.Waking.{blocks_unordered}
use Rattle.rules_machine.specs.Signals.{generates}

-- nanosleep and clock_nanosleep
abbrev pub sleeps_until : {P : Type 0} → Caller → ℕ → Turn P → Turn P
sleeps_until by at s = if has_passed at s.machine then returns by res.Zero 0 s else blocks_unordered by for_time (Some at) s

-- clock_gettime of CLOCK_MONOTONIC
abbrev pub reads_clock : {P : Type 0} → Caller → Turn P → Turn P
reads_clock by s = returns by res.Zero s.machine.now s

-- and of CLOCK_REALTIME
abbrev pub reads_real_clock : {P : Type 0} → Caller → Turn P → Turn P
reads_real_clock by s = returns by res.Zero (real_time s.machine) s

-- ---- arming

-- timer_settime: an it_value of zero disarms
abbrev pub first_expiry : ℕ → ℕ → Option ℕ
first_expiry zero at = None
first_expiry (suc value) at = Some at

-- the overruns and a pending record stay (this project's own)
abbrev pub armed : Option ℕ → Bool → ℕ → Timer → Timer
armed due reading interval k = record k { due = due; is_reading = reading; interval = interval }

-- when an absolute time of a timer comes, as the clocks stand: at the first instant at which the timer's clock reads it
abbrev pub timer_moment : {P : Type 0} → Machine P → ℕ → ℕ → ℕ
timer_moment m k at = if (timer_at m k).is_real then m.now + (at - real_time m) else at

-- timer_settime; the flag says whether the first expiry is a time on the timer's clock, if that can be set
abbrev pub sets_timer : {P : Type 0} → Caller → ℕ → Option ℕ → Bool → ℕ → Turn P → Turn P
sets_timer by k due reading interval s = s ▷ changes_timer k (armed due reading interval) ▷ returns by res.Zero 0

abbrev pub ticks_to : Option ℕ → ℕ → ℕ
ticks_to None now = 0
ticks_to (Some due) now = due - now

-- timer_gettime
abbrev pub reads_timer : {P : Type 0} → Caller → ℕ → Turn P → Turn P
reads_timer by k s = returns by res.Zero (ticks_to (timer_at s.machine k).due s.machine.now) s

-- timer_getoverrun
abbrev pub reads_overrun : {P : Type 0} → Caller → ℕ → Turn P → Turn P
reads_overrun by k s = returns by res.Zero (timer_at s.machine k).overrun s

-- ---- expiry

-- DELAYTIMER_MAX
abbrev pub overrun_limit : ℕ
overrun_limit = 2_147_483_647

abbrev pub overrun_once_more : Timer → Timer
overrun_once_more k = record k { extra = min (k.extra + 1) overrun_limit }

-- SI_TIMER
abbrev pub record_of_timer : ℕ → Timer → SignalRecord
record_of_timer k timer = record { signal = timer.signal; code = code.Timer; value = timer.value; target = None; timer = Some k; queue = None; serial = 0 }

abbrev pub is_pending_from : {P : Type 0} → ℕ → Machine P → Bool
is_pending_from k m = list_any (λ (r : SignalRecord). is r.timer k) m.pending

-- it is due again after its interval, which no setting of a clock moves, or disarmed where it has none
abbrev pub next_expiry : ℕ → ℕ → Option ℕ
next_expiry now zero = None
next_expiry now (suc n) = Some (now + suc n)

abbrev pub armed_again : ℕ → Timer → Timer
armed_again now k = record k { due = next_expiry now k.interval; is_reading = false }

-- timer_getoverrun: only one signal of a timer is queued, and an expiry while it is pending is an overrun
abbrev pub signals_expiry : {P : Type 0} → ℕ → Turn P → Turn P
signals_expiry k s = if is_pending_from k s.machine then changes_timer k overrun_once_more s else generates (record_of_timer k (timer_at s.machine k)) s

abbrev pub expires : {P : Type 0} → ℕ → Turn P → Turn P
expires k s = s ▷ signals_expiry k ▷ changes_timer k (armed_again s.machine.now)
