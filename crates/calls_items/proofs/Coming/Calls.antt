-- A thread that a call brought to run has a direct move.
use Rattle.std.proofs.Common.{ℕ, ◌∷◌, false, refl}
use Rattle.std.specs.Prelude.{None, Some, ◌+◌, ◌==◌, ◌&&◌, length, not, pred}
use Rattle.words_numbers.specs.declared.res.Res.TheVariants as res
use Rattle.words_script.specs.declared.call.Call.{Call}
use Rattle.words_script.specs.declared.call.Call.TheVariants as call
use Rattle.rules_machine.specs.Bodies.{Bodies}
use Rattle.rules_machine.specs.Threads.{can_run, is_dormant, lives, moment_of, number_of, real_time, semaphore_at, thread_at, timer_at}
use Rattle.rules_machine.specs.Turns.{Caller, Turn, changes, changes_semaphore, changes_timer, has_passed, moves, returns}
use Rattle.rules_machine.specs.Servers.{activates_if}
use Rattle.rules_machine.specs.Waking.{cancelled_value, ending_with}
use Rattle.rules_machine.specs.Cancellation.{is_cancellation_point, is_cancelled, request_acts}
use Rattle.rules_machine.specs.Lives.{inherited_mask}
use Rattle.rules_machine.specs.Scheduling.{takes_priority, with_policy}
use Rattle.rules_machine.specs.Mutexes.{lock_answer, owns_boosting, trylock_answer}
use Rattle.rules_machine.specs.Conditions.{signals_best, signals_best_times, waits_on_condition}
use Rattle.rules_machine.specs.Semaphores.{waits_on_semaphore}
use Rattle.rules_machine.specs.Waiters.{best_waiter, waiters}
use Rattle.rules_machine.specs.Calls.{call_effect, makes_call}
use Rattle.rules_machine.specs.Timers.{armed, first_expiry, ticks_to, timer_moment}
use Rattle.rules_machine.specs.Signals.{record_of_kill, record_of_sigqueue, with_signals, without_signals}
use Rattle.calls_items.proofs.Coming.Clock.{sets_clock_come}
use Rattle.calls_items.proofs.Coming.Signals.{sends_signal_come, sets_mask_come, waits_signal_come}
use Rattle.calls_items.proofs.Coming.Queues.{asks_notification_come, receives_message_come, sends_message_come}
use Rattle.calls_items.proofs.Coming.Steps.{fewer_come, changes_fewer, returns_fewer, Comes, if_come, returns_come, creates_come, setprio_come, setsched_come, sleeps_come, returned_come, changed_come}
use Rattle.calls_items.proofs.Coming.Waits.{locks_on_come, unlocks_come, waits_come, signals_best_come, signals_best_of_come, waits_semaphore_come, posts_come}
use Rattle.calls_items.proofs.Coming.Lives.{joins_come, cancels_come, pops_come}

-- ---- the table of calls

pub calls_come : {P : Type 0} (bodies : Bodies P) (b : Caller) (c : Call) (s : Turn P) → Comes s (call_effect bodies b c s)
calls_come bodies b call.Yield s = fewer_come s.machine (returns b res.Zero 0 (moves b.thread s)).machine (moves b.thread s).direct (returns_fewer b res.Zero 0 s)
calls_come bodies b (call.Create u) s =
    if_come (is_dormant (thread_at s.machine u).status) _ _ s (creates_come bodies b u (inherited_mask (thread_at s.machine b.thread)) s) (returns_come b res.Again 0 s)
calls_come bodies b (call.Join u) s = joins_come b u s
calls_come bodies b (call.Cancel u) s = cancels_come b u s
calls_come bodies b call.Testcancel s = returns_come b res.Zero 0 s
calls_come bodies b (call.Setcancel on) s = changed_come b b.thread (λ th. record th { is_enabled = on }) res.Zero 0 s (λ th. refl)
calls_come bodies b (call.Push u) s = changed_come b b.thread (λ th. record th { cleanups = u ∷ th.cleanups }) res.Zero 0 s (λ th. refl)
calls_come bodies b (call.Pop runs) s = pops_come bodies b runs s
calls_come bodies b (call.Exit v) s =
    let value = number_of s.machine b.thread v in
    fewer_come s.machine (changes b.thread (ending_with value) s).machine s.direct (changes_fewer b.thread (ending_with value) s (λ h. h))
calls_come bodies b (call.Setprio u p) s =
    if_come (lives s.machine u) _ _ s (if_come (takes_priority (thread_at s.machine u).policy p) _ _ s (setprio_come b u p s) (returns_come b res.Inval 0 s)) (returns_come b res.Srch 0 s)
calls_come bodies b (call.Setsched u policy) s =
    let r = returns b res.Zero 0 s in
    let c = changes u (with_policy policy s.machine.now) r in
    let x = activates_if (can_run s.machine u) u c in
    if_come (lives s.machine u) _ _ s (setsched_come b u policy s.machine.now (can_run s.machine u) (not (owns_boosting x.machine u)) s) (returns_come b res.Srch 0 s)
calls_come bodies b (call.Lock k) s = locks_on_come (lock_answer s.machine b.thread k None) b k None s
calls_come bodies b (call.Timedlock k at) s =
    let due = Some (moment_of s.machine b.thread at) in locks_on_come (lock_answer s.machine b.thread k due) b k due s
calls_come bodies b (call.Trylock k) s = locks_on_come (trylock_answer s.machine b.thread k) b k None s
calls_come bodies b (call.Unlock k) s = unlocks_come b k s
calls_come bodies b (call.Wait c k) s = waits_come b c k None s
calls_come bodies b (call.Timedwait c k at) s = waits_come b c k (Some (moment_of s.machine b.thread at)) s
calls_come bodies b (call.Signal c) s = returned_come b res.Zero 0 (signals_best c) s (signals_best_come c (returns b res.Zero 0 s))
calls_come bodies b (call.Broadcast c) s =
    returned_come b res.Zero 0 (signals_best_times (length (waiters s.machine (waits_on_condition c))) c) s (signals_best_of_come (length (waiters s.machine (waits_on_condition c))) c (returns b res.Zero 0 s))
calls_come bodies b (call.SemWait k) s = waits_semaphore_come b k None s
calls_come bodies b (call.SemTimedwait k at) s = waits_semaphore_come b k (Some (moment_of s.machine b.thread at)) s
calls_come bodies b (call.SemTrywait k) s = if_come (semaphore_at s.machine k == 0) _ _ s (returns_come b res.Again 0 s) (returns_come b res.Zero 0 (changes_semaphore k pred s))
calls_come bodies b (call.SemGetvalue k) s = returns_come b res.Zero (semaphore_at s.machine k) s
calls_come bodies b (call.SemPost k) s = posts_come (best_waiter s.machine (waits_on_semaphore k)) b k s
calls_come bodies b (call.ClockNanosleep at) s = if_come (has_passed _ s.machine) _ _ s (returns_come b res.Zero 0 s) (sleeps_come b _ s)
calls_come bodies b (call.Nanosleep k) s = if_come (has_passed _ s.machine) _ _ s (returns_come b res.Zero 0 s) (sleeps_come b _ s)
calls_come bodies b call.Gettime s = returns_come b res.Zero s.machine.now s
calls_come bodies b call.RealGettime s = returns_come b res.Zero (real_time s.machine) s
calls_come bodies b (call.ClockSettime at) s = sets_clock_come b (number_of s.machine b.thread at) s
calls_come bodies b (call.TimerSettimeRel k n interval) s = returns_come b res.Zero 0 (changes_timer k (armed (first_expiry n (s.machine.now + n)) false interval) s)
calls_come bodies b (call.TimerSettimeAbs k at interval) s =
    let v = number_of s.machine b.thread at in returns_come b res.Zero 0 (changes_timer k (armed (first_expiry v (timer_moment s.machine k v)) (timer_at s.machine k).is_real interval) s)
calls_come bodies b (call.TimerGettime k) s = returns_come b res.Zero (ticks_to (timer_at s.machine k).due s.machine.now) s
calls_come bodies b (call.TimerGetoverrun k) s = returns_come b res.Zero (timer_at s.machine k).overrun s
calls_come bodies b (call.Kill signal) s = sends_signal_come b (record_of_kill signal None) s
calls_come bodies b (call.Tkill u signal) s = if_come (lives s.machine u) _ _ s (sends_signal_come b (record_of_kill signal (Some u)) s) (returns_come b res.Srch 0 s)
calls_come bodies b (call.Sigqueue signal v) s = sends_signal_come b (record_of_sigqueue signal (number_of s.machine b.thread v)) s
calls_come bodies b (call.SigmaskBlock set) s = sets_mask_come b (with_signals set) s
calls_come bodies b (call.SigmaskUnblock set) s = sets_mask_come b (without_signals set) s
calls_come bodies b (call.SigmaskSet set) s = sets_mask_come b (λ (mask : ℕ). set) s
calls_come bodies b (call.Sigwaitinfo set) s = waits_signal_come None b set s
calls_come bodies b (call.Sigtimedwait set n) s = waits_signal_come (Some n) b set s
calls_come bodies b (call.MqSend q len p v) s = sends_message_come b q len (record { priority = p; value = number_of s.machine b.thread v }) None s
calls_come bodies b (call.MqTimedsend q len p v at) s =
    sends_message_come b q len (record { priority = p; value = number_of s.machine b.thread v }) (Some (moment_of s.machine b.thread at)) s
calls_come bodies b (call.MqReceive q) s = receives_message_come b q None s
calls_come bodies b (call.MqTimedreceive q at) s = receives_message_come b q (Some (moment_of s.machine b.thread at)) s
calls_come bodies b (call.MqNotify q signal v) s = asks_notification_come b q (record { signal = signal; value = number_of s.machine b.thread v }) s

-- a request in place of a call wakes nobody
pub made_come : {P : Type 0} (bodies : Bodies P) (b : Caller) (s : Turn P) → Comes s (makes_call bodies b s)
made_come bodies b s =
    if_come (is_cancellation_point b.call && request_acts (thread_at s.machine b.thread)) _ _ s
    (fewer_come s.machine (is_cancelled b.thread s).machine s.direct (changes_fewer b.thread (ending_with cancelled_value) s (λ h. h)))
    (calls_come bodies b b.call s)
