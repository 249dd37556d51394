-- The table of calls: the effect of each, before the moves.
use Rattle.std.specs.Prelude.{None, Some, ℕ, ◌+◌, ◌&&◌, if◌then◌else◌, false}
use Rattle.words_numbers.specs.declared.res.Res.TheVariants as res
use Rattle.words_script.specs.declared.call.Call.{Call}
use Rattle.words_script.specs.declared.call.Call.TheVariants as call
use Rattle.rules_bodies.specs.declared.unit.Unit.{Unit}
use Rattle.rules_bodies.specs.declared.unit.Unit.TheVariants as unit
use Rattle.rules_machine.specs.Bodies.{Bodies}
use Rattle.rules_machine.specs.Threads.{moment_of, number_of, thread_at, timer_at}
use Rattle.rules_machine.specs.Turns.{Caller, Turn, returns}
use Rattle.rules_machine.specs.Mutexes.{locks, tries_lock, unlocks}
use Rattle.rules_machine.specs.Conditions.{broadcasts, signals, waits}
use Rattle.rules_machine.specs.Semaphores.{posts, reads_semaphore, tries_semaphore, waits_semaphore}
use Rattle.rules_machine.specs.Signals.{record_of_kill, record_of_sigqueue, sends_signal, sets_mask, waits_signal, with_signals, without_signals}
use Rattle.rules_machine.specs.Clock.{sets_real_clock}
use Rattle.rules_machine.specs.Timers.{first_expiry, reads_clock, reads_overrun, reads_real_clock, reads_timer, sets_timer, sleeps_until, timer_moment}
use Rattle.rules_machine.specs.Queues.{asks_notification, receives_message, sends_message}
use Rattle.rules_machine.specs.Lives.{creates, exits, finishes, joins}
use Rattle.rules_machine.specs.Cancellation.{cancels, is_cancellation_point, is_cancelled, on_live, pops_cleanup, pushes_cleanup, request_acts, sets_cancelability}
use Rattle.rules_machine.specs.Scheduling.{sets_policy, sets_priority, yields}

module _ {P : Type 0} (bodies : Bodies P) where
  abbrev pub call_effect : Caller → Call → Turn P → Turn P
  call_effect by call.Yield s = yields by s
  call_effect by (call.Create u) s = creates bodies by u s
  call_effect by (call.Join u) s = joins by u s
  call_effect by (call.Cancel u) s = cancels by u s
  call_effect by call.Testcancel s = returns by res.Zero 0 s
  call_effect by (call.Setcancel on) s = sets_cancelability by on s
  call_effect by (call.Push u) s = pushes_cleanup by u s
  call_effect by (call.Pop runs) s = pops_cleanup bodies by runs s
  call_effect by (call.Exit v) s = exits by (number_of s.machine by.thread v) s
  call_effect by (call.Setprio u p) s = sets_priority by u p s
  call_effect by (call.Setsched u policy) s = sets_policy by u policy s
  call_effect by (call.Lock k) s = locks by k None s
  call_effect by (call.Timedlock k at) s = locks by k (Some (moment_of s.machine by.thread at)) s
  call_effect by (call.Trylock k) s = tries_lock by k s
  call_effect by (call.Unlock k) s = unlocks by k s
  call_effect by (call.Wait c k) s = waits by c k None s
  call_effect by (call.Timedwait c k at) s = waits by c k (Some (moment_of s.machine by.thread at)) s
  call_effect by (call.Signal c) s = signals by c s
  call_effect by (call.Broadcast c) s = broadcasts by c s
  call_effect by (call.SemWait k) s = waits_semaphore by k None s
  call_effect by (call.SemTimedwait k at) s = waits_semaphore by k (Some (moment_of s.machine by.thread at)) s
  call_effect by (call.SemTrywait k) s = tries_semaphore by k s
  call_effect by (call.SemGetvalue k) s = reads_semaphore by k s
  call_effect by (call.SemPost k) s = posts by k s
  call_effect by (call.Nanosleep n) s = sleeps_until by (s.machine.now + n) s
  call_effect by (call.ClockNanosleep at) s = sleeps_until by (moment_of s.machine by.thread at) s
  call_effect by call.Gettime s = reads_clock by s
  call_effect by call.RealGettime s = reads_real_clock by s
  call_effect by (call.ClockSettime at) s = sets_real_clock by (number_of s.machine by.thread at) s
  call_effect by (call.TimerSettimeRel k n interval) s = sets_timer by k (first_expiry n (s.machine.now + n)) false interval s
  call_effect by (call.TimerSettimeAbs k at interval) s =
      sets_timer by k (first_expiry (number_of s.machine by.thread at) (timer_moment s.machine k (number_of s.machine by.thread at))) (timer_at s.machine k).is_real interval s
  call_effect by (call.TimerGettime k) s = reads_timer by k s
  call_effect by (call.TimerGetoverrun k) s = reads_overrun by k s
  call_effect by (call.Kill signal) s = sends_signal by (record_of_kill signal None) s
  call_effect by (call.Tkill u signal) s = on_live by u (sends_signal by (record_of_kill signal (Some u))) s
  call_effect by (call.Sigqueue signal v) s = sends_signal by (record_of_sigqueue signal (number_of s.machine by.thread v)) s
  call_effect by (call.SigmaskBlock set) s = sets_mask by (with_signals set) s
  call_effect by (call.SigmaskUnblock set) s = sets_mask by (without_signals set) s
  call_effect by (call.SigmaskSet set) s = sets_mask by (λ (mask : ℕ). set) s
  call_effect by (call.Sigwaitinfo set) s = waits_signal None by set s
  call_effect by (call.Sigtimedwait set n) s = waits_signal (Some n) by set s
  call_effect by (call.MqSend q len p v) s = sends_message by q len (record { priority = p; value = number_of s.machine by.thread v }) None s
  call_effect by (call.MqTimedsend q len p v at) s =
      sends_message by q len (record { priority = p; value = number_of s.machine by.thread v }) (Some (moment_of s.machine by.thread at)) s
  call_effect by (call.MqReceive q) s = receives_message by q None s
  call_effect by (call.MqTimedreceive q at) s = receives_message by q (Some (moment_of s.machine by.thread at)) s
  call_effect by (call.MqNotify q signal v) s = asks_notification by q (record { signal = signal; value = number_of s.machine by.thread v }) s

  -- XSH 2.9.5.2: at a cancellation point a request acts in place of the call
  abbrev pub makes_call : Caller → Turn P → Turn P
  makes_call by s = if is_cancellation_point by.call && request_acts (thread_at s.machine by.thread) then is_cancelled by.thread s else call_effect by by.call s

  -- what a unit does once it is complete
  abbrev pub unit_effect : ℕ → Unit → Turn P → Turn P
  unit_effect t (unit.Run n) s = s
  unit_effect t (unit.Make call) s = makes_call (record { thread = t; call = call }) s
  unit_effect t unit.Jump s = s
  unit_effect t unit.Finish s = finishes t s
