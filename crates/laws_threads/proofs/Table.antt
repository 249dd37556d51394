-- What threads keep, every call and every unit keeps.
use Rattle.std.proofs.Common.{Bool, None, Some, arith, false, inl, refl, subst, sym, true, ℕ, ◌+◌, ◌≡◌}
use Rattle.std.specs.Prelude.{◌&&◌, if◌then◌else◌}
use Rattle.words_numbers.specs.Signals.{has_signal}
use Rattle.words_numbers.specs.declared.res.Res.TheVariants as res
use Rattle.words_script.specs.declared.call.Call.{Call}
use Rattle.words_script.specs.declared.call.Call.TheVariants as call
use Rattle.rules_bodies.specs.declared.unit.Unit as units
use Rattle.rules_bodies.specs.declared.unit.Unit.TheVariants as unit
use Rattle.rules_machine.specs.Clock.{sets_real_clock, thread_moved, timer_moved}
use Rattle.rules_machine.specs.State.{SignalRecord, Thread, Timer, Wait, for_condition, for_end, for_message, for_mutex, for_room, for_semaphore, for_signal, for_time}
use Rattle.rules_machine.specs.Threads.{lives, moment_of, number_of, queue_at, real_time, semaphore_at, thread_at, timer_at}
use Rattle.rules_machine.specs.Waiters.{best_waiter}
use Rattle.rules_machine.specs.Turns.{Caller, Turn, changes_timer, moves}
use Rattle.rules_machine.specs.Mutexes.{trylock_answer}
use Rattle.rules_machine.specs.Semaphores.{waits_on_semaphore}
use Rattle.rules_machine.specs.Signals.{may_go_to, record_of_kill, record_of_sigqueue, selected, with_signals, without_signals}
use Rattle.rules_machine.specs.Timers.{armed, first_expiry, ticks_to, timer_moment}
use Rattle.rules_machine.specs.Queues.{next_message}
use Rattle.rules_machine.specs.Cancellation.{is_cancellation_point, is_cancelled, request_acts}
use Rattle.rules_machine.specs.Calls.{call_effect, makes_call, unit_effect}
use Rattle.rules_moves.proofs.Calls.Clock.{EachLeads, sets_real_clock_leads}
use Rattle.laws_threads.specs.EachThread.{Closed, Given, MakesWait, UnitKnown}
use Rattle.laws_threads.proofs.Changes.{Holds, changes_hold, if_holds, timer_holds}
use Rattle.laws_threads.proofs.Waking.{MayBlock, broadcasts_hold, ending_hold, locks_hold, locks_on_hold, returns_hold, signals_hold, unlocks_hold, waits_hold}
use Rattle.laws_threads.proofs.Calls.{asks_notification_hold, cancels_hold, creates_hold, finishes_hold, is_cancelled_hold, joins_hold, pops_hold, posts_to_hold, pushes_hold, receives_on_hold, sends_message_hold, sends_signal_hold, sets_cancelability_hold, sets_mask_hold, sets_policy_hold, sets_priority_hold, sleeps_until_hold, tries_semaphore_hold, waits_semaphore_hold, waits_signal_on_hold}

module _ {P : Type 0} (given : Given P) (Q : ℕ → ℕ → Thread P → Type 0) (closed : Closed given Q) where
  abbrev Holding : Turn P → Type 0
  Holding s = Holds given Q s

  -- what a known call waits for
  may : (by : Caller) (c : Call) (wait : Wait) (caller : Thread P) → by.call ≡ c → given.Known caller c → MakesWait c wait → MayBlock given Q closed by wait
  may by c wait caller e known makes = record { caller = caller; known = subst (λ (c : Call). given.Known caller c) (sym e) known; makes = subst (λ (c : Call). MakesWait c wait) (sym e) makes }

  -- ---- the clock

  abbrev Keeps : Turn P → Turn P → Type 0
  Keeps s x = Holding s → Holding x

  each_holds : EachLeads Keeps
  each_holds = record {
    stays = λ s h. h;
    goes_on = λ s x y a b h. b (a h);
    clock = λ clock s h. h;
    thread = λ move t s h. changes_hold given Q t (thread_moved move) s (λ lt q. closed.moves s.machine.now t (thread_at s.machine t) move q) h;
    timer = λ move k s h. timer_holds given Q k (timer_moved move) s (λ x q. q) h;
    answer = λ by r v s h. returns_hold given Q closed by r v s h;
  }

  sets_real_clock_hold : (by : Caller) (reading : ℕ) (s : Turn P) → Holding s → Holding (sets_real_clock by reading s)
  sets_real_clock_hold = sets_real_clock_leads Keeps each_holds

  -- ---- the table

  pub call_effect_hold : (by : Caller) (c : Call) (s : Turn P) → by.call ≡ c → given.Known (thread_at s.machine by.thread) c → Holding s → Holding (call_effect given.bodies by c s)
  call_effect_hold by call.Yield s e known h = returns_hold given Q closed by res.Zero 0 (moves by.thread s) h
  call_effect_hold by (call.Create u) s e known h = creates_hold given Q closed by u s h
  call_effect_hold by (call.Join u) s e known h = joins_hold given Q closed by u s known (may by (call.Join u) (for_end u) (thread_at s.machine by.thread) e known refl) h
  call_effect_hold by (call.Cancel u) s e known h = cancels_hold given Q closed by u s known h
  call_effect_hold by call.Testcancel s e known h = returns_hold given Q closed by res.Zero 0 s h
  call_effect_hold by (call.Setcancel on) s e known h = sets_cancelability_hold given Q closed by on s known h
  call_effect_hold by (call.Push u) s e known h = pushes_hold given Q closed by u s known h
  call_effect_hold by (call.Pop runs) s e known h = pops_hold given Q closed by runs s known h
  call_effect_hold by (call.Exit v) s e known h = ending_hold given Q closed by.thread (number_of s.machine by.thread v) s (inl (v, known)) h
  call_effect_hold by (call.Setprio u p) s e known h = sets_priority_hold given Q closed by u p s known h
  call_effect_hold by (call.Setsched u new) s e known h = sets_policy_hold given Q closed by u new s known h
  call_effect_hold by (call.Lock k) s e known h = locks_hold given Q closed by k None s (may by (call.Lock k) (for_mutex k) (thread_at s.machine by.thread) e known refl) h
  call_effect_hold by (call.Timedlock k at) s e known h = locks_hold given Q closed by k (Some (moment_of s.machine by.thread at)) s (may by (call.Timedlock k at) (for_mutex k) (thread_at s.machine by.thread) e known refl) h
  call_effect_hold by (call.Trylock k) s e known h = locks_on_hold given Q closed (trylock_answer s.machine by.thread k) by k None s (may by (call.Trylock k) (for_mutex k) (thread_at s.machine by.thread) e known refl) h
  call_effect_hold by (call.Unlock k) s e known h = unlocks_hold given Q closed by k s h
  call_effect_hold by (call.Wait c k) s e known h = waits_hold given Q closed by c k None s (may by (call.Wait c k) (for_condition c k) (thread_at s.machine by.thread) e known refl) h
  call_effect_hold by (call.Timedwait c k at) s e known h = waits_hold given Q closed by c k (Some (moment_of s.machine by.thread at)) s (may by (call.Timedwait c k at) (for_condition c k) (thread_at s.machine by.thread) e known refl) h
  call_effect_hold by (call.Signal c) s e known h = signals_hold given Q closed by c s h
  call_effect_hold by (call.Broadcast c) s e known h = broadcasts_hold given Q closed by c s h
  call_effect_hold by (call.SemWait k) s e known h = waits_semaphore_hold given Q closed by k None s (may by (call.SemWait k) (for_semaphore k) (thread_at s.machine by.thread) e known refl) h
  call_effect_hold by (call.SemTimedwait k at) s e known h = waits_semaphore_hold given Q closed by k (Some (moment_of s.machine by.thread at)) s (may by (call.SemTimedwait k at) (for_semaphore k) (thread_at s.machine by.thread) e known refl) h
  call_effect_hold by (call.SemTrywait k) s e known h = tries_semaphore_hold given Q closed by k s h
  call_effect_hold by (call.SemGetvalue k) s e known h = returns_hold given Q closed by res.Zero (semaphore_at s.machine k) s h
  call_effect_hold by (call.SemPost k) s e known h = posts_to_hold given Q closed (best_waiter s.machine (waits_on_semaphore k)) by k s h
  call_effect_hold by (call.Nanosleep n) s e known h = sleeps_until_hold given Q closed by (s.machine.now + n) s (may by (call.Nanosleep n) (for_time) (thread_at s.machine by.thread) e known refl) h
  call_effect_hold by (call.ClockNanosleep at) s e known h = sleeps_until_hold given Q closed by (moment_of s.machine by.thread at) s (may by (call.ClockNanosleep at) (for_time) (thread_at s.machine by.thread) e known refl) h
  call_effect_hold by call.Gettime s e known h = returns_hold given Q closed by res.Zero s.machine.now s h
  call_effect_hold by call.RealGettime s e known h = returns_hold given Q closed by res.Zero (real_time s.machine) s h
  call_effect_hold by (call.ClockSettime at) s e known h = sets_real_clock_hold by (number_of s.machine by.thread at) s h
  call_effect_hold by (call.TimerSettimeRel k n interval) s e known h =
      returns_hold given Q closed by res.Zero 0 (changes_timer k (armed (first_expiry n (s.machine.now + n)) false interval) s) (timer_holds given Q k (armed (first_expiry n (s.machine.now + n)) false interval) s (λ x q. q) h)
  call_effect_hold by (call.TimerSettimeAbs k at interval) s e known h =
      let f : Timer → Timer = armed (first_expiry (number_of s.machine by.thread at) (timer_moment s.machine k (number_of s.machine by.thread at))) (timer_at s.machine k).is_real interval in
      returns_hold given Q closed by res.Zero 0 (changes_timer k f s) (timer_holds given Q k f s (λ x q. q) h)
  call_effect_hold by (call.TimerGettime k) s e known h = returns_hold given Q closed by res.Zero (ticks_to (timer_at s.machine k).due s.machine.now) s h
  call_effect_hold by (call.TimerGetoverrun k) s e known h = returns_hold given Q closed by res.Zero (timer_at s.machine k).overrun s h
  call_effect_hold by (call.Kill signal) s e known h = sends_signal_hold given Q closed by (record_of_kill signal None) s refl h
  call_effect_hold by (call.Tkill u signal) s e known h =
      if_holds given Q (lives s.machine u) _ _ (sends_signal_hold given Q closed by (record_of_kill signal (Some u)) s refl h) (returns_hold given Q closed by res.Srch 0 s h)
  call_effect_hold by (call.Sigqueue signal v) s e known h = sends_signal_hold given Q closed by (record_of_sigqueue signal (number_of s.machine by.thread v)) s refl h
  call_effect_hold by (call.SigmaskBlock set) s e known h = sets_mask_hold given Q closed by (with_signals set) s h
  call_effect_hold by (call.SigmaskUnblock set) s e known h = sets_mask_hold given Q closed by (without_signals set) s h
  call_effect_hold by (call.SigmaskSet set) s e known h = sets_mask_hold given Q closed by (λ (mask : ℕ). set) s h
  call_effect_hold by (call.Sigwaitinfo set) s e known h =
      waits_signal_on_hold given Q closed (selected s.machine (λ (r : SignalRecord). has_signal set r.signal && may_go_to by.thread r.target)) None by set s (may by (call.Sigwaitinfo set) (for_signal set) (thread_at s.machine by.thread) e known refl) h
  call_effect_hold by (call.Sigtimedwait set n) s e known h =
      waits_signal_on_hold given Q closed (selected s.machine (λ (r : SignalRecord). has_signal set r.signal && may_go_to by.thread r.target)) (Some n) by set s (may by (call.Sigtimedwait set n) (for_signal set) (thread_at s.machine by.thread) e known refl) h
  call_effect_hold by (call.MqSend q len p v) s e known h =
      sends_message_hold given Q closed by q len (record { priority = p; value = number_of s.machine by.thread v }) None s
      (may by (call.MqSend q len p v) (for_room q (record { priority = p; value = number_of s.machine by.thread v })) (thread_at s.machine by.thread) e known (_, refl, refl)) h
  call_effect_hold by (call.MqTimedsend q len p v at) s e known h =
      sends_message_hold given Q closed by q len (record { priority = p; value = number_of s.machine by.thread v }) (Some (moment_of s.machine by.thread at)) s
      (may by (call.MqTimedsend q len p v at) (for_room q (record { priority = p; value = number_of s.machine by.thread v })) (thread_at s.machine by.thread) e known (_, refl, refl)) h
  call_effect_hold by (call.MqReceive q) s e known h = receives_on_hold given Q closed (next_message (queue_at s.machine q).messages) by q None s (may by (call.MqReceive q) (for_message q) (thread_at s.machine by.thread) e known refl) h
  call_effect_hold by (call.MqTimedreceive q at) s e known h =
      receives_on_hold given Q closed (next_message (queue_at s.machine q).messages) by q (Some (moment_of s.machine by.thread at)) s
      (may by (call.MqTimedreceive q at) (for_message q) (thread_at s.machine by.thread) e known refl) h
  call_effect_hold by (call.MqNotify q signal v) s e known h =
      asks_notification_hold given Q closed by q (record { signal = signal; value = number_of s.machine by.thread v }) s (closed.notifies (thread_at s.machine by.thread) q signal v known) h

  pub makes_call_hold : (by : Caller) (s : Turn P) → given.Known (thread_at s.machine by.thread) by.call → Holding s → Holding (makes_call given.bodies by s)
  makes_call_hold by s known h =
      by_request (is_cancellation_point by.call && request_acts (thread_at s.machine by.thread)) refl
    where
      acts : (a b : Bool) → (a && b) ≡ true → b ≡ true
      acts a b e = grind arith

      by_request : (b : Bool) → (is_cancellation_point by.call && request_acts (thread_at s.machine by.thread)) ≡ b → Holding (if b then is_cancelled by.thread s else call_effect given.bodies by by.call s)
      by_request true e = is_cancelled_hold given Q closed by.thread s (acts (is_cancellation_point by.call) (request_acts (thread_at s.machine by.thread)) e) h
      by_request false e = call_effect_hold by by.call s refl known h

  pub unit_effect_hold : (t : ℕ) (u : units.Unit) (s : Turn P) → UnitKnown given (thread_at s.machine t) u → Holding s → Holding (unit_effect given.bodies t u s)
  unit_effect_hold t (unit.Run n) s known h = h
  unit_effect_hold t (unit.Make c) s known h = makes_call_hold (record { thread = t; call = c }) s known h
  unit_effect_hold t unit.Jump s known h = h
  unit_effect_hold t unit.Finish s known h = finishes_hold given Q closed t s h
