-- Calls that neither push nor pop, due items and the ends of ticks leave each thread with the cleanup handlers round its place.
use Rattle.std.proofs.Common.{Bool, List, None, Option, Some, ap, arith, false, inl, inr, length, refl, suc, sym, true, zero, ℕ, ◌+◌, ◌≡◌, ◌⊎◌}
use Rattle.std.specs.Prelude.{nat_lt, not, ◌==◌, ◌&&◌, ◌||◌}
use mathlib.Core.Path.{subst, ◌∙◌}
use Rattle.words_numbers.specs.Signals.{has_signal}
use Rattle.words_numbers.specs.declared.item.Item.{Item}
use Rattle.words_numbers.specs.declared.item.Item.TheVariants as item
use Rattle.words_numbers.specs.declared.res.Res.{Res}
use Rattle.words_numbers.specs.declared.res.Res.TheVariants as res
use Rattle.words_script.specs.declared.call.Call.{Call}
use Rattle.words_script.specs.declared.call.Call.TheVariants as call
use Rattle.words_script.specs.declared.policy.Policy.{Policy}
use Rattle.words_trace.specs.declared.event.Event.TheVariants as event
use Rattle.rules_server.specs.Server.{ServerState, oldest_pending, plan, refill}
use Rattle.rules_machine.specs.declared.frame.BodyOf.TheVariants as body_of
use Rattle.rules_machine.specs.declared.thread.CondEnd.TheVariants as cond_end
use Rattle.rules_machine.specs.Bodies.{Bodies}
use Rattle.rules_machine.specs.State.{Joiner, Message, Registration, SignalRecord, Status, Thread, Wait, Waiting, blocked, dormant, ended, for_condition, for_end, for_message, for_mutex, for_mutex_again, for_room, for_semaphore, for_signal, for_time, has_joined, nobody, runnable, waits_to_join}
use Rattle.rules_machine.specs.Threads.{can_run, is_dormant, lives, moment_of, mutex_at, number_of, queue_at, real_time, semaphore_at, thread_at, timer_at, waiting_of}
use Rattle.rules_machine.specs.Waiters.{Waiter, best_waiter, somebody_waits, waiters}
use Rattle.rules_machine.specs.Turns.{Caller, Turn, changes, changes_pending, changes_queue, changes_timer, has_passed, is_late, moves, moves_if, returns, tells}
use Rattle.rules_machine.specs.Servers.{activates_if, amount_of, plans_server, refills_server, regains_high, with_server, at_once}
use Rattle.rules_machine.specs.Waking.{blocks, cancelled_value, ending_with, started, starts, wakes}
use Rattle.rules_machine.specs.Mutexes.{LockAnswer, counts, lock_answer, carries_out_lock, must_wait, owned_by, owns, owns_boosting, refused, takes, trylock_answer, unlocks}
use Rattle.rules_machine.specs.Conditions.{signals_best_times, waits, waits_on_condition, waits_with_other_mutex}
use Rattle.rules_machine.specs.Semaphores.{blocks_unless_late, wakes_waiter_or_raises_value, semaphore_limit, tries_semaphore, waits_on_semaphore, waits_semaphore}
use Rattle.rules_machine.specs.Signals.{delivers, generates, may_go_to, has_no_room, record_of_kill, record_of_sigqueue, selected, sends_signal, sets_mask, takes_signal_or_waits, blocks_for_signal, with_signals, without_record, without_signals}
use Rattle.rules_machine.specs.Timers.{armed, expires, first_expiry, is_pending_from, overrun_once_more, record_of_timer, sleeps_until, ticks_to, timer_moment}
use Rattle.rules_machine.specs.Queues.{asks_notification, blocks_unless_nonblock, enters, fired_by_message, has_room, is_notifying, message_of, next_message, notifies, takes_message_or_blocks, record_of_notification, registered, sends_message, reaches_receiver_or_queue, takes_over, value_at, waits_to_receive, waits_to_send, with_message, without_message}
use Rattle.rules_machine.specs.Lives.{creates, inherited_mask, is_nobody, joins, wakes_joiner, with_joiner}
use Rattle.rules_machine.specs.Cancellation.{cancels, is_cancellation_point, leaves, leaves_wait, request_acts, requested}
use Rattle.rules_machine.specs.Scheduling.{sets_policy, sets_priority, takes_priority, with_policy, with_priority}
use Rattle.rules_machine.specs.Calls.{call_effect, makes_call}
use Rattle.rules_machine.specs.DueItems.{handles, has_come, start_due, start_in, times_out, wait_times_out}
use Rattle.rules_machine.specs.Ticks.{TickEnd, ends_tick, exhausting, nothing, planning, slicing, without_slice}
use Rattle.rules_machine.proofs.ItemsEnd.{is_due}
use Rattle.rules_moves.proofs.Calls.Objects.{answered_status}
use Rattle.rules_machine.specs.declared.frame.BodyOf.{BodyOf}
use Rattle.rules_machine.specs.Lists.{changed_at}
use Rattle.rules_machine.specs.Threads.{no_thread, thread_in}
use Rattle.rules_machine.specs.WellFormed.{is_guarding}
use Rattle.laws_machine.specs.GuardedBodies.{BodiesGuarded}
use Rattle.rules_moves.proofs.Waiters.OfThreads.{changed_is}
use Rattle.laws_machine.proofs.Cleanups.Frames.{Clean, Keeps, activated, activated_if, cancelled_same, change, clock_same, contend_same, deliver_same, doze_same, ending_clean, generate_same, if_same, release_same, returned, signals_same, sleep_same, wakes_same}

module _ {P : Type 0} (bodies : Bodies P) (guards : BodyOf → P → List ℕ) (guarded : BodiesGuarded bodies guards) where
  abbrev Same : Turn P → Turn P → Type 0
  Same s x = Keeps guards s x

  moved : (b : Bool) (t : ℕ) (s : Turn P) → Same s (moves_if b t s)
  moved true t s = λ i q. q
  moved false t s = λ i q. q

  -- ---- mutexes, conditions, semaphores

  lock_same : (a : LockAnswer) (by : Caller) (k : ℕ) (due : Option ℕ) (s : Turn P) → Same s (carries_out_lock a by k due s)
  lock_same (refused r) by k due s = returned guards by r 0 s
  lock_same counts by k due s = returned guards by res.Zero 0 s
  lock_same takes by k due s = returned guards by res.Zero 0 s
  lock_same must_wait by k due s = sleep_same guards by (for_mutex k) due s

  unlock_same : (by : Caller) (k : ℕ) (s : Turn P) → Same s (unlocks by k s)
  unlock_same by k s =
      let back = returns by res.Zero 0 s in
      if_same guards (not (owns s.machine by.thread k)) s _ _ (λ e. returned guards by res.Perm 0 s)
      (λ e. if_same guards (nat_lt 1 (mutex_at s.machine k).count) s _ _ (λ e. returned guards by res.Zero 0 s) (λ e i q. release_same guards k back i (returned guards by res.Zero 0 s i q)))

  condition_same : (by : Caller) (c k : ℕ) (due : Option ℕ) (s : Turn P) → Same s (waits by c k due s)
  condition_same by c k due s =
      if_same guards (not (owns s.machine by.thread k)) s _ _ (λ e. (returned guards by res.Perm 0 s))
      (λ e. if_same guards (nat_lt 1 (mutex_at s.machine k).count || somebody_waits s.machine (waits_with_other_mutex c k)) s _ _ (λ e. (returned guards by res.Inval 0 s))
      (λ e. if_same guards (nat_lt 1 (length (owned_by s.machine by.thread))) s _ _ (λ e. (returned guards by res.Deadlk 0 s))
      (λ e. (λ i q. (release_same guards k (blocks by (for_condition c k) due s)) i ((sleep_same guards by (for_condition c k) due s) i q)))))

  unless_late_same : (by : Caller) (wait : Wait) (due : Option ℕ) (s : Turn P) → Same s (blocks_unless_late by wait due s)
  unless_late_same by wait due s = if_same guards (is_late due s.machine) s _ _ (λ e. (returned guards by res.Timedout 0 s)) (λ e. sleep_same guards by wait due s)

  semaphore_same : (by : Caller) (k : ℕ) (due : Option ℕ) (s : Turn P) → Same s (waits_semaphore by k due s)
  semaphore_same by k due s = if_same guards (nat_lt 0 (semaphore_at s.machine k)) s _ _ (λ e. (returned guards by res.Zero 0 s)) (λ e. unless_late_same by (for_semaphore k) due s)

  try_same : (by : Caller) (k : ℕ) (s : Turn P) → Same s (tries_semaphore by k s)
  try_same by k s = if_same guards (semaphore_at s.machine k == 0) s _ _ (λ e. (returned guards by res.Again 0 s)) (λ e. (returned guards by res.Zero 0 s))

  post_same : (o : Option Waiter) (by : Caller) (k : ℕ) (s : Turn P) → Same s (wakes_waiter_or_raises_value o by k s)
  post_same (Some w) by k s = λ i q. (wakes_same guards w.thread res.Zero 0 (returns by res.Zero 0 s)) i ((returned guards by res.Zero 0 s) i q)
  post_same None by k s = if_same guards (semaphore_at s.machine k == semaphore_limit) s _ _ (λ e. (returned guards by res.Overflow 0 s)) (λ e. (returned guards by res.Zero 0 s))

  -- ---- signals and time

  send_same : (by : Caller) (r : SignalRecord) (s : Turn P) → Same s (sends_signal by r s)
  send_same by r s =
      if_same guards (has_no_room s.machine r) s _ _ (λ e. (returned guards by res.Again 0 s))
      (λ e. (λ i q. (generate_same guards r (returns by res.Zero 0 s)) i ((returned guards by res.Zero 0 s) i q)))

  ticks_same : (n : Option ℕ) (by : Caller) (set : ℕ) (s : Turn P) → Same s (blocks_for_signal n by set s)
  ticks_same None by set s = sleep_same guards by (for_signal set) None s
  ticks_same (Some zero) by set s = returned guards by res.Again 0 s
  ticks_same (Some (suc n)) by set s = sleep_same guards by (for_signal set) (Some (s.machine.now + suc n)) s

  accept_same : (o : Option SignalRecord) (n : Option ℕ) (by : Caller) (set : ℕ) (s : Turn P) → Same s (takes_signal_or_waits o n by set s)
  accept_same (Some r) n by set s =
      let out = changes_pending (without_record r) s in λ i q. (returned guards by res.Zero r.signal (delivers by.thread r out)) i ((deliver_same guards by.thread r out) i q)
  accept_same None n by set s = ticks_same n by set s

  nap_same : (by : Caller) (at : ℕ) (s : Turn P) → Same s (sleeps_until by at s)
  nap_same by at s =
      if_same guards (has_passed at s.machine) s _ _ (λ e. (returned guards by res.Zero 0 s))
      (λ e. (doze_same guards (record { wait = for_time; serial = 0; due = Some at; call = by.call }) by.thread s))

  -- ---- message queues

  notify_same : (o : Option Registration) (q : ℕ) (s : Turn P) → Same s (notifies o q s)
  notify_same None q s = λ i q. q
  notify_same (Some r) q s = generate_same guards (record_of_notification q r) (changes_queue q (registered None) s)

  enter_same : (q : ℕ) (x : Message) (told : Turn P → Turn P) (s : Turn P) → ((s : Turn P) → Same s (told s)) → Same s (enters q x told s)
  enter_same q x told s h = let in' = changes_queue q (with_message x) s in λ i c. notify_same (fired_by_message s.machine q) q (told in') i (h in' i c)

  over_same : (o : Option Waiter) (q : ℕ) (s : Turn P) → Same s (takes_over o q s)
  over_same None q s = λ i q. q
  over_same (Some w) q s = enter_same q (message_of w.waiting.wait) (wakes w.thread res.Zero 0) s (wakes_same guards w.thread res.Zero 0)

  nonblock_same : (by : Caller) (q : ℕ) (wait : Wait) (due : Option ℕ) (s : Turn P) → Same s (blocks_unless_nonblock by q wait due s)
  nonblock_same by q wait due s = if_same guards (queue_at s.machine q).is_nonblock s _ _ (λ e. (returned guards by res.Again 0 s)) (λ e. unless_late_same by wait due s)

  send_to_same : (o : Option Waiter) (by : Caller) (q : ℕ) (x : Message) (due : Option ℕ) (s : Turn P) → Same s (reaches_receiver_or_queue o by q x due s)
  send_to_same (Some w) by q x due s = λ i q. (wakes_same guards w.thread res.Zero x.value (returns by res.Zero 0 s)) i ((returned guards by res.Zero 0 s) i q)
  send_to_same None by q x due s =
      if_same guards (has_room (queue_at s.machine q)) s _ _ (λ e. (enter_same q x (returns by res.Zero 0) s (returned guards by res.Zero 0))) (λ e. nonblock_same by q (for_room q x) due s)

  message_same : (by : Caller) (q len : ℕ) (x : Message) (due : Option ℕ) (s : Turn P) → Same s (sends_message by q len x due s)
  message_same by q len x due s =
      if_same guards (nat_lt (queue_at s.machine q).longest len) s _ _ (λ e. (returned guards by res.Msgsize 0 s)) (λ e. send_to_same (best_waiter s.machine (waits_to_receive q)) by q x due s)

  receive_same : (n : Option ℕ) (by : Caller) (q : ℕ) (due : Option ℕ) (s : Turn P) → Same s (takes_message_or_blocks n by q due s)
  receive_same (Some n) by q due s =
      let out = changes_queue q (without_message n) s in
      let back = returns by res.Zero (value_at (queue_at s.machine q).messages n) out in
      λ i c. over_same (best_waiter s.machine (waits_to_send q)) q back i (returned guards by res.Zero (value_at (queue_at s.machine q).messages n) out i c)
  receive_same None by q due s = nonblock_same by q (for_message q) due s

  ask_same : (by : Caller) (q : ℕ) (r : Registration) (s : Turn P) → Same s (asks_notification by q r s)
  ask_same by q r s = if_same guards (is_notifying s.machine q) s _ _ (λ e. (returned guards by res.Busy 0 s)) (λ e. (returned guards by res.Zero 0 s))

  -- ---- threads

  started_clean : (t mask now : ℕ) (th : Thread P) → is_dormant th.status ≡ true → Clean guards th → Clean guards (started bodies t mask now th)
  started_clean t mask now th e q = (λ k. q.1 e ∙ sym (guarded.start (body_of.Thread t)), λ k. absurd (grind arith), (refl, tt))

  pub start_same : (t mask : ℕ) (s : Turn P) → is_dormant (thread_at s.machine t).status ≡ true → Same s (starts bodies t mask s)
  start_same t mask s e =
      let up = tells (event.Start t) (moves t (changes t (started bodies t mask s.machine.now) s)) in
      λ i q. activated guards t (at_once (thread_at up.machine t).server) up i (begun i (changed_is no_thread t i (started bodies t mask s.machine.now) s.machine.threads) q)
    where
      begun : (i : ℕ) → ((t ≡ i) × (thread_in (changed_at no_thread t (started bodies t mask s.machine.now) s.machine.threads) i ≡ started bodies t mask s.machine.now (thread_at s.machine t))) ⊎ (thread_in (changed_at no_thread t (started bodies t mask s.machine.now) s.machine.threads) i ≡ thread_at s.machine i) →
          Clean guards (thread_at s.machine i) → Clean guards (thread_at (changes t (started bodies t mask s.machine.now) s).machine i)
      begun i (inl k) q = subst (λ (th : Thread P). Clean guards th) (sym k.1) (started_clean t mask s.machine.now (thread_at s.machine t) e (subst (λ (j : ℕ). Clean guards (thread_at s.machine j)) (sym k.0) q))
      begun i (inr k) q = subst (λ (th : Thread P). Clean guards th) (sym k) q

  create_same : (by : Caller) (u : ℕ) (s : Turn P) → Same s (creates bodies by u s)
  create_same by u s =
      let back = returns by res.Zero 0 s in
      if_same guards (is_dormant (thread_at s.machine u).status) s _ _
      (λ e i q. start_same u (inherited_mask (thread_at s.machine by.thread)) back (ap is_dormant (answered_status by res.Zero 0 s u) ∙ e) i (returned guards by res.Zero 0 s i q))
      (λ e. returned guards by res.Again 0 s)

  joiner_same : (t : ℕ) (j : Joiner) (s : Turn P) → Same s (changes t (with_joiner j) s)
  joiner_same t j s = change guards t (with_joiner j) s (λ th q. q)

  join_same : (by : Caller) (u : ℕ) (s : Turn P) → Same s (joins by u s)
  join_same by u s =
      if_same guards (u == by.thread) s _ _ (λ e. (returned guards by res.Deadlk 0 s))
      (λ e. if_same guards (is_dormant (thread_at s.machine u).status) s _ _ (λ e. (returned guards by res.Srch 0 s))
      (λ e. if_same guards (not (is_nobody (thread_at s.machine u).joiner)) s _ _ (λ e. (returned guards by res.Inval 0 s))
      (λ e. if_same guards (lives s.machine u) s _ _
      (λ e. (λ i q. (doze_same guards (record { wait = for_end u; serial = 0; due = None; call = by.call }) by.thread (changes u (with_joiner (waits_to_join by.thread)) s)) i ((joiner_same u (waits_to_join by.thread) s) i q)))
      (λ e. (λ i q. (returned guards by res.Zero (thread_at s.machine u).exit_value (changes u (with_joiner has_joined) s)) i ((joiner_same u has_joined s) i q))))))

  leave_same : (wait : Wait) (u : ℕ) (s : Turn P) → Same s (leaves wait u s)
  leave_same (for_mutex k) u s = λ i q. q
  leave_same (for_mutex_again k how) u s = λ i q. q
  leave_same (for_condition c k) u s = contend_same guards u cond_end.Cancelled s
  leave_same (for_end t) u s = λ i q. (cancelled_same guards u (changes t (with_joiner nobody) s)) i ((joiner_same t nobody s) i q)
  leave_same _ u s = cancelled_same guards u s

  leave_wait_same : (o : Option Waiting) (u : ℕ) (s : Turn P) → Same s (leaves_wait o u s)
  leave_wait_same None u s = λ i q. q
  leave_wait_same (Some w) u s = leave_same w.wait u s

  cancel_same : (by : Caller) (u : ℕ) (s : Turn P) → Same s (cancels by u s)
  cancel_same by u s =
      let back = returns by res.Zero 0 s in let asked = changes u requested back in
      if_same guards (lives s.machine u) s _ _
      (λ e. (λ i q. (if_same guards (request_acts (thread_at asked.machine u)) asked (leaves_wait (waiting_of asked.machine u) u asked) asked (λ e. leave_wait_same (waiting_of asked.machine u) u asked) (λ e i q. q)) i ((change guards u requested back (λ th q. q)) i ((returned guards by res.Zero 0 s) i q))))
      (λ e. (returned guards by res.Srch 0 s))

  price_same : (by : Caller) (u p : ℕ) (s : Turn P) → Same s (sets_priority by u p s)
  price_same by u p s =
      let new = changes u (with_priority p) s in
      if_same guards (lives s.machine u) s _ _
      (λ e. if_same guards (takes_priority (thread_at s.machine u).policy p) s _ _
      (λ e i q. returned guards by res.Zero 0 new i (change guards u (with_priority p) s (λ th q. q) i q)) (λ e. returned guards by res.Inval 0 s))
      (λ e. returned guards by res.Srch 0 s)

  policy_same : (by : Caller) (u : ℕ) (new : Policy) (s : Turn P) → Same s (sets_policy by u new s)
  policy_same by u new s =
      let back = returns by res.Zero 0 s in let renewed = changes u (with_policy new s.machine.now) back in
      let live = activates_if (can_run s.machine u) u renewed in
      if_same guards (lives s.machine u) s _ _
      (λ e. (λ i q. (moved (not (owns_boosting live.machine u)) u live) i ((activated_if guards (can_run s.machine u) u renewed) i ((change guards u (with_policy new s.machine.now) back (λ th q. q)) i ((returned guards by res.Zero 0 s) i q)))))
      (λ e. (returned guards by res.Srch 0 s))

  mask_same : (by : Caller) (f : ℕ → ℕ) (s : Turn P) → Same s (sets_mask by f s)
  mask_same by f s =
      let here = changes by.thread (λ th. record th { mask = f th.mask }) s in
      λ i q. returned guards by res.Zero 0 here i (change guards by.thread (λ th. record th { mask = f th.mask }) s (λ th q. q) i q)

  enabled_same : (by : Caller) (b : Bool) (s : Turn P) → Same s (returns by res.Zero 0 (changes by.thread (λ th. record th { is_enabled = b }) s))
  enabled_same by b s =
      let here = changes by.thread (λ th. record th { is_enabled = b }) s in
      λ i q. returned guards by res.Zero 0 here i (change guards by.thread (λ th. record th { is_enabled = b }) s (λ th q. q) i q)

  reply_same : (by : Caller) (r : Res) (v : ℕ) (s : Turn P) → Same s (returns by r v s)
  reply_same by r v s = returned guards by r v s

  ending_same : (t v : ℕ) (s : Turn P) → Same s (changes t (ending_with v) s)
  ending_same t v s = change guards t (ending_with v) s (ending_clean guards v)

  signalled_same : (by : Caller) (n c : ℕ) (s : Turn P) → Same s (signals_best_times n c (returns by res.Zero 0 s))
  signalled_same by n c s = λ i q. (signals_same guards n c (returns by res.Zero 0 s)) i ((returned guards by res.Zero 0 s) i q)

  -- ---- the table

  call_same : (by : Caller) (c : Call) (s : Turn P) → is_guarding c ≡ false → Same s (call_effect bodies by c s)
  call_same by call.Yield s plain = reply_same by res.Zero 0 (moves by.thread s)
  call_same by (call.Create u) s plain = create_same by u s
  call_same by (call.Join u) s plain = join_same by u s
  call_same by (call.Cancel u) s plain = cancel_same by u s
  call_same by call.Testcancel s plain = reply_same by res.Zero 0 s
  call_same by (call.Setcancel on) s plain = enabled_same by on s
  call_same by (call.Push u) s plain = absurd (grind arith)
  call_same by (call.Pop b) s plain = absurd (grind arith)
  call_same by (call.Exit v) s plain = ending_same by.thread (number_of s.machine by.thread v) s
  call_same by (call.Setprio u p) s plain = price_same by u p s
  call_same by (call.Setsched u policy) s plain = policy_same by u policy s
  call_same by (call.Lock k) s plain = lock_same (lock_answer s.machine by.thread k None) by k None s
  call_same by (call.Timedlock k at) s plain =
      let due = Some (moment_of s.machine by.thread at) in lock_same (lock_answer s.machine by.thread k due) by k due s
  call_same by (call.Trylock k) s plain = lock_same (trylock_answer s.machine by.thread k) by k None s
  call_same by (call.Unlock k) s plain = unlock_same by k s
  call_same by (call.Wait c k) s plain = condition_same by c k None s
  call_same by (call.Timedwait c k at) s plain = condition_same by c k (Some (moment_of s.machine by.thread at)) s
  call_same by (call.Signal c) s plain = signalled_same by 1 c s
  call_same by (call.Broadcast c) s plain = signalled_same by (length (waiters s.machine (waits_on_condition c))) c s
  call_same by (call.SemWait k) s plain = semaphore_same by k None s
  call_same by (call.SemTimedwait k at) s plain = semaphore_same by k (Some (moment_of s.machine by.thread at)) s
  call_same by (call.SemTrywait k) s plain = try_same by k s
  call_same by (call.SemGetvalue k) s plain = reply_same by res.Zero (semaphore_at s.machine k) s
  call_same by (call.SemPost k) s plain = post_same (best_waiter s.machine (waits_on_semaphore k)) by k s
  call_same by (call.Nanosleep n) s plain = nap_same by (s.machine.now + n) s
  call_same by (call.ClockNanosleep at) s plain = nap_same by (moment_of s.machine by.thread at) s
  call_same by call.Gettime s plain = reply_same by res.Zero s.machine.now s
  call_same by call.RealGettime s plain = reply_same by res.Zero (real_time s.machine) s
  call_same by (call.ClockSettime at) s plain = clock_same guards by (number_of s.machine by.thread at) s
  call_same by (call.TimerSettimeRel k n interval) s plain = reply_same by res.Zero 0 (changes_timer k (armed (first_expiry n (s.machine.now + n)) false interval) s)
  call_same by (call.TimerSettimeAbs k at interval) s plain =
      reply_same by res.Zero 0 (changes_timer k (armed (first_expiry (number_of s.machine by.thread at) (timer_moment s.machine k (number_of s.machine by.thread at))) (timer_at s.machine k).is_real interval) s)
  call_same by (call.TimerGettime k) s plain = reply_same by res.Zero (ticks_to (timer_at s.machine k).due s.machine.now) s
  call_same by (call.TimerGetoverrun k) s plain = reply_same by res.Zero (timer_at s.machine k).overrun s
  call_same by (call.Kill signal) s plain = send_same by (record_of_kill signal None) s
  call_same by (call.Tkill u signal) s plain = if_same guards (lives s.machine u) s _ _ (λ e. send_same by (record_of_kill signal (Some u)) s) (λ e. reply_same by res.Srch 0 s)
  call_same by (call.Sigqueue signal v) s plain = send_same by (record_of_sigqueue signal (number_of s.machine by.thread v)) s
  call_same by (call.SigmaskBlock set) s plain = mask_same by (with_signals set) s
  call_same by (call.SigmaskUnblock set) s plain = mask_same by (without_signals set) s
  call_same by (call.SigmaskSet set) s plain = mask_same by (λ (mask : ℕ). set) s
  call_same by (call.Sigwaitinfo set) s plain = accept_same (selected s.machine (λ (r : SignalRecord). has_signal set r.signal && may_go_to by.thread r.target)) None by set s
  call_same by (call.Sigtimedwait set n) s plain = accept_same (selected s.machine (λ (r : SignalRecord). has_signal set r.signal && may_go_to by.thread r.target)) (Some n) by set s
  call_same by (call.MqSend q len p v) s plain = message_same by q len (record { priority = p; value = number_of s.machine by.thread v }) None s
  call_same by (call.MqTimedsend q len p v at) s plain = message_same by q len (record { priority = p; value = number_of s.machine by.thread v }) (Some (moment_of s.machine by.thread at)) s
  call_same by (call.MqReceive q) s plain = receive_same (next_message (queue_at s.machine q).messages) by q None s
  call_same by (call.MqTimedreceive q at) s plain = receive_same (next_message (queue_at s.machine q).messages) by q (Some (moment_of s.machine by.thread at)) s
  call_same by (call.MqNotify q signal v) s plain = ask_same by q (record { signal = signal; value = number_of s.machine by.thread v }) s

  pub made_same : (by : Caller) (s : Turn P) → is_guarding by.call ≡ false → Same s (makes_call bodies by s)
  made_same by s plain =
      if_same guards (is_cancellation_point by.call && request_acts (thread_at s.machine by.thread)) s _ _ (λ e. ending_same by.thread cancelled_value (tells (event.Cancel by.thread) s)) (λ e. call_same by by.call s plain)

  -- ---- ends

  pub joined_same : (j : Joiner) (t : ℕ) (s : Turn P) → Same s (wakes_joiner j t s)
  joined_same nobody t s = λ i q. q
  joined_same has_joined t s = λ i q. q
  joined_same (waits_to_join u) t s = λ i q. (wakes_same guards u res.Zero (thread_at s.machine t).exit_value (changes t (with_joiner has_joined) s)) i ((joiner_same t has_joined s) i q)

  -- ---- items

  refill_same : (t : ℕ) (o : Option ServerState) (s : Turn P) → Same s (refills_server t o s)
  refill_same t None s = λ i q. q
  refill_same t (Some server) s =
      let fed = tells (event.Refill t (amount_of (oldest_pending server)) (refill server).capacity) (changes t (with_server refill) s) in λ i q. (activated_if guards (regains_high server && can_run s.machine t) t fed) i ((change guards t (with_server refill) s (λ th q. q)) i q)

  time_same : (wait : Wait) (t : ℕ) (s : Turn P) → Same s (wait_times_out wait t s)
  time_same (for_condition c k) t s = contend_same guards t cond_end.Timedout s
  time_same for_time t s = wakes_same guards t res.Zero 0 s
  time_same (for_signal set) t s = wakes_same guards t res.Again 0 s
  time_same _ t s = wakes_same guards t res.Timedout 0 s

  timeout_same : (o : Option Waiting) (t : ℕ) (s : Turn P) → Same s (times_out o t s)
  timeout_same None t s = λ i q. q
  timeout_same (Some w) t s = time_same w.wait t s

  expiry_same : (k : ℕ) (s : Turn P) → Same s (expires k s)
  expiry_same k s =
      if_same guards (is_pending_from k s.machine) s (changes_timer k overrun_once_more s) (generates (record_of_timer k (timer_at s.machine k)) s) (λ e i q. q) (λ e. generate_same guards (record_of_timer k (timer_at s.machine k)) s)

  start_dormant : (t : ℕ) (s : Turn P) → has_come (start_due s.machine t) s.machine.now ≡ true → is_dormant (thread_at s.machine t).status ≡ true
  start_dormant t s e = by_status (thread_at s.machine t).status e
    where
      by_status : (status : Status) → has_come (start_in status) s.machine.now ≡ true → is_dormant status ≡ true
      by_status (dormant at) e = refl
      by_status runnable e = absurd (grind arith)
      by_status (blocked w) e = absurd (grind arith)
      by_status ended e = absurd (grind arith)

  pub item_same : (i : Item) (s : Turn P) → is_due s.machine i ≡ true → Same s (handles bodies i s)
  item_same (item.Refill t) s e = refill_same t (thread_at s.machine t).server s
  item_same (item.Start t) s e = start_same t 0 s (start_dormant t s e)
  item_same (item.Timeout t) s e = timeout_same (waiting_of s.machine t) t s
  item_same (item.Timer k) s e = expiry_same k s

  -- ---- the tick's end

  plan_same : (t : ℕ) (o : Option ServerState) (s : Turn P) → Same s (plans_server t o s)
  plan_same t None s = λ i q. q
  plan_same t (Some server) s = change guards t (with_server plan) s (λ th q. q)

  pub end_same : (e : TickEnd) (t : ℕ) (s : Turn P) → Same s (ends_tick e t s)
  end_same planning t s = plan_same t (thread_at s.machine t).server s
  end_same exhausting t s =
      let told = tells (event.Exhaust t) s in let done = plans_server t (thread_at s.machine t).server told in λ i q. (moved (not (owns_boosting done.machine t)) t done) i ((plan_same t (thread_at s.machine t).server told) i q)
  end_same slicing t s = λ i q. (moved (can_run s.machine t) t (changes t without_slice s)) i ((change guards t without_slice s (λ th q. q)) i q)
  end_same nothing t s = λ i q. q
