-- A unit costs two at most, and due items, sweeps and the ends of ticks cost nothing.
use Rattle.std.proofs.Common.{Bool, List, None, Option, Some, [], ap, arith, false, length, refl, suc, true, zero, ℕ, ◌+◌, ◌≤◌, ◌∷◌, ◌≡◌}
use Rattle.std.specs.Prelude.{nat_lt, not, ◌==◌, ◌&&◌, ◌||◌}
use mathlib.Core.Path.{◌∙◌}
use Rattle.words_numbers.specs.Signals.{has_signal}
use Rattle.words_numbers.specs.declared.item.Item.{Item}
use Rattle.words_numbers.specs.declared.item.Item.TheVariants as item
use Rattle.words_numbers.specs.declared.res.Res.{Res}
use Rattle.words_numbers.specs.declared.res.Res.TheVariants as res
use Rattle.words_script.specs.declared.call.Call.{Call}
use Rattle.words_script.specs.declared.call.Call.TheVariants as call
use Rattle.words_script.specs.declared.policy.Policy.{Policy}
use Rattle.rules_bodies.specs.declared.unit.Unit.{Unit}
use Rattle.rules_bodies.specs.declared.unit.Unit.TheVariants as unit
use Rattle.words_trace.specs.declared.event.Event.TheVariants as event
use Rattle.rules_server.specs.Server.{ServerState, oldest_pending, plan, refill}
use Rattle.rules_machine.specs.declared.frame.BodyOf.TheVariants as body_of
use Rattle.rules_machine.specs.declared.frame.FrameKind.{FrameKind}
use Rattle.rules_machine.specs.declared.frame.FrameKind.TheVariants as frame
use Rattle.rules_machine.specs.declared.thread.CondEnd.TheVariants as cond_end
use Rattle.rules_machine.specs.Bodies.{Bodies}
use Rattle.rules_machine.specs.State.{Joiner, Message, Registration, SignalRecord, Status, Wait, Waiting, blocked, dormant, ended, for_condition, for_end, for_message, for_mutex, for_mutex_again, for_room, for_semaphore, for_signal, for_time, has_joined, nobody, runnable, waits_to_join}
use Rattle.rules_machine.specs.Threads.{can_run, is_dormant, is_live, is_signal, lives, moment_of, mutex_at, number_of, queue_at, real_time, semaphore_at, thread_at, timer_at, top_kind, waiting_of}
use Rattle.rules_machine.specs.Waiters.{Waiter, best_waiter, somebody_waits, waiters}
use Rattle.rules_machine.specs.Turns.{Caller, Turn, changes, changes_pending, changes_queue, changes_timer, has_passed, is_late, moves, moves_if, returns, tells}
use Rattle.rules_machine.specs.Servers.{activates_if, amount_of, at_once, plans_server, refills_server, regains_high, with_server}
use Rattle.rules_machine.specs.Waking.{blocks, cancelled_value, ending_with, new_frame, on_top, started, starts, wakes}
use Rattle.rules_machine.specs.Mutexes.{LockAnswer, counts, lock_answer, carries_out_lock, must_wait, owned_by, owns, owns_boosting, refused, takes, trylock_answer, unlocks}
use Rattle.rules_machine.specs.Conditions.{signals_best_times, waits, waits_on_condition, waits_with_other_mutex}
use Rattle.rules_machine.specs.Semaphores.{blocks_unless_late, wakes_waiter_or_raises_value, semaphore_limit, tries_semaphore, waits_on_semaphore, waits_semaphore}
use Rattle.rules_machine.specs.Signals.{delivers, generates, may_go_to, has_no_room, record_of_kill, record_of_sigqueue, selected, sends_signal, sets_mask, takes_signal_or_waits, blocks_for_signal, with_signals, without_record, without_signals}
use Rattle.rules_machine.specs.Timers.{armed, expires, first_expiry, is_pending_from, overrun_once_more, record_of_timer, sleeps_until, ticks_to, timer_moment}
use Rattle.rules_machine.specs.Queues.{asks_notification, blocks_unless_nonblock, enters, fired_by_message, has_room, is_notifying, message_of, next_message, notifies, takes_message_or_blocks, record_of_notification, registered, sends_message, reaches_receiver_or_queue, takes_over, value_at, waits_to_receive, waits_to_send, with_message, without_message}
use Rattle.rules_machine.specs.Lives.{creates, ends, ends_frame, inherited_mask, is_nobody, joins, wakes_joiner, with_joiner, without_life, without_target, without_top}
use Rattle.rules_machine.specs.Cancellation.{cancels, is_cancellation_point, leaves, leaves_wait, request_acts, requested, runs_cleanup_if, without_cleanup}
use Rattle.rules_machine.specs.Scheduling.{sets_policy, sets_priority, takes_priority, with_policy, with_priority}
use Rattle.rules_machine.specs.Calls.{call_effect, makes_call, unit_effect}
use Rattle.rules_machine.specs.DueItems.{handles, has_come, start_due, start_in, times_out, wait_times_out}
use Rattle.rules_machine.specs.Ticks.{TickEnd, ends_tick, exhausting, nothing, planning, slicing, without_slice}
use Rattle.rules_machine.proofs.ItemsEnd.{is_due}
use Rattle.rules_moves.proofs.Waiters.Best.{Each}
use Rattle.rules_moves.proofs.Calls.Objects.{answered_status}
use Rattle.laws_machine.proofs.Serials.Distinct.{one_if, pends}
use Rattle.laws_machine.proofs.Serials.Costs.{Costs, IsPlain, activated, activated_if, cancelled_cost, change, clock_cost, contend_cost, deliver_cost, doze_cost, generate_cost, if_costs, one_small, out_cost, release_cost, returned, same, signals_cost, sleep_cost, sources_untargeted, wakes_cost}

module _ {P : Type 0} (bodies : Bodies P) where
  moved : (b : Bool) (t : ℕ) (s : Turn P) → Costs 0 s (moves_if b t s)
  moved true t s = omega arith
  moved false t s = omega arith

  -- ---- mutexes, conditions, semaphores

  lock_cost : (a : LockAnswer) (by : Caller) (k : ℕ) (due : Option ℕ) (s : Turn P) → Costs 2 s (carries_out_lock a by k due s)
  lock_cost (refused r) by k due s = let h = returned by r 0 s in omega arith
  lock_cost counts by k due s = let h = returned by res.Zero 0 s in omega arith
  lock_cost takes by k due s = let h = returned by res.Zero 0 s in omega arith
  lock_cost must_wait by k due s = sleep_cost by (for_mutex k) due s

  unlock_cost : (by : Caller) (k : ℕ) (s : Turn P) → Costs 2 s (unlocks by k s)
  unlock_cost by k s =
      let h = returned by res.Zero 0 s in
      if_costs 2 (not (owns s.machine by.thread k)) s _ _ (λ e. (let g = returned by res.Perm 0 s in omega arith))
      (λ e. if_costs 2 (nat_lt 1 (mutex_at s.machine k).count) s _ _ (λ e. omega arith) (λ e. (let g = release_cost k (returns by res.Zero 0 s) in omega arith)))

  condition_cost : (by : Caller) (c k : ℕ) (due : Option ℕ) (s : Turn P) → Costs 2 s (waits by c k due s)
  condition_cost by c k due s =
      if_costs 2 (not (owns s.machine by.thread k)) s _ _ (λ e. (let g = returned by res.Perm 0 s in omega arith))
      (λ e. if_costs 2 (nat_lt 1 (mutex_at s.machine k).count || somebody_waits s.machine (waits_with_other_mutex c k)) s _ _ (λ e. (let g = returned by res.Inval 0 s in omega arith))
      (λ e. if_costs 2 (nat_lt 1 (length (owned_by s.machine by.thread))) s _ _ (λ e. (let g = returned by res.Deadlk 0 s in omega arith))
      (λ e. (let g = sleep_cost by (for_condition c k) due s in let h = release_cost k (blocks by (for_condition c k) due s) in omega arith))))

  unless_late_cost : (by : Caller) (wait : Wait) (due : Option ℕ) (s : Turn P) → Costs 2 s (blocks_unless_late by wait due s)
  unless_late_cost by wait due s = if_costs 2 (is_late due s.machine) s _ _ (λ e. (let g = returned by res.Timedout 0 s in omega arith)) (λ e. sleep_cost by wait due s)

  semaphore_cost : (by : Caller) (k : ℕ) (due : Option ℕ) (s : Turn P) → Costs 2 s (waits_semaphore by k due s)
  semaphore_cost by k due s = if_costs 2 (nat_lt 0 (semaphore_at s.machine k)) s _ _ (λ e. (let g = returned by res.Zero 0 s in omega arith)) (λ e. unless_late_cost by (for_semaphore k) due s)

  try_cost : (by : Caller) (k : ℕ) (s : Turn P) → Costs 2 s (tries_semaphore by k s)
  try_cost by k s = if_costs 2 (semaphore_at s.machine k == 0) s _ _ (λ e. (let g = returned by res.Again 0 s in omega arith)) (λ e. (let g = returned by res.Zero 0 s in omega arith))

  post_cost : (o : Option Waiter) (by : Caller) (k : ℕ) (s : Turn P) → Costs 2 s (wakes_waiter_or_raises_value o by k s)
  post_cost (Some w) by k s = let g = returned by res.Zero 0 s in let h = wakes_cost w.thread res.Zero 0 (returns by res.Zero 0 s) in omega arith
  post_cost None by k s = if_costs 2 (semaphore_at s.machine k == semaphore_limit) s _ _ (λ e. (let g = returned by res.Overflow 0 s in omega arith)) (λ e. (let g = returned by res.Zero 0 s in omega arith))

  -- ---- signals and time

  send_cost : (by : Caller) (r : SignalRecord) (s : Turn P) → Costs 2 s (sends_signal by r s)
  send_cost by r s =
      if_costs 2 (has_no_room s.machine r) s _ _ (λ e. (let g = returned by res.Again 0 s in omega arith))
      (λ e. (let g = returned by res.Zero 0 s in let h = generate_cost 1 r (returns by res.Zero 0 s) (omega arith) in omega arith))

  ticks_cost : (n : Option ℕ) (by : Caller) (set : ℕ) (s : Turn P) → Costs 2 s (blocks_for_signal n by set s)
  ticks_cost None by set s = sleep_cost by (for_signal set) None s
  ticks_cost (Some zero) by set s = let g = returned by res.Again 0 s in omega arith
  ticks_cost (Some (suc n)) by set s = sleep_cost by (for_signal set) (Some (s.machine.now + suc n)) s

  accept_cost : (o : Option SignalRecord) (n : Option ℕ) (by : Caller) (set : ℕ) (s : Turn P) → Each IsPlain s.machine.pending → ((n : ℕ) → pends n s.machine.pending ≤ 1) → Costs 2 s (takes_signal_or_waits o n by set s)
  accept_cost (Some r) n by set s plain once =
      let out = changes_pending (without_record r) s in
      let a = out_cost r s plain (once r.serial) in let b = deliver_cost by.thread r out in let c = returned by res.Zero r.signal (delivers by.thread r out) in omega arith
  accept_cost None n by set s plain once = ticks_cost n by set s

  nap_cost : (by : Caller) (at : ℕ) (s : Turn P) → Costs 2 s (sleeps_until by at s)
  nap_cost by at s =
      if_costs 2 (has_passed at s.machine) s _ _ (λ e. (let g = returned by res.Zero 0 s in omega arith))
      (λ e. (let g = doze_cost (record { wait = for_time; serial = 0; due = Some at; call = by.call }) by.thread s refl in omega arith))

  -- ---- message queues

  notify_cost : (o : Option Registration) (q : ℕ) (s : Turn P) → Costs 0 s (notifies o q s)
  notify_cost None q s = omega arith
  notify_cost (Some r) q s = generate_cost 0 (record_of_notification q r) (changes_queue q (registered None) s) (omega arith)

  enter_cost : (q : ℕ) (x : Message) (told : Turn P → Turn P) (s : Turn P) → ((s : Turn P) → Costs 0 s (told s)) → Costs 0 s (enters q x told s)
  enter_cost q x told s h =
      let in' = changes_queue q (with_message x) s in
      let a = h in' in let b = notify_cost (fired_by_message s.machine q) q (told in') in omega arith

  over_cost : (o : Option Waiter) (q : ℕ) (s : Turn P) → Costs 0 s (takes_over o q s)
  over_cost None q s = omega arith
  over_cost (Some w) q s = enter_cost q (message_of w.waiting.wait) (wakes w.thread res.Zero 0) s (wakes_cost w.thread res.Zero 0)

  nonblock_cost : (by : Caller) (q : ℕ) (wait : Wait) (due : Option ℕ) (s : Turn P) → Costs 2 s (blocks_unless_nonblock by q wait due s)
  nonblock_cost by q wait due s = if_costs 2 (queue_at s.machine q).is_nonblock s _ _ (λ e. (let g = returned by res.Again 0 s in omega arith)) (λ e. unless_late_cost by wait due s)

  send_to_cost : (o : Option Waiter) (by : Caller) (q : ℕ) (x : Message) (due : Option ℕ) (s : Turn P) → Costs 2 s (reaches_receiver_or_queue o by q x due s)
  send_to_cost (Some w) by q x due s = let g = returned by res.Zero 0 s in let h = wakes_cost w.thread res.Zero x.value (returns by res.Zero 0 s) in omega arith
  send_to_cost None by q x due s =
      if_costs 2 (has_room (queue_at s.machine q)) s _ _ (λ e. (let g = enter_cost q x (returns by res.Zero 0) s (returned by res.Zero 0) in omega arith)) (λ e. nonblock_cost by q (for_room q x) due s)

  message_cost : (by : Caller) (q len : ℕ) (x : Message) (due : Option ℕ) (s : Turn P) → Costs 2 s (sends_message by q len x due s)
  message_cost by q len x due s =
      if_costs 2 (nat_lt (queue_at s.machine q).longest len) s _ _ (λ e. (let g = returned by res.Msgsize 0 s in omega arith)) (λ e. send_to_cost (best_waiter s.machine (waits_to_receive q)) by q x due s)

  receive_cost : (n : Option ℕ) (by : Caller) (q : ℕ) (due : Option ℕ) (s : Turn P) → Costs 2 s (takes_message_or_blocks n by q due s)
  receive_cost (Some n) by q due s =
      let out = changes_queue q (without_message n) s in
      let back = returns by res.Zero (value_at (queue_at s.machine q).messages n) out in
      let a = returned by res.Zero (value_at (queue_at s.machine q).messages n) out in let b = over_cost (best_waiter s.machine (waits_to_send q)) q back in omega arith
  receive_cost None by q due s = nonblock_cost by q (for_message q) due s

  ask_cost : (by : Caller) (q : ℕ) (r : Registration) (s : Turn P) → Costs 2 s (asks_notification by q r s)
  ask_cost by q r s = if_costs 2 (is_notifying s.machine q) s _ _ (λ e. (let g = returned by res.Busy 0 s in omega arith)) (λ e. (let g = returned by res.Zero 0 s in omega arith))

  -- ---- threads

  dead_of : (status : Status) (kind : FrameKind) → is_dormant status ≡ true → one_if (is_live status && is_signal kind) ≡ 0
  dead_of (dormant at) kind e = refl
  dead_of runnable kind e = absurd (grind arith)
  dead_of (blocked w) kind e = absurd (grind arith)
  dead_of ended kind e = absurd (grind arith)

  pub start_cost : (t mask : ℕ) (s : Turn P) → is_dormant (thread_at s.machine t).status ≡ true → Costs 0 s (starts bodies t mask s)
  start_cost t mask s e =
      let none = dead_of (thread_at s.machine t).status (top_kind (thread_at s.machine t).frames) e in
      let a = change 0 t (started bodies t mask s.machine.now) s (omega arith) in
      let up = tells (event.Start t) (moves t (changes t (started bodies t mask s.machine.now) s)) in
      let b = activated t (at_once (thread_at up.machine t).server) up in omega arith

  create_cost : (by : Caller) (u : ℕ) (s : Turn P) → Costs 2 s (creates bodies by u s)
  create_cost by u s =
      if_costs 2 (is_dormant (thread_at s.machine u).status) s _ _
      (λ e. (let g = returned by res.Zero 0 s in
      let h = start_cost u (inherited_mask (thread_at s.machine by.thread)) (returns by res.Zero 0 s) (ap is_dormant (answered_status by res.Zero 0 s u) ∙ e) in omega arith))
      (λ e. (let g = returned by res.Again 0 s in omega arith))

  joiner_cost : (t : ℕ) (j : Joiner) (s : Turn P) → Costs 0 s (changes t (with_joiner j) s)
  joiner_cost t j s = same t (with_joiner j) s (λ th. refl) (λ th. refl)

  join_cost : (by : Caller) (u : ℕ) (s : Turn P) → Costs 2 s (joins by u s)
  join_cost by u s =
      if_costs 2 (u == by.thread) s _ _ (λ e. (let g = returned by res.Deadlk 0 s in omega arith))
      (λ e. if_costs 2 (is_dormant (thread_at s.machine u).status) s _ _ (λ e. (let g = returned by res.Srch 0 s in omega arith))
      (λ e. if_costs 2 (not (is_nobody (thread_at s.machine u).joiner)) s _ _ (λ e. (let g = returned by res.Inval 0 s in omega arith))
      (λ e. if_costs 2 (lives s.machine u) s _ _
      (λ e. (let a = joiner_cost u (waits_to_join by.thread) s in
      let b = doze_cost (record { wait = for_end u; serial = 0; due = None; call = by.call }) by.thread (changes u (with_joiner (waits_to_join by.thread)) s) refl in omega arith))
      (λ e. (let a = joiner_cost u has_joined s in let b = returned by res.Zero (thread_at s.machine u).exit_value (changes u (with_joiner has_joined) s) in omega arith)))))

  leave_cost : (wait : Wait) (u : ℕ) (s : Turn P) → Costs 0 s (leaves wait u s)
  leave_cost (for_mutex k) u s = omega arith
  leave_cost (for_mutex_again k how) u s = omega arith
  leave_cost (for_condition c k) u s = contend_cost u cond_end.Cancelled s
  leave_cost (for_end t) u s = let a = joiner_cost t nobody s in let b = cancelled_cost u (changes t (with_joiner nobody) s) in omega arith
  leave_cost _ u s = cancelled_cost u s

  leave_wait_cost : (o : Option Waiting) (u : ℕ) (s : Turn P) → Costs 0 s (leaves_wait o u s)
  leave_wait_cost None u s = omega arith
  leave_wait_cost (Some w) u s = leave_cost w.wait u s

  cancel_cost : (by : Caller) (u : ℕ) (s : Turn P) → Costs 2 s (cancels by u s)
  cancel_cost by u s =
      let back = returns by res.Zero 0 s in let asked = changes u requested back in
      if_costs 2 (lives s.machine u) s _ _
      (λ e. (let a = returned by res.Zero 0 s in let b = same u requested back (λ th. refl) (λ th. refl) in
      let c = if_costs 0 (request_acts (thread_at asked.machine u)) asked (leaves_wait (waiting_of asked.machine u) u asked) asked (λ e. leave_wait_cost (waiting_of asked.machine u) u asked) (λ e. omega arith) in omega arith))
      (λ e. (let g = returned by res.Srch 0 s in omega arith))

  price_cost : (by : Caller) (u p : ℕ) (s : Turn P) → Costs 2 s (sets_priority by u p s)
  price_cost by u p s =
      if_costs 2 (lives s.machine u) s _ _
      (λ e. if_costs 2 (takes_priority (thread_at s.machine u).policy p) s _ _
      (λ e. (let a = same u (with_priority p) s (λ th. refl) (λ th. refl) in let b = returned by res.Zero 0 (changes u (with_priority p) s) in omega arith)) (λ e. (let g = returned by res.Inval 0 s in omega arith)))
      (λ e. (let g = returned by res.Srch 0 s in omega arith))

  policy_cost : (by : Caller) (u : ℕ) (new : Policy) (s : Turn P) → Costs 2 s (sets_policy by u new s)
  policy_cost by u new s =
      let back = returns by res.Zero 0 s in let renewed = changes u (with_policy new s.machine.now) back in
      let live = activates_if (can_run s.machine u) u renewed in
      if_costs 2 (lives s.machine u) s _ _
      (λ e. (let a = returned by res.Zero 0 s in let b = same u (with_policy new s.machine.now) back (λ th. refl) (λ th. refl) in
      let c = activated_if (can_run s.machine u) u renewed in let d = moved (not (owns_boosting live.machine u)) u live in omega arith))
      (λ e. (let g = returned by res.Srch 0 s in omega arith))

  -- a new top frame that catches no signal
  cleanup_cost : (b : Bool) (us : List ℕ) (t : ℕ) (s : Turn P) → Costs 1 s (changes t (runs_cleanup_if b bodies us) s)
  cleanup_cost false us t s = let k = same t (λ th. th) s (λ th. refl) (λ th. refl) in omega arith
  cleanup_cost true [] t s = let k = same t (λ th. th) s (λ th. refl) (λ th. refl) in omega arith
  cleanup_cost true (u ∷ us) t s =
      let small = one_small (is_live (thread_at s.machine t).status && is_signal (top_kind (thread_at s.machine t).frames)) in
      change 1 t (on_top (new_frame bodies frame.Cleanup (body_of.Cleanup u) 0)) s (omega arith)

  mask_cost : (by : Caller) (f : ℕ → ℕ) (s : Turn P) → Costs 2 s (sets_mask by f s)
  mask_cost by f s =
      let a = same by.thread (λ th. record th { mask = f th.mask }) s (λ th. refl) (λ th. refl) in let b = returned by res.Zero 0 (changes by.thread (λ th. record th { mask = f th.mask }) s) in omega arith

  pops_cost : (by : Caller) (b : Bool) (us : List ℕ) (s : Turn P) → Costs 2 s (changes by.thread (runs_cleanup_if b bodies us) (returns by res.Zero 0 (changes by.thread without_cleanup s)))
  pops_cost by b us s =
      let out = changes by.thread without_cleanup s in let back = returns by res.Zero 0 out in
      let a = same by.thread without_cleanup s (λ th. refl) (λ th. refl) in let c = returned by res.Zero 0 out in let d = cleanup_cost b us by.thread back in omega arith

  pushes_cost : (by : Caller) (u : ℕ) (s : Turn P) → Costs 2 s (returns by res.Zero 0 (changes by.thread (λ th. record th { cleanups = u ∷ th.cleanups }) s))
  pushes_cost by u s =
      let a = same by.thread (λ th. record th { cleanups = u ∷ th.cleanups }) s (λ th. refl) (λ th. refl) in
      let b = returned by res.Zero 0 (changes by.thread (λ th. record th { cleanups = u ∷ th.cleanups }) s) in omega arith

  enabled_cost : (by : Caller) (b : Bool) (s : Turn P) → Costs 2 s (returns by res.Zero 0 (changes by.thread (λ th. record th { is_enabled = b }) s))
  enabled_cost by b s =
      let a = same by.thread (λ th. record th { is_enabled = b }) s (λ th. refl) (λ th. refl) in let c = returned by res.Zero 0 (changes by.thread (λ th. record th { is_enabled = b }) s) in omega arith

  reply_cost : (by : Caller) (r : Res) (v : ℕ) (s : Turn P) → Costs 2 s (returns by r v s)
  reply_cost by r v s = let h = returned by r v s in omega arith

  ending_cost : (t v : ℕ) (s : Turn P) → Costs 2 s (changes t (ending_with v) s)
  ending_cost t v s = let h = same t (ending_with v) s (λ th. refl) (λ th. refl) in omega arith

  signalled_cost : (by : Caller) (n c : ℕ) (s : Turn P) → Costs 2 s (signals_best_times n c (returns by res.Zero 0 s))
  signalled_cost by n c s = let a = returned by res.Zero 0 s in let b = signals_cost n c (returns by res.Zero 0 s) in omega arith

  -- ---- the table

  call_cost : (by : Caller) (c : Call) (s : Turn P) → Each IsPlain s.machine.pending → ((n : ℕ) → pends n s.machine.pending ≤ 1) → Costs 2 s (call_effect bodies by c s)
  call_cost by call.Yield s plain once = reply_cost by res.Zero 0 (moves by.thread s)
  call_cost by (call.Create u) s plain once = create_cost by u s
  call_cost by (call.Join u) s plain once = join_cost by u s
  call_cost by (call.Cancel u) s plain once = cancel_cost by u s
  call_cost by call.Testcancel s plain once = reply_cost by res.Zero 0 s
  call_cost by (call.Setcancel on) s plain once = enabled_cost by on s
  call_cost by (call.Push u) s plain once = pushes_cost by u s
  call_cost by (call.Pop b) s plain once = pops_cost by b (thread_at s.machine by.thread).cleanups s
  call_cost by (call.Exit v) s plain once = ending_cost by.thread (number_of s.machine by.thread v) s
  call_cost by (call.Setprio u p) s plain once = price_cost by u p s
  call_cost by (call.Setsched u policy) s plain once = policy_cost by u policy s
  call_cost by (call.Lock k) s plain once = lock_cost (lock_answer s.machine by.thread k None) by k None s
  call_cost by (call.Timedlock k at) s plain once =
      let due = Some (moment_of s.machine by.thread at) in lock_cost (lock_answer s.machine by.thread k due) by k due s
  call_cost by (call.Trylock k) s plain once = lock_cost (trylock_answer s.machine by.thread k) by k None s
  call_cost by (call.Unlock k) s plain once = unlock_cost by k s
  call_cost by (call.Wait c k) s plain once = condition_cost by c k None s
  call_cost by (call.Timedwait c k at) s plain once = condition_cost by c k (Some (moment_of s.machine by.thread at)) s
  call_cost by (call.Signal c) s plain once = signalled_cost by 1 c s
  call_cost by (call.Broadcast c) s plain once = signalled_cost by (length (waiters s.machine (waits_on_condition c))) c s
  call_cost by (call.SemWait k) s plain once = semaphore_cost by k None s
  call_cost by (call.SemTimedwait k at) s plain once = semaphore_cost by k (Some (moment_of s.machine by.thread at)) s
  call_cost by (call.SemTrywait k) s plain once = try_cost by k s
  call_cost by (call.SemGetvalue k) s plain once = reply_cost by res.Zero (semaphore_at s.machine k) s
  call_cost by (call.SemPost k) s plain once = post_cost (best_waiter s.machine (waits_on_semaphore k)) by k s
  call_cost by (call.Nanosleep n) s plain once = nap_cost by (s.machine.now + n) s
  call_cost by (call.ClockNanosleep at) s plain once = nap_cost by (moment_of s.machine by.thread at) s
  call_cost by call.Gettime s plain once = reply_cost by res.Zero s.machine.now s
  call_cost by call.RealGettime s plain once = reply_cost by res.Zero (real_time s.machine) s
  call_cost by (call.ClockSettime at) s plain once = let h = clock_cost by (number_of s.machine by.thread at) s in omega arith
  call_cost by (call.TimerSettimeRel k n interval) s plain once = reply_cost by res.Zero 0 (changes_timer k (armed (first_expiry n (s.machine.now + n)) false interval) s)
  call_cost by (call.TimerSettimeAbs k at interval) s plain once =
      reply_cost by res.Zero 0 (changes_timer k (armed (first_expiry (number_of s.machine by.thread at) (timer_moment s.machine k (number_of s.machine by.thread at))) (timer_at s.machine k).is_real interval) s)
  call_cost by (call.TimerGettime k) s plain once = reply_cost by res.Zero (ticks_to (timer_at s.machine k).due s.machine.now) s
  call_cost by (call.TimerGetoverrun k) s plain once = reply_cost by res.Zero (timer_at s.machine k).overrun s
  call_cost by (call.Kill signal) s plain once = send_cost by (record_of_kill signal None) s
  call_cost by (call.Tkill u signal) s plain once = if_costs 2 (lives s.machine u) s _ _ (λ e. send_cost by (record_of_kill signal (Some u)) s) (λ e. reply_cost by res.Srch 0 s)
  call_cost by (call.Sigqueue signal v) s plain once = send_cost by (record_of_sigqueue signal (number_of s.machine by.thread v)) s
  call_cost by (call.SigmaskBlock set) s plain once = mask_cost by (with_signals set) s
  call_cost by (call.SigmaskUnblock set) s plain once = mask_cost by (without_signals set) s
  call_cost by (call.SigmaskSet set) s plain once = mask_cost by (λ (mask : ℕ). set) s
  call_cost by (call.Sigwaitinfo set) s plain once = accept_cost (selected s.machine (λ (r : SignalRecord). has_signal set r.signal && may_go_to by.thread r.target)) None by set s plain once
  call_cost by (call.Sigtimedwait set n) s plain once = accept_cost (selected s.machine (λ (r : SignalRecord). has_signal set r.signal && may_go_to by.thread r.target)) (Some n) by set s plain once
  call_cost by (call.MqSend q len p v) s plain once = message_cost by q len (record { priority = p; value = number_of s.machine by.thread v }) None s
  call_cost by (call.MqTimedsend q len p v at) s plain once = message_cost by q len (record { priority = p; value = number_of s.machine by.thread v }) (Some (moment_of s.machine by.thread at)) s
  call_cost by (call.MqReceive q) s plain once = receive_cost (next_message (queue_at s.machine q).messages) by q None s
  call_cost by (call.MqTimedreceive q at) s plain once = receive_cost (next_message (queue_at s.machine q).messages) by q (Some (moment_of s.machine by.thread at)) s
  call_cost by (call.MqNotify q signal v) s plain once = ask_cost by q (record { signal = signal; value = number_of s.machine by.thread v }) s

  made_cost : (by : Caller) (s : Turn P) → Each IsPlain s.machine.pending → ((n : ℕ) → pends n s.machine.pending ≤ 1) → Costs 2 s (makes_call bodies by s)
  made_cost by s plain once =
      if_costs 2 (is_cancellation_point by.call && request_acts (thread_at s.machine by.thread)) s _ _ (λ e. ending_cost by.thread cancelled_value (tells (event.Cancel by.thread) s)) (λ e. call_cost by by.call s plain once)

  -- ---- ends

  joined_cost : (j : Joiner) (t : ℕ) (s : Turn P) → Costs 0 s (wakes_joiner j t s)
  joined_cost nobody t s = omega arith
  joined_cost has_joined t s = omega arith
  joined_cost (waits_to_join u) t s = let a = joiner_cost t has_joined s in let b = wakes_cost u res.Zero (thread_at s.machine t).exit_value (changes t (with_joiner has_joined) s) in omega arith

  gone_cost : (t : ℕ) (s : Turn P) → Each IsPlain s.machine.pending → Costs 2 s (ends t s)
  gone_cost t s plain =
      let small = one_small (is_live (thread_at s.machine t).status && is_signal (top_kind (thread_at s.machine t).frames)) in
      let a = change 1 t without_life s (omega arith) in
      let b = sources_untargeted t s.machine.pending plain in
      let c = joined_cost (thread_at s.machine t).joiner t (changes_pending (without_target t) (tells (event.Exit t) (changes t without_life s))) in omega arith

  popped_cost : (t : ℕ) (s : Turn P) → Costs 2 s (changes t without_top s)
  popped_cost t s =
      let small = one_small (is_live (thread_at s.machine t).status && is_signal (top_kind (thread_at s.machine t).frames)) in let a = change 1 t without_top s (omega arith) in omega arith

  finish_cost : (kind : FrameKind) (t : ℕ) (s : Turn P) → Each IsPlain s.machine.pending → Costs 2 s (ends_frame kind t s)
  finish_cost frame.Main t s plain = gone_cost t s plain
  finish_cost frame.Cleanup t s plain = popped_cost t s
  finish_cost frame.Signal t s plain = popped_cost t s

  -- a unit costs two at most
  pub unit_cost : (t : ℕ) (u : Unit) (s : Turn P) → Each IsPlain s.machine.pending → ((n : ℕ) → pends n s.machine.pending ≤ 1) → Costs 2 s (unit_effect bodies t u s)
  unit_cost t (unit.Run n) s plain once = omega arith
  unit_cost t (unit.Make c) s plain once = made_cost (record { thread = t; call = c }) s plain once
  unit_cost t unit.Jump s plain once = omega arith
  unit_cost t unit.Finish s plain once = finish_cost (top_kind (thread_at s.machine t).frames) t s plain

  -- ---- items cost nothing

  refill_cost : (t : ℕ) (o : Option ServerState) (s : Turn P) → Costs 0 s (refills_server t o s)
  refill_cost t None s = omega arith
  refill_cost t (Some server) s =
      let a = same t (with_server refill) s (λ th. refl) (λ th. refl) in
      let fed = tells (event.Refill t (amount_of (oldest_pending server)) (refill server).capacity) (changes t (with_server refill) s) in
      let b = activated_if (regains_high server && can_run s.machine t) t fed in omega arith

  time_cost : (wait : Wait) (t : ℕ) (s : Turn P) → Costs 0 s (wait_times_out wait t s)
  time_cost (for_condition c k) t s = contend_cost t cond_end.Timedout s
  time_cost for_time t s = wakes_cost t res.Zero 0 s
  time_cost (for_signal set) t s = wakes_cost t res.Again 0 s
  time_cost _ t s = wakes_cost t res.Timedout 0 s

  timeout_cost : (o : Option Waiting) (t : ℕ) (s : Turn P) → Costs 0 s (times_out o t s)
  timeout_cost None t s = omega arith
  timeout_cost (Some w) t s = time_cost w.wait t s

  expiry_cost : (k : ℕ) (s : Turn P) → Costs 0 s (expires k s)
  expiry_cost k s =
      let sent = if_costs 0 (is_pending_from k s.machine) s (changes_timer k overrun_once_more s) (generates (record_of_timer k (timer_at s.machine k)) s) (λ e. omega arith)
      (λ e. generate_cost 0 (record_of_timer k (timer_at s.machine k)) s (omega arith)) in omega arith

  start_dormant : (t : ℕ) (s : Turn P) → has_come (start_due s.machine t) s.machine.now ≡ true → is_dormant (thread_at s.machine t).status ≡ true
  start_dormant t s e = by_status (thread_at s.machine t).status e
    where
      by_status : (status : Status) → has_come (start_in status) s.machine.now ≡ true → is_dormant status ≡ true
      by_status (dormant at) e = refl
      by_status runnable e = absurd (grind arith)
      by_status (blocked w) e = absurd (grind arith)
      by_status ended e = absurd (grind arith)

  pub item_cost : (i : Item) (s : Turn P) → is_due s.machine i ≡ true → Costs 0 s (handles bodies i s)
  item_cost (item.Refill t) s e = refill_cost t (thread_at s.machine t).server s
  item_cost (item.Start t) s e = start_cost t 0 s (start_dormant t s e)
  item_cost (item.Timeout t) s e = timeout_cost (waiting_of s.machine t) t s
  item_cost (item.Timer k) s e = expiry_cost k s

  -- ---- the tick's end

  plan_cost : (t : ℕ) (o : Option ServerState) (s : Turn P) → Costs 0 s (plans_server t o s)
  plan_cost t None s = omega arith
  plan_cost t (Some server) s = same t (with_server plan) s (λ th. refl) (λ th. refl)

  pub end_cost : (e : TickEnd) (t : ℕ) (s : Turn P) → Costs 0 s (ends_tick e t s)
  end_cost planning t s = plan_cost t (thread_at s.machine t).server s
  end_cost exhausting t s =
      let told = tells (event.Exhaust t) s in let done = plans_server t (thread_at s.machine t).server told in
      let a = plan_cost t (thread_at s.machine t).server told in let b = moved (not (owns_boosting done.machine t)) t done in omega arith
  end_cost slicing t s = let a = same t without_slice s (λ th. refl) (λ th. refl) in let b = moved (can_run s.machine t) t (changes t without_slice s) in omega arith
  end_cost nothing t s = omega arith
