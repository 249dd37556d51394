-- What calls keep small.
use Rattle.std.proofs.Common.{Bool, List, None, Option, Some, [], ap, arith, false, refl, suc, true, zero, ℕ, ◌+◌, ◌^◌, ◌-◌, ◌<◌, ◌≤◌, ◌∷◌, ◌++◌, ◌≡◌}
use Rattle.std.specs.Prelude.{filter, nat_lt, not, pred, ◌==◌, ◌&&◌, if◌then◌else◌}
use mathlib.Core.Path.{subst}
use Rattle.words_numbers.specs.Signals.{has_signal}
use Rattle.words_numbers.specs.declared.res.Res.{Res}
use Rattle.words_numbers.specs.declared.res.Res.TheVariants as res
use Rattle.words_script.specs.declared.call.Call.{Call}
use Rattle.words_script.specs.declared.call.Call.TheVariants as call
use Rattle.words_script.specs.declared.policy.Policy.{Policy}
use Rattle.rules_bodies.specs.declared.unit.Unit.{Unit}
use Rattle.rules_bodies.specs.declared.unit.Unit.TheVariants as unit
use Rattle.words_trace.specs.declared.event.Event.TheVariants as event
use Rattle.rules_machine.specs.declared.frame.FrameKind.{FrameKind}
use Rattle.rules_machine.specs.declared.frame.FrameKind.TheVariants as frame
use Rattle.rules_machine.specs.declared.thread.CondEnd.TheVariants as cond_end
use Rattle.rules_machine.specs.Bodies.{Bodies}
use Rattle.rules_machine.specs.State.{Clock, Joiner, Message, Registration, SignalRecord, Thread, Wait, Waiting, for_condition, for_end, for_message, for_mutex, for_mutex_again, for_room, for_semaphore, for_signal, for_time, has_joined, nobody, waits_to_join}
use Rattle.rules_machine.specs.Threads.{action_of, can_run, is_dormant, lives, moment_of, number_of, queue_at, real_time, semaphore_at, thread_at, timer_at, top_kind, waiting_of}
use Rattle.rules_machine.specs.Waiters.{Waiter, best_waiter, is_served_before, waiters}
use Rattle.rules_machine.specs.Turns.{Caller, Turn, changes, changes_pending, changes_queue, changes_semaphore, changes_timer, has_passed, moves, returns, tells}
use Rattle.rules_machine.specs.Servers.{activates_if}
use Rattle.rules_machine.specs.Waking.{cancelled_value, wakes}
use Rattle.rules_machine.specs.Mutexes.{trylock_answer}
use Rattle.rules_machine.specs.Semaphores.{posts, semaphore_limit, tries_semaphore, waits_on_semaphore, waits_semaphore, wakes_waiter_or_raises_value}
use Rattle.rules_machine.specs.Signals.{acceptor, accepts, becomes_pending, blocks_for_signal, delivers, generates, has_no_room, is_accepted_or_pends, is_ignore, is_selected_before, may_go_to, record_of_kill, record_of_sigqueue, selected, sends_signal, sets_mask, takes_signal_or_waits, tells_overrun, waits_signal, with_overrun_told, with_signals, without_record, without_signals}
use Rattle.rules_machine.specs.Timers.{armed, armed_again, expires, first_expiry, is_pending_from, next_expiry, overrun_once_more, record_of_timer, signals_expiry, sleeps_until, ticks_to, timer_moment}
use Rattle.rules_machine.specs.Queues.{asks_notification, blocks_unless_nonblock, enters, fired_by_message, has_room, is_notifying, message_of, next_message, notifies, reaches_receiver_or_queue, record_of_notification, registered, sends_message, takes_message_or_blocks, takes_over, value_at, waits_to_receive, waits_to_send, with_message, without_message}
use Rattle.rules_machine.specs.Lives.{creates, ends, ends_frame, inherited_mask, is_nobody, joins, wakes_joiner, with_joiner, without_life, without_target, without_top}
use Rattle.rules_machine.specs.Clock.{waits_on_real}
use Rattle.rules_machine.specs.Cancellation.{cancels, is_cancellation_point, is_cancelled, leaves, leaves_wait, pops_cleanup, pushes_cleanup, request_acts, requested, runs_cleanup_if, sets_cancelability, without_cleanup}
use Rattle.rules_machine.specs.Scheduling.{sets_policy, sets_priority, takes_priority, with_policy, with_priority}
use Rattle.rules_machine.specs.Calls.{call_effect, makes_call, unit_effect}
use Rattle.rules_flat_code.specs.KnownCalls.{Objects}
use Rattle.laws_numbers.specs.Numbers.{DueSmall, FrameSmall, IsNumber, JoinerWithin, MessageSmall, PolicySmall, RecordSmall, RegistrationSmall, ThreadSmall, ReadingSmall, TimeSmall, TurnSmall, WaitSmall}
use Rattle.laws_numbers.specs.Scripts.{CallSmall, UnitMade}
use Rattle.laws_numbers.proofs.Lists.{Waits, best_within, each_at, each_kept, each_last, first_small, waiters_within}
use Rattle.laws_numbers.proofs.Turns.{blocks_small, blocks_unordered_small, changes_small, expiry_at_small, expiry_read_small, if_small, moment_small, moves_unless_boosted_small, no_time, not_on_real, now_low, number_of_small, number_small, pending_small, plain_time, queue_small, real_small, returns_small, semaphore_small, sum_small, tells_small, timer_small, wait_of_small, within}
use Rattle.laws_numbers.proofs.Waking.{trylock_may, activates_if_small, best_there, blocks_unless_late_small, broadcasts_small, contends_small, ending_small, locks_on_small, locks_small, server_of_has, signals_small, starts_small, unlocks_small, waits_small, wakes_cancelled_small, wakes_small, zero_small, cancelled_small}
use Rattle.laws_numbers.proofs.Clock.{sets_real_clock_small}
use Rattle.laws_numbers.proofs.Limits.{each_dropped, each_taken, expiry_small, next_small, no_message, once_more, one_less, one_more, overrun_value, priced_has, priced_policy, semaphore_value, signal_value, ticks_to_small, wait_message}

-- ---- numbers
module _ {P : Type 0} (count top : ℕ) (low : top ≤ 10 ^ 18) where
  abbrev Small : Turn P → Type 0
  Small s = TurnSmall count top s

  back : (by : Caller) (r : Res) (s : Turn P) → by.thread < count → Small s → Small (returns by r 0 s)
  back by r s lt h = returns_small count top low by r 0 s lt zero_small h

  -- a thread changes in none of its numbers
  pub plain_small : (t : ℕ) (f : Thread P → Thread P) (s : Turn P) → ((th : Thread P) → ThreadSmall count s.machine.clock th → ThreadSmall count s.machine.clock (f th)) → Small s → Small (changes t f s)
  plain_small t f s new h = changes_small count top low t f s (new (thread_at s.machine t)) h

  -- ---- semaphores

  waits_semaphore_small : (by : Caller) (k : ℕ) (due : Option ℕ) (s : Turn P) → by.thread < count → TimeSmall s.machine.clock by.call due → Small s → Small (waits_semaphore by k due s)
  waits_semaphore_small by k due s lt d h =
      if_small count top low (nat_lt 0 (semaphore_at s.machine k)) _ _
      (back by res.Zero (changes_semaphore k pred s) lt (semaphore_small count top low k pred s (one_less (semaphore_at s.machine k) (h.of_semaphores k)) h))
      (blocks_unless_late_small count top low by (for_semaphore k) due s lt tt d h)

  tries_semaphore_small : (by : Caller) (k : ℕ) (s : Turn P) → by.thread < count → Small s → Small (tries_semaphore by k s)
  tries_semaphore_small by k s lt h =
      if_small count top low (semaphore_at s.machine k == 0) _ _ (back by res.Again s lt h)
      (back by res.Zero (changes_semaphore k pred s) lt (semaphore_small count top low k pred s (one_less (semaphore_at s.machine k) (h.of_semaphores k)) h))

  posts_small : (by : Caller) (k : ℕ) (s : Turn P) → by.thread < count → Small s → Small (posts by k s)
  posts_small by k s lt h = to_best (best_waiter s.machine (waits_on_semaphore k)) refl
    where
      raised : (b : Bool) → (semaphore_at s.machine k == semaphore_limit) ≡ b → Small (if b then returns by res.Overflow 0 s else returns by res.Zero 0 (changes_semaphore k suc s))
      raised true e = back by res.Overflow s lt h
      raised false e = back by res.Zero (changes_semaphore k suc s) lt (semaphore_small count top low k suc s (one_more (semaphore_at s.machine k) e (h.of_semaphores k)) h)

      to_best : (best : Option Waiter) → best_waiter s.machine (waits_on_semaphore k) ≡ best → Small (wakes_waiter_or_raises_value best by k s)
      to_best None e = raised (semaphore_at s.machine k == semaphore_limit) refl
      to_best (Some w) e = wakes_small count top low w.thread res.Zero 0 (returns by res.Zero 0 s) (best_there count top low (waits_on_semaphore k) w s e h) zero_small (back by res.Zero s lt h)

  -- ---- signals

  tells_overrun_small : (k : Option ℕ) (s : Turn P) → Small s → Small (tells_overrun k s)
  tells_overrun_small None s h = h
  tells_overrun_small (Some k) s h =
      timer_small count top low k with_overrun_told s (λ x. record { signal = x.signal; value = x.value; due = x.due; reading = x.reading; interval = x.interval; extra = omega arith; overrun = x.extra }) h

  pub delivers_small : (t : ℕ) (r : SignalRecord) (s : Turn P) → t < count → RecordSmall r → Small s → Small (delivers t r s)
  delivers_small t r s lt k h =
      tells_overrun_small r.timer (tells (event.Deliver t r.signal r.code r.value) s) (tells_small count top low (event.Deliver t r.signal r.code r.value) s (lt, k.signal, k.value) h)

  pub out_small : (r : SignalRecord) (s : Turn P) → Small s → Small (changes_pending (without_record r) s)
  out_small r s h = pending_small count top low (without_record r) s (each_kept RecordSmall (λ (other : SignalRecord). not (other.serial == r.serial)) s.machine.pending) h

  pend_small : (r : SignalRecord) (s : Turn P) → RecordSmall r → Small s → Small (becomes_pending r s)
  pend_small r s k h =
      let add : List SignalRecord → List SignalRecord = λ (pending : List SignalRecord). pending ++ record r { serial = s.machine.next_serial } ∷ [] in
      pending_small count top low add s (λ each. each_last RecordSmall s.machine.pending (record r { serial = s.machine.next_serial }) each (record { signal = k.signal; value = k.value })) h

  pub generates_small : (r : SignalRecord) (s : Turn P) → RecordSmall r → Small s → Small (generates r s)
  generates_small r s k h = to_best (acceptor s.machine r) refl
    where
      to_best : (best : Option Waiter) → acceptor s.machine r ≡ best → Small (is_accepted_or_pends best r s)
      to_best None e = if_small count top low (is_ignore (action_of s.machine r.signal)) _ _ h (pend_small r s k h)
      to_best (Some w) e =
          let passes = λ (w : Waiter). may_go_to w.thread r.target in
          let there = first_small (Waits s.machine (accepts r)) is_served_before (filter passes (waiters s.machine (accepts r))) w
          (each_kept (Waits s.machine (accepts r)) passes (waiters s.machine (accepts r)) (waiters_within s.machine (accepts r))) e in
          let lt = within count top low w.thread s there.within h in
          wakes_small count top low w.thread res.Zero r.signal (delivers w.thread r s) lt (signal_value r.signal k.signal) (delivers_small w.thread r s lt k h)

  sends_signal_small : (by : Caller) (r : SignalRecord) (s : Turn P) → by.thread < count → RecordSmall r → Small s → Small (sends_signal by r s)
  sends_signal_small by r s lt k h =
      if_small count top low (has_no_room s.machine r) _ _ (back by res.Again s lt h) (generates_small r (returns by res.Zero 0 s) k (back by res.Zero s lt h))

  sets_mask_small : (by : Caller) (change : ℕ → ℕ) (s : Turn P) → by.thread < count → Small s → Small (sets_mask by change s)
  sets_mask_small by change s lt h =
      let f : Thread P → Thread P = λ th. record th { mask = change th.mask } in
      back by res.Zero (changes by.thread f s) lt
      (plain_small by.thread f s (λ th k. record { status = k.status; policy = k.policy; server = k.server; frames = k.frames; exit_value = k.exit_value; joiner = k.joiner }) h)

  waits_ticks_small : (n : Option ℕ) (by : Caller) (set : ℕ) (s : Turn P) → by.thread < count → waits_on_real by.call ≡ false → ((k : ℕ) → n ≡ Some k → IsNumber k) → Small s → Small (blocks_for_signal n by set s)
  waits_ticks_small None by set s lt on k h = blocks_small count top low by (for_signal set) None s tt (no_time s.machine.clock by.call) h
  waits_ticks_small (Some zero) by set s lt on k h = back by res.Again s lt h
  waits_ticks_small (Some (suc n)) by set s lt on k h =
      blocks_small count top low by (for_signal set) (Some (s.machine.now + suc n)) s tt
      (plain_time s.machine.clock by.call (s.machine.now + suc n) on (sum_small s.machine.now (suc n) (now_low count top low s h) (k (suc n) refl))) h

  pub selected_small : (passes : SignalRecord → Bool) (r : SignalRecord) (s : Turn P) → selected s.machine passes ≡ Some r → Small s → RecordSmall r
  selected_small passes r s e h = first_small RecordSmall is_selected_before (filter passes s.machine.pending) r (each_kept RecordSmall passes s.machine.pending h.of_records) e

  waits_signal_small : (n : Option ℕ) (by : Caller) (set : ℕ) (s : Turn P) → by.thread < count → waits_on_real by.call ≡ false → ((k : ℕ) → n ≡ Some k → IsNumber k) → Small s → Small (waits_signal n by set s)
  waits_signal_small n by set s lt plain k h = on (selected s.machine (λ (r : SignalRecord). has_signal set r.signal && may_go_to by.thread r.target)) refl
    where
      on : (o : Option SignalRecord) → selected s.machine (λ (r : SignalRecord). has_signal set r.signal && may_go_to by.thread r.target) ≡ o → Small (takes_signal_or_waits o n by set s)
      on None e = waits_ticks_small n by set s lt plain k h
      on (Some r) e =
          let small = selected_small (λ (r : SignalRecord). has_signal set r.signal && may_go_to by.thread r.target) r s e h in
          let out = changes_pending (without_record r) s in
          returns_small count top low by res.Zero r.signal (delivers by.thread r out) lt (signal_value r.signal small.signal) (delivers_small by.thread r out lt small (out_small r s h))

  -- ---- sleeps and timers

  sleeps_until_small : (by : Caller) (at : ℕ) (s : Turn P) → by.thread < count → TimeSmall s.machine.clock by.call (Some at) → Small s → Small (sleeps_until by at s)
  sleeps_until_small by at s lt a h = if_small count top low (has_passed at s.machine) _ _ (back by res.Zero s lt h) (blocks_unordered_small count top low by for_time (Some at) s tt a h)

  sets_timer_small : (by : Caller) (k : ℕ) (due : Option ℕ) (reading : Bool) (interval : ℕ) (s : Turn P) → by.thread < count → DueSmall due → ReadingSmall s.machine.clock due reading → IsNumber interval → Small s →
      Small (returns by res.Zero 0 (changes_timer k (armed due reading interval) s))
  sets_timer_small by k due reading interval s lt d r i h =
      back by res.Zero (changes_timer k (armed due reading interval) s) lt
      (timer_small count top low k (armed due reading interval) s (λ x. record { signal = x.signal; value = x.value; due = d; reading = r; interval = i; extra = x.extra; overrun = x.overrun }) h)

  pub expires_small : (k : ℕ) (s : Turn P) → Small s → Small (expires k s)
  expires_small k s h =
      timer_small count top low k (armed_again s.machine.now) (signals_expiry k s)
      (λ x. record { signal = x.signal; value = x.value; due = next_small s.machine.now (timer_at (signals_expiry k s).machine k).interval (now_low count top low s h) x.interval; reading = not_on_real (signals_expiry k s).machine.clock (next_expiry s.machine.now (timer_at (signals_expiry k s).machine k).interval) false refl; interval = x.interval; extra = x.extra; overrun = x.overrun }) sent
    where
      sent : Small (signals_expiry k s)
      sent =
          if_small count top low (is_pending_from k s.machine) (changes_timer k overrun_once_more s) (generates (record_of_timer k (timer_at s.machine k)) s)
          (timer_small count top low k overrun_once_more s (λ x. record { signal = x.signal; value = x.value; due = x.due; reading = x.reading; interval = x.interval; extra = once_more (timer_at s.machine k).extra; overrun = x.overrun }) h)
          (let x = h.of_timers k in generates_small (record_of_timer k (timer_at s.machine k)) s (record { signal = x.signal; value = x.value }) h)

  -- ---- message queues

  registered_small : (q : ℕ) (o : Option Registration) (s : Turn P) → RegistrationSmall o → Small s → Small (changes_queue q (registered o) s)
  registered_small q o s k h = queue_small count top low q (registered o) s (λ x. record { depth = x.depth; longest = x.longest; messages = x.messages; registration = k }) h

  notifies_small : (o : Option Registration) (q : ℕ) (s : Turn P) → RegistrationSmall o → Small s → Small (notifies o q s)
  notifies_small None q s k h = h
  notifies_small (Some r) q s k h =
      generates_small (record_of_notification q r) (changes_queue q (registered None) s) (record { signal = k.0; value = k.1 }) (registered_small q None s tt h)

  fired_small : (q : ℕ) (s : Turn P) → Small s → RegistrationSmall (fired_by_message s.machine q)
  fired_small q s h = by _
    where
      by : (b : Bool) → RegistrationSmall (if b then (queue_at s.machine q).registration else None)
      by true = (h.of_queues q).registration
      by false = tt

  with_message_small : (q : ℕ) (x : Message) (s : Turn P) → MessageSmall x → Small s → Small (changes_queue q (with_message x) s)
  with_message_small q x s k h =
      queue_small count top low q (with_message x) s (λ y. record { depth = y.depth; longest = y.longest; messages = each_last MessageSmall (queue_at s.machine q).messages x y.messages k; registration = y.registration }) h

  enters_small : (q : ℕ) (x : Message) (told : Turn P → Turn P) (s : Turn P) → MessageSmall x → ((s : Turn P) → Small s → Small (told s)) → Small s → Small (enters q x told s)
  enters_small q x told s k keeps h =
      let there = changes_queue q (with_message x) s in
      notifies_small (fired_by_message s.machine q) q (told there) (fired_small q s h) (keeps there (with_message_small q x s k h))

  blocks_unless_nonblock_small : (by : Caller) (q : ℕ) (wait : Wait) (due : Option ℕ) (s : Turn P) → by.thread < count → WaitSmall wait → TimeSmall s.machine.clock by.call due → Small s → Small (blocks_unless_nonblock by q wait due s)
  blocks_unless_nonblock_small by q wait due s lt w d h =
      if_small count top low (queue_at s.machine q).is_nonblock _ _ (back by res.Again s lt h) (blocks_unless_late_small count top low by wait due s lt w d h)

  sends_message_small : (by : Caller) (q len : ℕ) (x : Message) (due : Option ℕ) (s : Turn P) → by.thread < count → MessageSmall x → TimeSmall s.machine.clock by.call due → Small s → Small (sends_message by q len x due s)
  sends_message_small by q len x due s lt k d h =
      if_small count top low (nat_lt (queue_at s.machine q).longest len) _ _ (back by res.Msgsize s lt h) (to_best (best_waiter s.machine (waits_to_receive q)) refl)
    where
      to_best : (best : Option Waiter) → best_waiter s.machine (waits_to_receive q) ≡ best → Small (reaches_receiver_or_queue best by q x due s)
      to_best None e =
          if_small count top low (has_room (queue_at s.machine q)) _ _ (enters_small q x (returns by res.Zero 0) s k (λ s h. back by res.Zero s lt h) h)
          (blocks_unless_nonblock_small by q (for_room q x) due s lt k d h)
      to_best (Some w) e = wakes_small count top low w.thread res.Zero x.value (returns by res.Zero 0 s) (best_there count top low (waits_to_receive q) w s e h) k.value (back by res.Zero s lt h)

  receives_on_small : (n : Option ℕ) (by : Caller) (q : ℕ) (due : Option ℕ) (s : Turn P) → by.thread < count → TimeSmall s.machine.clock by.call due → Small s → Small (takes_message_or_blocks n by q due s)
  receives_on_small None by q due s lt d h = blocks_unless_nonblock_small by q (for_message q) due s lt tt d h
  receives_on_small (Some n) by q due s lt d h = to_best (best_waiter s.machine (waits_to_send q)) refl
    where
      told : Small (returns by res.Zero (value_at (queue_at s.machine q).messages n) (changes_queue q (without_message n) s))
      told =
          returns_small count top low by res.Zero (value_at (queue_at s.machine q).messages n) (changes_queue q (without_message n) s) lt
          (each_at MessageSmall (queue_at s.machine q).messages n (record { priority = 0; value = 0 }) (h.of_queues q).messages no_message).value
          (queue_small count top low q (without_message n) s (λ x. record { depth = x.depth; longest = x.longest; messages = each_taken MessageSmall n (queue_at s.machine q).messages x.messages; registration = x.registration }) h)

      to_best : (best : Option Waiter) → best_waiter s.machine (waits_to_send q) ≡ best →
          Small (takes_over best q (returns by res.Zero (value_at (queue_at s.machine q).messages n) (changes_queue q (without_message n) s)))
      to_best None e = told
      to_best (Some w) e =
          let there = best_within s.machine (waits_to_send q) w e in
          let waiting = wait_of_small count top low w.thread w.waiting s there.waiting h in
          enters_small q (message_of w.waiting.wait) (wakes w.thread res.Zero 0) (returns by res.Zero (value_at (queue_at s.machine q).messages n) (changes_queue q (without_message n) s))
          (wait_message w.waiting.wait waiting.wait) (λ x y. wakes_small count top low w.thread res.Zero 0 x (within count top low w.thread s there.within h) zero_small y) told

  asks_small : (by : Caller) (q : ℕ) (r : Registration) (s : Turn P) → by.thread < count → RegistrationSmall (Some r) → Small s → Small (asks_notification by q r s)
  asks_small by q r s lt k h =
      if_small count top low (is_notifying s.machine q) _ _ (back by res.Busy s lt h) (back by res.Zero (changes_queue q (registered (Some r)) s) lt (registered_small q (Some r) s k h))

  -- ---- threads

  joiner_small : (t : ℕ) (j : Joiner) (s : Turn P) → JoinerWithin count j → Small s → Small (changes t (with_joiner j) s)
  joiner_small t j s k h = plain_small t (with_joiner j) s (λ th x. record { status = x.status; policy = x.policy; server = x.server; frames = x.frames; exit_value = x.exit_value; joiner = k }) h

  creates_small : (bodies : Bodies P) (by : Caller) (u : ℕ) (s : Turn P) → by.thread < count → u < count → Small s → Small (creates bodies by u s)
  creates_small bodies by u s lt less h =
      if_small count top low (is_dormant (thread_at s.machine u).status) _ _
      (starts_small count top low bodies u (inherited_mask (thread_at s.machine by.thread)) (returns by res.Zero 0 s) less (back by res.Zero s lt h)) (back by res.Again s lt h)

  joins_small : (by : Caller) (u : ℕ) (s : Turn P) → by.thread < count → Small s → Small (joins by u s)
  joins_small by u s lt h =
      if_small count top low (u == by.thread) _ _ (back by res.Deadlk s lt h)
      (if_small count top low (is_dormant (thread_at s.machine u).status) _ _ (back by res.Srch s lt h)
      (if_small count top low (not (is_nobody (thread_at s.machine u).joiner)) _ _ (back by res.Inval s lt h)
      (if_small count top low (lives s.machine u) _ _
      (blocks_unordered_small count top low by (for_end u) None (changes u (with_joiner (waits_to_join by.thread)) s) tt (no_time s.machine.clock by.call) (joiner_small u (waits_to_join by.thread) s lt h))
      (returns_small count top low by res.Zero (thread_at s.machine u).exit_value (changes u (with_joiner has_joined) s) lt (h.of_threads u).exit_value (joiner_small u has_joined s tt h)))))

  ends_small : (t : ℕ) (s : Turn P) → t < count → Small s → Small (ends t s)
  ends_small t s lt h = joined (thread_at s.machine t).joiner (h.of_threads t).joiner
    where
      gone : Small (changes_pending (without_target t) (tells (event.Exit t) (changes t without_life s)))
      gone =
          pending_small count top low (without_target t) (tells (event.Exit t) (changes t without_life s)) (each_kept RecordSmall _ s.machine.pending)
          (tells_small count top low (event.Exit t) (changes t without_life s) lt
          (plain_small t without_life s (λ th x. record { status = tt; policy = x.policy; server = tt; frames = tt; exit_value = x.exit_value; joiner = x.joiner }) h))

      joined : (j : Joiner) → JoinerWithin count j → Small (wakes_joiner j t (changes_pending (without_target t) (tells (event.Exit t) (changes t without_life s))))
      joined nobody k = gone
      joined has_joined k = gone
      joined (waits_to_join u) k =
          let x = changes_pending (without_target t) (tells (event.Exit t) (changes t without_life s)) in
          wakes_small count top low u res.Zero (thread_at x.machine t).exit_value (changes t (with_joiner has_joined) x) k (gone.of_threads t).exit_value (joiner_small t has_joined x tt gone)

  without_top_small : (t : ℕ) (s : Turn P) → Small s → Small (changes t without_top s)
  without_top_small t s h =
      plain_small t without_top s (λ th x. record { status = x.status; policy = x.policy; server = x.server; frames = each_dropped FrameSmall th.frames x.frames; exit_value = x.exit_value; joiner = x.joiner }) h

  finishes_small : (kind : FrameKind) (t : ℕ) (s : Turn P) → t < count → Small s → Small (ends_frame kind t s)
  finishes_small frame.Main t s lt h = ends_small t s lt h
  finishes_small frame.Cleanup t s lt h = without_top_small t s h
  finishes_small frame.Signal t s lt h = without_top_small t s h

  -- ---- cancellation

  leaves_small : (wait : Wait) (u : ℕ) (s : Turn P) → u < count → Small s → Small (leaves wait u s)
  leaves_small (for_mutex k) u s lt h = h
  leaves_small (for_mutex_again k how) u s lt h = h
  leaves_small (for_condition c k) u s lt h = contends_small count top low u cond_end.Cancelled s lt h
  leaves_small (for_end t) u s lt h = wakes_cancelled_small count top low u (changes t (with_joiner nobody) s) lt (joiner_small t nobody s tt h)
  leaves_small _ u s lt h = wakes_cancelled_small count top low u s lt h

  leaves_wait_small : (w : Option Waiting) (u : ℕ) (s : Turn P) → u < count → Small s → Small (leaves_wait w u s)
  leaves_wait_small None u s lt h = h
  leaves_wait_small (Some w) u s lt h = leaves_small w.wait u s lt h

  cancels_small : (by : Caller) (u : ℕ) (s : Turn P) → by.thread < count → u < count → Small s → Small (cancels by u s)
  cancels_small by u s lt less h =
      let asked = changes u requested (returns by res.Zero 0 s) in
      let k : Small asked = plain_small u requested (returns by res.Zero 0 s) (λ th x. record { status = x.status; policy = x.policy; server = x.server; frames = x.frames; exit_value = x.exit_value; joiner = x.joiner })
      (back by res.Zero s lt h) in
      if_small count top low (lives s.machine u) _ _ (if_small count top low (request_acts (thread_at asked.machine u)) _ _ (leaves_wait_small (waiting_of asked.machine u) u asked less k) k) (back by res.Srch s lt h)

  sets_cancelability_small : (by : Caller) (on : Bool) (s : Turn P) → by.thread < count → Small s → Small (sets_cancelability by on s)
  sets_cancelability_small by on s lt h =
      let f : Thread P → Thread P = λ th. record th { is_enabled = on } in
      back by res.Zero (changes by.thread f s) lt
      (plain_small by.thread f s (λ th x. record { status = x.status; policy = x.policy; server = x.server; frames = x.frames; exit_value = x.exit_value; joiner = x.joiner }) h)

  pushes_small : (by : Caller) (u : ℕ) (s : Turn P) → by.thread < count → Small s → Small (pushes_cleanup by u s)
  pushes_small by u s lt h =
      let f : Thread P → Thread P = λ th. record th { cleanups = u ∷ th.cleanups } in
      back by res.Zero (changes by.thread f s) lt
      (plain_small by.thread f s (λ th x. record { status = x.status; policy = x.policy; server = x.server; frames = x.frames; exit_value = x.exit_value; joiner = x.joiner }) h)

  runs_cleanup_small : (clock : Clock) (bodies : Bodies P) (runs : Bool) (cleanups : List ℕ) (th : Thread P) → ThreadSmall count clock th → ThreadSmall count clock (runs_cleanup_if runs bodies cleanups th)
  runs_cleanup_small clock bodies false cleanups th x = x
  runs_cleanup_small clock bodies true [] th x = x
  runs_cleanup_small clock bodies true (u ∷ us) th x = record {
    status = x.status;
    policy = x.policy;
    server = x.server;
    frames = (record { register = omega arith; value = zero_small; left = zero_small }, x.frames);
    exit_value = x.exit_value;
    joiner = x.joiner;
  }

  pops_small : (bodies : Bodies P) (by : Caller) (runs : Bool) (s : Turn P) → by.thread < count → Small s → Small (pops_cleanup bodies by runs s)
  pops_small bodies by runs s lt h =
      let popped = returns by res.Zero 0 (changes by.thread without_cleanup s) in
      plain_small by.thread (runs_cleanup_if runs bodies (thread_at s.machine by.thread).cleanups) popped (runs_cleanup_small s.machine.clock bodies runs (thread_at s.machine by.thread).cleanups)
      (back by res.Zero (changes by.thread without_cleanup s) lt
      (plain_small by.thread without_cleanup s (λ th x. record { status = x.status; policy = x.policy; server = x.server; frames = x.frames; exit_value = x.exit_value; joiner = x.joiner }) h))

  -- ---- scheduling

  sets_priority_small : (by : Caller) (u p : ℕ) (s : Turn P) → by.thread < count → Small s → Small (sets_priority by u p s)
  sets_priority_small by u p s lt h =
      if_small count top low (lives s.machine u) _ _
      (if_small count top low (takes_priority (thread_at s.machine u).policy p) _ _
      (back by res.Zero (changes u (with_priority p) s) lt (plain_small u (with_priority p) s (λ th x. record {
        status = x.status;
        policy = priced_policy p th.policy x.policy;
        server = priced_has p th.ticks th.server x.server;
        frames = x.frames;
        exit_value = x.exit_value;
        joiner = x.joiner;
      }) h))
      (back by res.Inval s lt h)) (back by res.Srch s lt h)

  sets_policy_small : (by : Caller) (u : ℕ) (new : Policy) (s : Turn P) → by.thread < count → u < count → PolicySmall new → Small s → Small (sets_policy by u new s)
  sets_policy_small by u new s lt less k h =
      let told = returns by res.Zero 0 s in
      let renewed = changes u (with_policy new s.machine.now) told in
      let active = activates_if (can_run s.machine u) u renewed in
      if_small count top low (lives s.machine u) _ _
      (moves_unless_boosted_small count top low u active (activates_if_small count top low (can_run s.machine u) u renewed less
      (plain_small u (with_policy new s.machine.now) told (λ th x. record {
        status = x.status;
        policy = k;
        server = server_of_has th.ticks s.machine.now new (now_low count top low s h) k;
        frames = x.frames;
        exit_value = x.exit_value;
        joiner = x.joiner;
      }) (back by res.Zero s lt h))))
      (back by res.Srch s lt h)

  -- ---- the table

  pub call_small : (bodies : Bodies P) (o : Objects) → o.threads ≡ count → (by : Caller) (c : Call) (s : Turn P) → by.thread < count → by.call ≡ c → CallSmall o c → Small s → Small (call_effect bodies by c s)
  call_small bodies o e by call.Yield s lt same k h = back by res.Zero (moves by.thread s) lt h
  call_small bodies o e by (call.Create u) s lt same k h = let known = k.known in creates_small bodies by u s lt (omega arith) h
  call_small bodies o e by (call.Join u) s lt same k h = joins_small by u s lt h
  call_small bodies o e by (call.Cancel u) s lt same k h = let known = k.known in cancels_small by u s lt (omega arith) h
  call_small bodies o e by call.Testcancel s lt same k h = back by res.Zero s lt h
  call_small bodies o e by (call.Setcancel on) s lt same k h = sets_cancelability_small by on s lt h
  call_small bodies o e by (call.Push u) s lt same k h = pushes_small by u s lt h
  call_small bodies o e by (call.Pop runs) s lt same k h = pops_small bodies by runs s lt h
  call_small bodies o e by (call.Exit v) s lt same k h =
      ending_small count top low by.thread (number_of s.machine by.thread v) s (number_of_small count top low by.thread v s k.known h) h
  call_small bodies o e by (call.Setprio u p) s lt same k h = sets_priority_small by u p s lt h
  call_small bodies o e by (call.Setsched u new) s lt same k h = let known = k.known in sets_policy_small by u new s lt (omega arith) k.gives h
  call_small bodies o e by (call.Lock n) s lt same k h = locks_small count top low by n None s lt (no_time s.machine.clock by.call) h
  call_small bodies o e by (call.Timedlock n at) s lt same k h = locks_small count top low by n (Some (moment_of s.machine by.thread at)) s lt (moment_small count top low by at s (ap waits_on_real same) k.known.1 h) h
  call_small bodies o e by (call.Trylock n) s lt same k h = locks_on_small count top low (trylock_answer s.machine by.thread n) by n None s lt (no_time s.machine.clock by.call) (trylock_may count top low by.thread n s (h.of_mutexes n)) h
  call_small bodies o e by (call.Unlock n) s lt same k h = unlocks_small count top low by n s lt h
  call_small bodies o e by (call.Wait c n) s lt same k h = waits_small count top low by c n None s lt (no_time s.machine.clock by.call) h
  call_small bodies o e by (call.Timedwait c n at) s lt same k h = waits_small count top low by c n (Some (moment_of s.machine by.thread at)) s lt (moment_small count top low by at s (ap waits_on_real same) k.known.1 h) h
  call_small bodies o e by (call.Signal c) s lt same k h = signals_small count top low by c s lt h
  call_small bodies o e by (call.Broadcast c) s lt same k h = broadcasts_small count top low by c s lt h
  call_small bodies o e by (call.SemWait n) s lt same k h = waits_semaphore_small by n None s lt (no_time s.machine.clock by.call) h
  call_small bodies o e by (call.SemTimedwait n at) s lt same k h = waits_semaphore_small by n (Some (moment_of s.machine by.thread at)) s lt (moment_small count top low by at s (ap waits_on_real same) k.known.1 h) h
  call_small bodies o e by (call.SemTrywait n) s lt same k h = tries_semaphore_small by n s lt h
  call_small bodies o e by (call.SemGetvalue n) s lt same k h = returns_small count top low by res.Zero (semaphore_at s.machine n) s lt (semaphore_value (semaphore_at s.machine n) (h.of_semaphores n)) h
  call_small bodies o e by (call.SemPost n) s lt same k h = posts_small by n s lt h
  call_small bodies o e by (call.Nanosleep n) s lt same k h = sleeps_until_small by (s.machine.now + n) s lt (plain_time s.machine.clock by.call (s.machine.now + n) (ap waits_on_real same) (sum_small s.machine.now n (now_low count top low s h) k.known)) h
  call_small bodies o e by (call.ClockNanosleep at) s lt same k h = sleeps_until_small by (moment_of s.machine by.thread at) s lt (moment_small count top low by at s (ap waits_on_real same) k.known h) h
  call_small bodies o e by call.Gettime s lt same k h = returns_small count top low by res.Zero s.machine.now s lt (number_small s.machine.now (now_low count top low s h)) h
  call_small bodies o e by call.RealGettime s lt same k h = returns_small count top low by res.Zero (real_time s.machine) s lt (real_small count top low s h) h
  call_small bodies o e by (call.ClockSettime v) s lt same k h = sets_real_clock_small count top low by (number_of s.machine by.thread v) s lt h
  call_small bodies o e by (call.TimerSettimeRel n first interval) s lt same k h =
      sets_timer_small by n (first_expiry first (s.machine.now + first)) false interval s lt (expiry_small first (s.machine.now + first) (sum_small s.machine.now first (now_low count top low s h) k.known.1))
      (not_on_real s.machine.clock (first_expiry first (s.machine.now + first)) false refl) k.known.2 h
  call_small bodies o e by (call.TimerSettimeAbs n at interval) s lt same k h =
      let at' = number_of s.machine by.thread at in
      sets_timer_small by n (first_expiry at' (timer_moment s.machine n at')) (timer_at s.machine n).is_real interval s lt
      (expiry_at_small count top low n by.thread at s k.known.1 h) (expiry_read_small count top low n by.thread at s k.known.1 h) k.known.2 h
  call_small bodies o e by (call.TimerGettime n) s lt same k h =
      returns_small count top low by res.Zero (ticks_to (timer_at s.machine n).due s.machine.now) s lt (ticks_to_small (timer_at s.machine n).due s.machine.now (h.of_timers n).due) h
  call_small bodies o e by (call.TimerGetoverrun n) s lt same k h = returns_small count top low by res.Zero (timer_at s.machine n).overrun s lt (overrun_value (timer_at s.machine n).overrun (h.of_timers n).overrun) h
  call_small bodies o e by (call.Kill signal) s lt same k h = sends_signal_small by (record_of_kill signal None) s lt (record { signal = k.known; value = zero_small }) h
  call_small bodies o e by (call.Tkill u signal) s lt same k h =
      if_small count top low (lives s.machine u) _ _ (sends_signal_small by (record_of_kill signal (Some u)) s lt (record { signal = k.known.1; value = zero_small }) h) (back by res.Srch s lt h)
  call_small bodies o e by (call.Sigqueue signal v) s lt same k h =
      sends_signal_small by (record_of_sigqueue signal (number_of s.machine by.thread v)) s lt (record { signal = k.known.0; value = number_of_small count top low by.thread v s k.known.1 h }) h
  call_small bodies o e by (call.SigmaskBlock set) s lt same k h = sets_mask_small by (with_signals set) s lt h
  call_small bodies o e by (call.SigmaskUnblock set) s lt same k h = sets_mask_small by (without_signals set) s lt h
  call_small bodies o e by (call.SigmaskSet set) s lt same k h = sets_mask_small by (λ (mask : ℕ). set) s lt h
  call_small bodies o e by (call.Sigwaitinfo set) s lt same k h = waits_signal_small None by set s lt (ap waits_on_real same) (λ n e. absurd (cc)) h
  call_small bodies o e by (call.Sigtimedwait set n) s lt same k h = waits_signal_small (Some n) by set s lt (ap waits_on_real same) (λ m e. let it : n ≡ m = cc in subst IsNumber it k.known) h
  call_small bodies o e by (call.MqSend q len p v) s lt same k h =
      sends_message_small by q len (record { priority = p; value = number_of s.machine by.thread v }) None s lt (record { priority = k.known.1; value = number_of_small count top low by.thread v s k.known.2 h }) (no_time s.machine.clock by.call) h
  call_small bodies o e by (call.MqTimedsend q len p v at) s lt same k h =
      sends_message_small by q len (record { priority = p; value = number_of s.machine by.thread v }) (Some (moment_of s.machine by.thread at)) s lt
      (record { priority = k.known.1; value = number_of_small count top low by.thread v s k.known.2 h }) (moment_small count top low by at s (ap waits_on_real same) k.known.3 h) h
  call_small bodies o e by (call.MqReceive q) s lt same k h = receives_on_small (next_message (queue_at s.machine q).messages) by q None s lt (no_time s.machine.clock by.call) h
  call_small bodies o e by (call.MqTimedreceive q at) s lt same k h =
      receives_on_small (next_message (queue_at s.machine q).messages) by q (Some (moment_of s.machine by.thread at)) s lt (moment_small count top low by at s (ap waits_on_real same) k.known.1 h) h
  call_small bodies o e by (call.MqNotify q signal v) s lt same k h =
      asks_small by q (record { signal = signal; value = number_of s.machine by.thread v }) s lt (k.known.1, number_of_small count top low by.thread v s k.known.2 h) h

  is_cancelled_small : (t : ℕ) (s : Turn P) → t < count → Small s → Small (is_cancelled t s)
  is_cancelled_small t s lt h = ending_small count top low t cancelled_value (tells (event.Cancel t) s) cancelled_small (tells_small count top low (event.Cancel t) s lt h)

  pub makes_call_small : (bodies : Bodies P) (o : Objects) → o.threads ≡ count → (by : Caller) (s : Turn P) → by.thread < count → CallSmall o by.call → Small s → Small (makes_call bodies by s)
  makes_call_small bodies o e by s lt k h =
      if_small count top low (is_cancellation_point by.call && request_acts (thread_at s.machine by.thread)) _ _ (is_cancelled_small by.thread s lt h) (call_small bodies o e by by.call s lt refl k h)

  pub unit_small : (bodies : Bodies P) (o : Objects) → o.threads ≡ count → (t : ℕ) (u : Unit) (s : Turn P) → t < count → UnitMade o u → Small s → Small (unit_effect bodies t u s)
  unit_small bodies o e t (unit.Run n) s lt k h = h
  unit_small bodies o e t (unit.Make c) s lt k h = makes_call_small bodies o e (record { thread = t; call = c }) s lt k h
  unit_small bodies o e t unit.Jump s lt k h = h
  unit_small bodies o e t unit.Finish s lt k h = finishes_small (top_kind (thread_at s.machine t).frames) t s lt h
