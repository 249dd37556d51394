-- What threads keep, calls on semaphores, signals, timers, queues and threads keep.
use Rattle.std.proofs.Common.{Bool, List, None, Option, Some, [], ap, false, inl, inr, refl, subst, suc, sym, true, zero, ℕ, ◌+◌, ◌++◌, ◌∙◌, ◌∷◌, ◌≡◌}
use Rattle.std.specs.Prelude.{nat_lt, not, pred, ◌==◌, if◌then◌else◌}
use Rattle.words_numbers.specs.declared.res.Res.{Res}
use Rattle.words_numbers.specs.declared.res.Res.TheVariants as res
use Rattle.words_script.specs.declared.call.Call.TheVariants as call
use Rattle.words_script.specs.declared.policy.Policy.{Policy}
use Rattle.words_trace.specs.declared.event.Event.TheVariants as event
use Rattle.rules_machine.specs.declared.frame.FrameKind.{FrameKind}
use Rattle.rules_machine.specs.declared.frame.FrameKind.TheVariants as frame
use Rattle.rules_machine.specs.declared.thread.CondEnd.TheVariants as cond_end
use Rattle.rules_machine.specs.State.{Joiner, Message, Registration, SignalRecord, Thread, Wait, Waiting, for_condition, for_end, for_message, for_mutex, for_mutex_again, for_room, for_semaphore, for_signal, for_time, has_joined, nobody, waits_to_join}
use Rattle.rules_machine.specs.Threads.{can_run, is_dormant, lives, no_thread, queue_at, semaphore_at, thread_at, timer_at, top_kind, waiting_of}
use Rattle.rules_machine.specs.Waiters.{Waiter, best_waiter}
use Rattle.rules_machine.specs.Turns.{Caller, Turn, answered, changes, changes_pending, changes_queue, changes_semaphore, changes_timer, has_passed, returns, tells}
use Rattle.rules_machine.specs.Waking.{cancelled_value, wakes}
use Rattle.rules_machine.specs.Semaphores.{wakes_waiter_or_raises_value, semaphore_limit, tries_semaphore, waits_semaphore}
use Rattle.rules_machine.specs.Signals.{acceptor, becomes_pending, delivers, generates, is_accepted_or_pends, has_no_room, is_ignore, sends_signal, sets_mask, tells_overrun, takes_signal_or_waits, blocks_for_signal, with_overrun_told, without_record}
use Rattle.rules_machine.specs.Threads.{action_of}
use Rattle.rules_machine.specs.Timers.{armed_again, expires, is_pending_from, overrun_once_more, record_of_timer, signals_expiry, sleeps_until}
use Rattle.rules_machine.specs.Queues.{asks_notification, blocks_unless_nonblock, enters, fired_by_message, has_room, is_notifying, message_of, notifies, takes_message_or_blocks, record_of_notification, registered, sends_message, reaches_receiver_or_queue, takes_over, value_at, waits_to_receive, waits_to_send, with_message, without_message}
use Rattle.rules_machine.specs.Lives.{creates, ends_frame, inherited_mask, is_nobody, joins, wakes_joiner, with_joiner, without_life, without_target, without_top}
use Rattle.rules_machine.specs.Cancellation.{acts_if_blocked, cancels, is_cancelled, leaves, leaves_wait, pops_cleanup, pushes_cleanup, request_acts, requested, runs_cleanup_if, sets_cancelability, without_cleanup}
use Rattle.rules_machine.specs.Scheduling.{sets_policy, sets_priority, takes_priority, with_policy, with_priority}
use Rattle.rules_machine.specs.Servers.{activates_if}
use Rattle.rules_machine.specs.Lists.{changed_at}
use Rattle.rules_machine.proofs.Reading.{changed-keeps, changed-twice}
use Rattle.rules_moves.proofs.Runs.Listed.{each_kept}
use Rattle.laws_threads.specs.EachThread.{Closed, Given, IsSourced}
use Rattle.laws_threads.proofs.Objects.{each_and_last, none_known, one_known}
use Rattle.laws_threads.proofs.Changes.{Holds, HoldsIn, changes_hold, if_holds, pending_holds, queue_holds, timer_holds}
use Rattle.laws_threads.proofs.Waking.{MayBlock, activates_if_hold, blocks_hold, blocks_unless_late_hold, blocks_unordered_hold, contends_hold, ending_hold, moves_unless_boosted_hold, returns_hold, starts_hold, wakes_cancelled_hold, wakes_hold}

module _ {P : Type 0} (given : Given P) (Q : ℕ → ℕ → Thread P → Type 0) (closed : Closed given Q) where
  abbrev Holding : Turn P → Type 0
  Holding s = Holds given Q s

  abbrev back : (by : Caller) (r : Res) (value : ℕ) (s : Turn P) → Holding s → Holding (returns by r value s)
  back = returns_hold given Q closed

  -- ---- semaphores

  -- a known call may wait so
  abbrev May : Caller → Wait → Type 0
  May by wait = MayBlock given Q closed by wait

  pub waits_semaphore_hold : (by : Caller) (k : ℕ) (due : Option ℕ) (s : Turn P) → MayBlock given Q closed by (for_semaphore k) → Holding s → Holding (waits_semaphore by k due s)
  waits_semaphore_hold by k due s may h =
      if_holds given Q (nat_lt 0 (semaphore_at s.machine k)) _ _ (back by res.Zero 0 (changes_semaphore k pred s) h) (blocks_unless_late_hold given Q closed by (for_semaphore k) due s may h)

  pub tries_semaphore_hold : (by : Caller) (k : ℕ) (s : Turn P) → Holding s → Holding (tries_semaphore by k s)
  tries_semaphore_hold by k s h = if_holds given Q (semaphore_at s.machine k == 0) _ _ (back by res.Again 0 s h) (back by res.Zero 0 (changes_semaphore k pred s) h)

  pub posts_to_hold : (w : Option Waiter) (by : Caller) (k : ℕ) (s : Turn P) → Holding s → Holding (wakes_waiter_or_raises_value w by k s)
  posts_to_hold (Some w) by k s h = wakes_hold given Q closed w.thread res.Zero 0 (returns by res.Zero 0 s) (back by res.Zero 0 s h)
  posts_to_hold None by k s h = if_holds given Q (semaphore_at s.machine k == semaphore_limit) _ _ (back by res.Overflow 0 s h) (back by res.Zero 0 (changes_semaphore k suc s) h)

  -- ---- signals

  pub delivers_hold : (t : ℕ) (r : SignalRecord) (s : Turn P) → Holding s → Holding (delivers t r s)
  delivers_hold t r s h = told r.timer
    where
      told : (k : Option ℕ) → Holding (tells_overrun k (tells (event.Deliver t r.signal r.code r.value) s))
      told None = h
      told (Some k) = timer_holds given Q k with_overrun_told (tells (event.Deliver t r.signal r.code r.value) s) (λ x q. q) h

  -- a record goes, or becomes pending
  pub taken_out_holds : (r : SignalRecord) (s : Turn P) → Holding s → Holding (changes_pending (without_record r) s)
  taken_out_holds r s h = pending_holds given Q (without_record r) s (each_kept given.Pends _ s.machine.pending) h

  pends_holds : (r : SignalRecord) (s : Turn P) → IsSourced r → Holding s → Holding (becomes_pending r s)
  pends_holds r s from h =
      let new = record r { serial = s.machine.next_serial } in
      pending_holds given Q (λ (pending : List SignalRecord). pending ++ new ∷ []) s (λ each. each_and_last given.Pends s.machine.pending new each (closed.pends r s.machine.next_serial from)) h

  pub generates_for_hold : (w : Option Waiter) (r : SignalRecord) (s : Turn P) → IsSourced r → Holding s → Holding (is_accepted_or_pends w r s)
  generates_for_hold (Some w) r s from h = wakes_hold given Q closed w.thread res.Zero r.signal (delivers w.thread r s) (delivers_hold w.thread r s h)
  generates_for_hold None r s from h = if_holds given Q (is_ignore (action_of s.machine r.signal)) _ _ h (pends_holds r s from h)

  pub generates_hold : (r : SignalRecord) (s : Turn P) → IsSourced r → Holding s → Holding (generates r s)
  generates_hold r s from h = generates_for_hold (acceptor s.machine r) r s from h

  pub sends_signal_hold : (by : Caller) (r : SignalRecord) (s : Turn P) → IsSourced r → Holding s → Holding (sends_signal by r s)
  sends_signal_hold by r s from h =
      if_holds given Q (has_no_room s.machine r) _ _ (back by res.Again 0 s h) (generates_hold r (returns by res.Zero 0 s) from (back by res.Zero 0 s h))

  pub sets_mask_hold : (by : Caller) (change : ℕ → ℕ) (s : Turn P) → Holding s → Holding (sets_mask by change s)
  sets_mask_hold by change s h =
      let f : Thread P → Thread P = λ th. record th { mask = change th.mask } in
      let t = by.thread in
      back by res.Zero 0 (changes t f s) (changes_hold given Q t f s (λ lt q. closed.masks s.machine.now t (thread_at s.machine t) (change (thread_at s.machine t).mask) q) h)

  waits_ticks_hold : (n : Option ℕ) (by : Caller) (set : ℕ) (s : Turn P) → May by (for_signal set) → Holding s → Holding (blocks_for_signal n by set s)
  waits_ticks_hold None by set s may h = blocks_hold given Q closed by (for_signal set) None s may h
  waits_ticks_hold (Some zero) by set s may h = back by res.Again 0 s h
  waits_ticks_hold (Some (suc n)) by set s may h = blocks_hold given Q closed by (for_signal set) (Some (s.machine.now + suc n)) s may h

  pub waits_signal_on_hold : (r : Option SignalRecord) (n : Option ℕ) (by : Caller) (set : ℕ) (s : Turn P) → MayBlock given Q closed by (for_signal set) → Holding s → Holding (takes_signal_or_waits r n by set s)
  waits_signal_on_hold (Some r) n by set s may h =
      let out = changes_pending (without_record r) s in back by res.Zero r.signal (delivers by.thread r out) (delivers_hold by.thread r out (taken_out_holds r s h))
  waits_signal_on_hold None n by set s may h = waits_ticks_hold n by set s may h

  -- ---- sleeps and timers

  pub sleeps_until_hold : (by : Caller) (at : ℕ) (s : Turn P) → MayBlock given Q closed by for_time → Holding s → Holding (sleeps_until by at s)
  sleeps_until_hold by at s may h = if_holds given Q (has_passed at s.machine) _ _ (back by res.Zero 0 s h) (blocks_unordered_hold given Q closed by for_time (Some at) s may h)

  pub expires_hold : (k : ℕ) (s : Turn P) → Holding s → Holding (expires k s)
  expires_hold k s h = timer_holds given Q k (armed_again s.machine.now) (signals_expiry k s) (λ x q. q) sent
    where
      sent : Holding (signals_expiry k s)
      sent =
          if_holds given Q (is_pending_from k s.machine) (changes_timer k overrun_once_more s) (generates (record_of_timer k (timer_at s.machine k)) s)
          (timer_holds given Q k overrun_once_more s (λ x q. q) h) (generates_hold (record_of_timer k (timer_at s.machine k)) s refl h)

  -- ---- message queues

  pub notifies_hold : (r : Option Registration) (q : ℕ) (s : Turn P) → Holding s → Holding (notifies r q s)
  notifies_hold None q s h = h
  notifies_hold (Some r) q s h = generates_hold (record_of_notification q r) (changes_queue q (registered None) s) refl (queue_holds given Q q (registered None) s (λ x known. none_known given x) h)

  pub enters_hold : (q : ℕ) (x : Message) (told : Turn P → Turn P) (s : Turn P) → ((s : Turn P) → Holding s → Holding (told s)) → Holding s → Holding (enters q x told s)
  enters_hold q x told s keeps h =
      let there = changes_queue q (with_message x) s in notifies_hold (fired_by_message s.machine q) q (told there) (keeps there (queue_holds given Q q (with_message x) s (λ y known. known) h))

  blocks_unless_nonblock_hold : (by : Caller) (q : ℕ) (wait : Wait) (due : Option ℕ) (s : Turn P) → May by wait → Holding s → Holding (blocks_unless_nonblock by q wait due s)
  blocks_unless_nonblock_hold by q wait due s may h =
      if_holds given Q (queue_at s.machine q).is_nonblock _ _ (back by res.Again 0 s h) (blocks_unless_late_hold given Q closed by wait due s may h)

  sends_to_hold : (w : Option Waiter) (by : Caller) (q : ℕ) (x : Message) (due : Option ℕ) (s : Turn P) → May by (for_room q x) → Holding s → Holding (reaches_receiver_or_queue w by q x due s)
  sends_to_hold (Some w) by q x due s may h = wakes_hold given Q closed w.thread res.Zero x.value (returns by res.Zero 0 s) (back by res.Zero 0 s h)
  sends_to_hold None by q x due s may h =
      if_holds given Q (has_room (queue_at s.machine q)) _ _ (enters_hold q x (returns by res.Zero 0) s (back by res.Zero 0) h) (blocks_unless_nonblock_hold by q (for_room q x) due s may h)

  pub sends_message_hold : (by : Caller) (q len : ℕ) (x : Message) (due : Option ℕ) (s : Turn P) → MayBlock given Q closed by (for_room q x) → Holding s → Holding (sends_message by q len x due s)
  sends_message_hold by q len x due s may h =
      if_holds given Q (nat_lt (queue_at s.machine q).longest len) _ _ (back by res.Msgsize 0 s h) (sends_to_hold (best_waiter s.machine (waits_to_receive q)) by q x due s may h)

  pub takes_over_hold : (w : Option Waiter) (q : ℕ) (s : Turn P) → Holding s → Holding (takes_over w q s)
  takes_over_hold None q s h = h
  takes_over_hold (Some w) q s h = enters_hold q (message_of w.waiting.wait) (wakes w.thread res.Zero 0) s (wakes_hold given Q closed w.thread res.Zero 0) h

  pub receives_on_hold : (n : Option ℕ) (by : Caller) (q : ℕ) (due : Option ℕ) (s : Turn P) → MayBlock given Q closed by (for_message q) → Holding s → Holding (takes_message_or_blocks n by q due s)
  receives_on_hold (Some n) by q due s may h =
      let out = changes_queue q (without_message n) s in
      let value = value_at (queue_at s.machine q).messages n in
      takes_over_hold (best_waiter s.machine (waits_to_send q)) q (returns by res.Zero value out) (back by res.Zero value out (queue_holds given Q q (without_message n) s (λ y known. known) h))
  receives_on_hold None by q due s may h = blocks_unless_nonblock_hold by q (for_message q) due s may h

  pub asks_notification_hold : (by : Caller) (q : ℕ) (r : Registration) (s : Turn P) → given.Sends r.signal → Holding s → Holding (asks_notification by q r s)
  asks_notification_hold by q r s known h =
      if_holds given Q (is_notifying s.machine q) _ _ (back by res.Busy 0 s h)
      (back by res.Zero 0 (changes_queue q (registered (Some r)) s) (queue_holds given Q q (registered (Some r)) s (λ x old. one_known given x r known) h))

  -- ---- threads

  joiner_hold : (t : ℕ) (j : Joiner) (caller : Thread P) (s : Turn P) → given.Known caller (call.Join t) → Holding s → Holding (changes t (with_joiner j) s)
  joiner_hold t j caller s known h = changes_hold given Q t (with_joiner j) s (λ lt q. closed.joins s.machine.now t (thread_at s.machine t) caller j known q) h

  pub creates_hold : (by : Caller) (u : ℕ) (s : Turn P) → Holding s → Holding (creates given.bodies by u s)
  creates_hold by u s h =
      if_holds given Q (is_dormant (thread_at s.machine u).status) _ _
      (starts_hold given Q closed u (inherited_mask (thread_at s.machine by.thread)) (returns by res.Zero 0 s) (back by res.Zero 0 s h))
      (back by res.Again 0 s h)

  pub joins_hold : (by : Caller) (u : ℕ) (s : Turn P) → given.Known (thread_at s.machine by.thread) (call.Join u) → MayBlock given Q closed by (for_end u) → Holding s → Holding (joins by u s)
  joins_hold by u s known may h =
      if_holds given Q (u == by.thread) _ _ (back by res.Deadlk 0 s h)
      (if_holds given Q (is_dormant (thread_at s.machine u).status) _ _ (back by res.Srch 0 s h)
      (if_holds given Q (not (is_nobody (thread_at s.machine u).joiner)) _ _ (back by res.Inval 0 s h)
      (if_holds given Q (lives s.machine u) _ _
      (blocks_unordered_hold given Q closed by (for_end u) None (changes u (with_joiner (waits_to_join by.thread)) s) may (joiner_hold u (waits_to_join by.thread) (thread_at s.machine by.thread) s known h))
      (back by res.Zero (thread_at s.machine u).exit_value (changes u (with_joiner has_joined) s) (joiner_hold u has_joined (thread_at s.machine by.thread) s known h)))))

  wakes_joiner_hold : (j : Joiner) (t : ℕ) (s : Turn P) → (thread_at s.machine t).joiner ≡ j → Holding s → Holding (wakes_joiner j t s)
  wakes_joiner_hold nobody t s e h = h
  wakes_joiner_hold has_joined t s e h = h
  wakes_joiner_hold (waits_to_join u) t s e h =
      wakes_hold given Q closed u res.Zero (thread_at s.machine t).exit_value (changes t (with_joiner has_joined) s)
      (changes_hold given Q t (with_joiner has_joined) s (λ lt q. closed.joined s.machine.now t (thread_at s.machine t) u e q) h)

  pub leaves_frame : (t : ℕ) (kind : FrameKind) (s : Turn P) → top_kind (thread_at s.machine t).frames ≡ kind → Holding s → Holding (ends_frame kind t s)
  leaves_frame t frame.Main s e h =
      wakes_joiner_hold (thread_at s.machine t).joiner t (changes_pending (without_target t) (tells (event.Exit t) (changes t without_life s)))
      (changed-keeps no_thread t t without_life (λ th. th.joiner) (λ th. refl) s.machine.threads)
      (pending_holds given Q (without_target t) (tells (event.Exit t) (changes t without_life s)) (each_kept given.Pends _ s.machine.pending)
      (changes_hold given Q t without_life s (λ lt q. closed.ends s.machine.now t (thread_at s.machine t) e q) h))
  leaves_frame t frame.Cleanup s e h = changes_hold given Q t without_top s (λ lt q. closed.leaves s.machine.now t (thread_at s.machine t) (rw e refl) q) h
  leaves_frame t frame.Signal s e h = changes_hold given Q t without_top s (λ lt q. closed.leaves s.machine.now t (thread_at s.machine t) (rw e refl) q) h

  pub finishes_hold : (t : ℕ) (s : Turn P) → Holding s → Holding (ends_frame (top_kind (thread_at s.machine t).frames) t s)
  finishes_hold t s h = leaves_frame t (top_kind (thread_at s.machine t).frames) s refl h

  -- ---- cancellation

  pub is_cancelled_hold : (t : ℕ) (s : Turn P) → request_acts (thread_at s.machine t) ≡ true → Holding s → Holding (is_cancelled t s)
  is_cancelled_hold t s acts h = ending_hold given Q closed t cancelled_value (tells (event.Cancel t) s) (inr (inl acts)) h

  leaves_hold : (wait : Wait) (u : ℕ) (s : Turn P) → request_acts (thread_at s.machine u) ≡ true → Holding s → Holding (leaves wait u s)
  leaves_hold (for_mutex k) u s acts h = h
  leaves_hold (for_mutex_again k how) u s acts h = h
  leaves_hold (for_condition c k) u s acts h = contends_hold given Q closed u cond_end.Cancelled s (inl acts) h
  leaves_hold (for_end t) u s acts h =
      wakes_cancelled_hold given Q closed u (changes t (with_joiner nobody) s) (inl (changed-keeps no_thread t u (with_joiner nobody) request_acts (λ th. refl) s.machine.threads ∙ acts))
      (changes_hold given Q t (with_joiner nobody) s (λ lt q. closed.unjoins s.machine.now t (thread_at s.machine t) q) h)
  leaves_hold _ u s acts h = wakes_cancelled_hold given Q closed u s (inl acts) h

  leaves_wait_hold : (w : Option Waiting) (u : ℕ) (s : Turn P) → request_acts (thread_at s.machine u) ≡ true → Holding s → Holding (leaves_wait w u s)
  leaves_wait_hold None u s acts h = h
  leaves_wait_hold (Some w) u s acts h = leaves_hold w.wait u s acts h

  acts_if_blocked_hold : (u : ℕ) (s : Turn P) → Holding s → Holding (acts_if_blocked u s)
  acts_if_blocked_hold u s h = by_request (request_acts (thread_at s.machine u)) refl
    where
      by_request : (b : Bool) → request_acts (thread_at s.machine u) ≡ b → Holding (if b then leaves_wait (waiting_of s.machine u) u s else s)
      by_request true acts = leaves_wait_hold (waiting_of s.machine u) u s acts h
      by_request false e = h

  pub cancels_hold : (by : Caller) (u : ℕ) (s : Turn P) → given.Known (thread_at s.machine by.thread) (call.Cancel u) → Holding s → Holding (cancels by u s)
  cancels_hold by u s known h =
      let r = returns by res.Zero 0 s in
      if_holds given Q (lives s.machine u) _ _
      (acts_if_blocked_hold u (changes u requested r) (changes_hold given Q u requested r (λ lt q. closed.requests r.machine.now u (thread_at r.machine u) (thread_at s.machine by.thread) known q) (back by res.Zero 0 s h)))
      (back by res.Srch 0 s h)

  pub sets_cancelability_hold : (by : Caller) (on : Bool) (s : Turn P) → given.Known (thread_at s.machine by.thread) (call.Setcancel on) → Holding s → Holding (sets_cancelability by on s)
  sets_cancelability_hold by on s known h =
      let t = by.thread in
      let f : Thread P → Thread P = λ th. record th { is_enabled = on } in
      back by res.Zero 0 (changes t f s) (changes_hold given Q t f s (λ lt q. closed.enables s.machine.now t (thread_at s.machine t) on known q) h)

  pub pushes_hold : (by : Caller) (u : ℕ) (s : Turn P) → given.Known (thread_at s.machine by.thread) (call.Push u) → Holding s → Holding (pushes_cleanup by u s)
  pushes_hold by u s known h =
      let t = by.thread in
      let f : Thread P → Thread P = λ th. record th { cleanups = u ∷ th.cleanups } in
      back by res.Zero 0 (changes t f s) (changes_hold given Q t f s (λ lt q. closed.pushes s.machine.now t (thread_at s.machine t) u known q) h)

  -- one handler less, the answer, and the handler's frame: three changes of one thread are one
  pub pops_hold : (by : Caller) (runs : Bool) (s : Turn P) → given.Known (thread_at s.machine by.thread) (call.Pop runs) → Holding s → Holding (pops_cleanup given.bodies by runs s)
  pops_hold by runs s known h =
      let t = by.thread in
      let ths = s.machine.threads in
      let two : Thread P → Thread P = λ th. answered res.Zero 0 (without_cleanup th) in
      let third : Thread P → Thread P = runs_cleanup_if runs given.bodies (thread_at s.machine t).cleanups in
      let all : Thread P → Thread P = λ th. third (two th) in
      let one = ap (changed_at no_thread t third) (changed-twice no_thread t without_cleanup (answered res.Zero 0) ths) ∙ changed-twice no_thread t two third ths in
      subst (λ (ths : List (Thread P)). HoldsIn given Q s.machine.now ths s.machine.actions s.machine.timers s.machine.queues s.machine.pending) (sym one)
      (changes_hold given Q t all s (λ lt q. closed.pops s.machine.now t (thread_at s.machine t) runs known q) h)

  -- ---- scheduling

  pub sets_priority_hold : (by : Caller) (u p : ℕ) (s : Turn P) → given.Known (thread_at s.machine by.thread) (call.Setprio u p) → Holding s → Holding (sets_priority by u p s)
  sets_priority_hold by u p s known h =
      if_holds given Q (lives s.machine u) _ _
      (if_holds given Q (takes_priority (thread_at s.machine u).policy p) _ _
      (back by res.Zero 0 (changes u (with_priority p) s) (changes_hold given Q u (with_priority p) s (λ lt q. closed.prices s.machine.now u (thread_at s.machine u) (thread_at s.machine by.thread) p known q) h))
      (back by res.Inval 0 s h))
      (back by res.Srch 0 s h)

  pub sets_policy_hold : (by : Caller) (u : ℕ) (new : Policy) (s : Turn P) → given.Known (thread_at s.machine by.thread) (call.Setsched u new) → Holding s → Holding (sets_policy by u new s)
  sets_policy_hold by u new s known h =
      let r = returns by res.Zero 0 s in
      let f : Thread P → Thread P = with_policy new s.machine.now in
      let x = changes u f r in
      let held = changes_hold given Q u f r (λ lt q. closed.renews s.machine.now u (thread_at r.machine u) (thread_at s.machine by.thread) new known q) (back by res.Zero 0 s h) in
      if_holds given Q (lives s.machine u) _ _
      (moves_unless_boosted_hold given Q closed u (activates_if (can_run s.machine u) u x) (activates_if_hold given Q closed (can_run s.machine u) u x held))
      (back by res.Srch 0 s h)
