-- Events of two parts, for each call, item and tick.
use Rattle.std.proofs.Common.{Bool, List, None, Option, Some, [], ap, false, length, refl, suc, true, zero, ℕ, ◌+◌, ◌∷◌}
use Rattle.std.specs.Prelude.{nat_lt, not, option_and_then, pred, ◌==◌, ◌&&◌, ◌||◌}
use mathlib.Core.Path.{◌∙◌}
use Rattle.words_numbers.specs.Signals.{has_signal}
use Rattle.words_numbers.specs.declared.res.Res.TheVariants as res
use Rattle.words_script.specs.declared.call.Call.{Call}
use Rattle.words_script.specs.declared.call.Call.TheVariants as call
use Rattle.words_script.specs.declared.policy.Policy.{Policy}
use Rattle.rules_bodies.specs.declared.unit.Unit.{Unit}
use Rattle.rules_bodies.specs.declared.unit.Unit.TheVariants as unit
use Rattle.words_trace.specs.declared.event.Event.TheVariants as event
use Rattle.rules_machine.specs.declared.frame.FrameKind.{FrameKind}
use Rattle.rules_machine.specs.declared.frame.FrameKind.TheVariants as frame
use Rattle.rules_machine.specs.declared.thread.CondEnd.{CondEnd}
use Rattle.rules_machine.specs.declared.thread.CondEnd.TheVariants as cond_end
use Rattle.rules_machine.specs.Bodies.{Bodies}
use Rattle.rules_machine.specs.Clock.{changes_each, clock_at, clock_limit, due_as_set, moves_times, sets_real_clock, thread_moved, timer_moved}
use Rattle.rules_machine.specs.Lists.{numbers}
use Rattle.rules_machine.specs.State.{Joiner, Message, Registration, SignalRecord, Wait, Waiting, for_condition, for_end, for_message, for_mutex, for_mutex_again, for_room, for_semaphore, for_time, has_joined, nobody, waits_to_join}
use Rattle.rules_machine.specs.Threads.{action_of, can_run, is_dormant, lives, moment_of, mutex_at, number_of, queue_at, real_time, semaphore_at, thread_at, thread_numbers, top_kind, waiting_of}
use Rattle.rules_machine.specs.Waiters.{Waiter, best_waiter, somebody_waits, waiters}
use Rattle.rules_machine.specs.Turns.{Caller, Turn, becomes, changes, changes_mutex, changes_pending, changes_queue, changes_semaphore, changes_timer, is_late, moves, moves_if, returns, tells, ◌▷◌}
use Rattle.rules_machine.specs.Servers.{activates, activates_if}
use Rattle.rules_machine.specs.Waking.{blocks, blocks_unordered, call_in, ending_with, cancelled_value, started, starts, wakes}
use Rattle.rules_machine.specs.Mutexes.{is_free, moves_unless_boosted, owned_by, owns, owns_boosting, returns_from_wait, taken_by, trylock_answer}
use Rattle.rules_machine.specs.Conditions.{contends, reacquires_or_waits, released_mutex, signals_best, signals_best_times, signals_waiter, waits, waits_on_condition, waits_with_other_mutex}
use Rattle.rules_machine.specs.Semaphores.{blocks_unless_late, wakes_waiter_or_raises_value, semaphore_limit, tries_semaphore, waits_on_semaphore, waits_semaphore}
use Rattle.rules_machine.specs.Signals.{acceptor, becomes_pending, delivers, generates, is_accepted_or_pends, may_go_to, has_no_room, is_ignore, record_of_kill, record_of_sigqueue, selected, sends_signal, tells_overrun, takes_signal_or_waits, blocks_for_signal, without_record}
use Rattle.rules_machine.specs.Timers.{sleeps_until}
use Rattle.rules_machine.specs.Queues.{asks_notification, blocks_unless_nonblock, enters, fired_by_message, has_room, is_notifying, message_of, next_message, notifies, takes_message_or_blocks, record_of_notification, registered, sends_message, reaches_receiver_or_queue, takes_over, value_at, waits_to_receive, waits_to_send, with_message, without_message}
use Rattle.rules_machine.specs.Lives.{creates, ends_frame, inherited_mask, is_nobody, joins, wakes_joiner, with_joiner, without_life, without_target}
use Rattle.rules_machine.specs.Cancellation.{acts_if_blocked, cancels, is_cancellation_point, is_cancelled, leaves, leaves_wait, on_live, pops_cleanup, request_acts, requested, runs_cleanup_if, without_cleanup}
use Rattle.rules_machine.specs.Scheduling.{sets_policy, sets_priority, takes_priority, with_policy, with_priority}
use Rattle.rules_machine.specs.Calls.{call_effect, makes_call, unit_effect}
use Rattle.rules_machine.proofs.Behind.{AddsBehind, activates_if_behind, activates_server_behind, if_behind, locks_behind, locks_on_behind, releases_behind, returns_behind, returns_from_wait_behind, tells_behind, then_behind, unlocks_behind, wakes_behind, wakes_cancelled_behind}

module _ {P : Type 0} where
  -- ---- conditions

  pub contends_for_behind : (k : Option ℕ) (t : ℕ) (how : CondEnd) → AddsBehind {P = P} (reacquires_or_waits k t how)
  contends_for_behind None t how = λ told s. refl
  contends_for_behind (Some k) t how =
      if_behind (λ m. is_free m k) (λ s. s ▷ changes_mutex k (taken_by t) ▷ returns_from_wait how t)
      (λ s. blocks (record { thread = t; call = call_in (waiting_of s.machine t) }) (for_mutex_again k how) None s)
      (λ told s. returns_from_wait_behind how t told (changes_mutex k (taken_by t) s)) (λ told s. refl)

  pub contends_behind : (t : ℕ) (how : CondEnd) → AddsBehind {P = P} (contends t how)
  contends_behind t how told s = contends_for_behind (option_and_then (λ (w : Waiting). released_mutex w.wait) (waiting_of s.machine t)) t how told s

  pub waits_behind : (by : Caller) (c k : ℕ) (due : Option ℕ) → AddsBehind {P = P} (waits by c k due)
  waits_behind by c k due =
      if_behind (λ m. not (owns m by.thread k)) _ _ (returns_behind by res.Perm 0)
      (if_behind (λ m. nat_lt 1 (mutex_at m k).count || somebody_waits m (waits_with_other_mutex c k)) _ _ (returns_behind by res.Inval 0)
      (if_behind (λ m. nat_lt 1 (length (owned_by m by.thread))) _ _ (returns_behind by res.Deadlk 0)
      (λ told s. releases_behind k told (blocks by (for_condition c k) due s))))

  pub signals_waiter_behind : (w : Option Waiter) → AddsBehind {P = P} (signals_waiter w)
  signals_waiter_behind None told s = refl
  signals_waiter_behind (Some w) told s = contends_behind w.thread cond_end.Signalled told s

  pub signals_best_behind : (c : ℕ) → AddsBehind {P = P} (signals_best c)
  signals_best_behind c told s = signals_waiter_behind (best_waiter s.machine (waits_on_condition c)) told s

  pub signals_best_of_behind : (n c : ℕ) → AddsBehind {P = P} (signals_best_times n c)
  signals_best_of_behind zero c told s = refl
  signals_best_of_behind (suc n) c told s = ap (signals_best c) (signals_best_of_behind n c told s) ∙ signals_best_behind c told (signals_best_times n c s)

  -- ---- semaphores

  pub blocks_unless_late_behind : (by : Caller) (wait : Wait) (due : Option ℕ) → AddsBehind {P = P} (blocks_unless_late by wait due)
  blocks_unless_late_behind by wait due = if_behind (λ m. is_late due m) (returns by res.Timedout 0) (blocks by wait due) (returns_behind by res.Timedout 0) (λ told s. refl)

  pub waits_semaphore_behind : (by : Caller) (k : ℕ) (due : Option ℕ) → AddsBehind {P = P} (waits_semaphore by k due)
  waits_semaphore_behind by k due =
      if_behind (λ m. nat_lt 0 (semaphore_at m k)) _ _ (λ told s. returns_behind by res.Zero 0 told (changes_semaphore k pred s)) (blocks_unless_late_behind by (for_semaphore k) due)

  pub tries_semaphore_behind : (by : Caller) (k : ℕ) → AddsBehind {P = P} (tries_semaphore by k)
  tries_semaphore_behind by k =
      if_behind (λ m. semaphore_at m k == 0) _ _ (returns_behind by res.Again 0) (λ told s. returns_behind by res.Zero 0 told (changes_semaphore k pred s))

  pub posts_to_behind : (w : Option Waiter) (by : Caller) (k : ℕ) → AddsBehind {P = P} (wakes_waiter_or_raises_value w by k)
  posts_to_behind (Some w) by k = then_behind (returns by res.Zero 0) (wakes w.thread res.Zero 0) (returns_behind by res.Zero 0) (wakes_behind w.thread res.Zero 0)
  posts_to_behind None by k =
      if_behind (λ m. semaphore_at m k == semaphore_limit) _ _ (returns_behind by res.Overflow 0) (λ told s. returns_behind by res.Zero 0 told (changes_semaphore k suc s))

  -- ---- signals

  pub tells_overrun_behind : (k : Option ℕ) → AddsBehind {P = P} (tells_overrun k)
  tells_overrun_behind None told s = refl
  tells_overrun_behind (Some k) told s = refl

  pub delivers_behind : (t : ℕ) (r : SignalRecord) → AddsBehind {P = P} (delivers t r)
  delivers_behind t r =
      then_behind (tells (event.Deliver t r.signal r.code r.value)) (tells_overrun r.timer) (tells_behind (event.Deliver t r.signal r.code r.value)) (tells_overrun_behind r.timer)

  pub generates_for_behind : (w : Option Waiter) (r : SignalRecord) → AddsBehind {P = P} (is_accepted_or_pends w r)
  generates_for_behind (Some w) r = then_behind (delivers w.thread r) (wakes w.thread res.Zero r.signal) (delivers_behind w.thread r) (wakes_behind w.thread res.Zero r.signal)
  generates_for_behind None r = if_behind (λ m. is_ignore (action_of m r.signal)) (λ s. s) (becomes_pending r) (λ told s. refl) (λ told s. refl)

  pub generates_behind : (r : SignalRecord) → AddsBehind {P = P} (generates r)
  generates_behind r told s = generates_for_behind (acceptor s.machine r) r told s

  pub sends_signal_behind : (by : Caller) (r : SignalRecord) → AddsBehind {P = P} (sends_signal by r)
  sends_signal_behind by r =
      if_behind (λ m. has_no_room m r) (returns by res.Again 0) (λ s. s ▷ returns by res.Zero 0 ▷ generates r) (returns_behind by res.Again 0)
      (then_behind (returns by res.Zero 0) (generates r) (returns_behind by res.Zero 0) (generates_behind r))

  pub waits_ticks_behind : (n : Option ℕ) (by : Caller) (set : ℕ) → AddsBehind {P = P} (blocks_for_signal n by set)
  waits_ticks_behind None by set told s = refl
  waits_ticks_behind (Some zero) by set told s = returns_behind by res.Again 0 told s
  waits_ticks_behind (Some (suc n)) by set told s = refl

  pub waits_signal_on_behind : (r : Option SignalRecord) (n : Option ℕ) (by : Caller) (set : ℕ) → AddsBehind {P = P} (takes_signal_or_waits r n by set)
  waits_signal_on_behind (Some r) n by set told s =
      then_behind (delivers by.thread r) (returns by res.Zero r.signal) (delivers_behind by.thread r) (returns_behind by res.Zero r.signal) told (changes_pending (without_record r) s)
  waits_signal_on_behind None n by set told s = waits_ticks_behind n by set told s

  pub sleeps_until_behind : (by : Caller) (at : ℕ) → AddsBehind {P = P} (sleeps_until by at)
  sleeps_until_behind by at = if_behind (λ m. is_late (Some at) m) (returns by res.Zero 0) (blocks_unordered by for_time (Some at)) (returns_behind by res.Zero 0) (λ told s. refl)

  -- ---- message queues

  pub notifies_behind : (r : Option Registration) (q : ℕ) → AddsBehind {P = P} (notifies r q)
  notifies_behind None q told s = refl
  notifies_behind (Some r) q told s = generates_behind (record_of_notification q r) told (changes_queue q (registered None) s)

  pub enters_behind : (q : ℕ) (x : Message) (f : Turn P → Turn P) → AddsBehind f → AddsBehind (enters q x f)
  enters_behind q x f h told s =
      let r = fired_by_message s.machine q in
      then_behind f (notifies r q) h (notifies_behind r q) told (changes_queue q (with_message x) s)

  pub takes_over_behind : (w : Option Waiter) (q : ℕ) → AddsBehind {P = P} (takes_over w q)
  takes_over_behind None q told s = refl
  takes_over_behind (Some w) q told s = enters_behind q (message_of w.waiting.wait) (wakes w.thread res.Zero 0) (wakes_behind w.thread res.Zero 0) told s

  pub blocks_unless_nonblock_behind : (by : Caller) (q : ℕ) (wait : Wait) (due : Option ℕ) → AddsBehind {P = P} (blocks_unless_nonblock by q wait due)
  blocks_unless_nonblock_behind by q wait due =
      if_behind (λ m. (queue_at m q).is_nonblock) (returns by res.Again 0) (blocks_unless_late by wait due) (returns_behind by res.Again 0) (blocks_unless_late_behind by wait due)

  pub sends_to_behind : (w : Option Waiter) (by : Caller) (q : ℕ) (x : Message) (due : Option ℕ) → AddsBehind {P = P} (reaches_receiver_or_queue w by q x due)
  sends_to_behind (Some w) by q x due = then_behind (returns by res.Zero 0) (wakes w.thread res.Zero x.value) (returns_behind by res.Zero 0) (wakes_behind w.thread res.Zero x.value)
  sends_to_behind None by q x due =
      if_behind (λ m. has_room (queue_at m q)) (enters q x (returns by res.Zero 0)) (blocks_unless_nonblock by q (for_room q x) due)
      (enters_behind q x (returns by res.Zero 0) (returns_behind by res.Zero 0)) (blocks_unless_nonblock_behind by q (for_room q x) due)

  pub sends_message_behind : (by : Caller) (q len : ℕ) (x : Message) (due : Option ℕ) → AddsBehind {P = P} (sends_message by q len x due)
  sends_message_behind by q len x due =
      if_behind (λ m. nat_lt (queue_at m q).longest len) (returns by res.Msgsize 0) (λ s. reaches_receiver_or_queue (best_waiter s.machine (waits_to_receive q)) by q x due s)
      (returns_behind by res.Msgsize 0) (λ told s. sends_to_behind (best_waiter s.machine (waits_to_receive q)) by q x due told s)

  pub receives_on_behind : (n : Option ℕ) (by : Caller) (q : ℕ) (due : Option ℕ) → AddsBehind {P = P} (takes_message_or_blocks n by q due)
  receives_on_behind (Some n) by q due told s =
      let value = value_at (queue_at s.machine q).messages n in
      let w = best_waiter s.machine (waits_to_send q) in
      then_behind (returns by res.Zero value) (takes_over w q) (returns_behind by res.Zero value) (takes_over_behind w q) told (changes_queue q (without_message n) s)
  receives_on_behind None by q due told s = blocks_unless_nonblock_behind by q (for_message q) due told s

  pub asks_notification_behind : (by : Caller) (q : ℕ) (r : Registration) → AddsBehind {P = P} (asks_notification by q r)
  asks_notification_behind by q r =
      if_behind (λ m. is_notifying m q) _ _ (returns_behind by res.Busy 0) (λ told s. returns_behind by res.Zero 0 told (changes_queue q (registered (Some r)) s))

  -- ---- threads

  pub starts_behind : (bodies : Bodies P) (t mask : ℕ) → AddsBehind (starts bodies t mask)
  starts_behind bodies t mask told s =
      let up = moves t (changes t (started bodies t mask s.machine.now) s) in
      ap (activates t) (tells_behind (event.Start t) told up) ∙ activates_server_behind t _ told (tells (event.Start t) up)

  pub creates_behind : (bodies : Bodies P) (by : Caller) (u : ℕ) → AddsBehind (creates bodies by u)
  creates_behind bodies by u =
      if_behind (λ m. is_dormant (thread_at m u).status) (λ s. s ▷ returns by res.Zero 0 ▷ starts bodies u (inherited_mask (thread_at s.machine by.thread))) (returns by res.Again 0)
      (λ told s. let mask = inherited_mask (thread_at s.machine by.thread) in
      then_behind (returns by res.Zero 0) (starts bodies u mask) (returns_behind by res.Zero 0) (starts_behind bodies u mask) told s)
      (returns_behind by res.Again 0)

  pub joins_behind : (by : Caller) (u : ℕ) → AddsBehind {P = P} (joins by u)
  joins_behind by u =
      if_behind (λ m. u == by.thread) _ _ (returns_behind by res.Deadlk 0)
      (if_behind (λ m. is_dormant (thread_at m u).status) _ _ (returns_behind by res.Srch 0)
      (if_behind (λ m. not (is_nobody (thread_at m u).joiner)) _ _ (returns_behind by res.Inval 0)
      (if_behind (λ m. lives m u) (λ s. s ▷ changes u (with_joiner (waits_to_join by.thread)) ▷ blocks_unordered by (for_end u) None)
      (λ s. s ▷ changes u (with_joiner has_joined) ▷ returns by res.Zero (thread_at s.machine u).exit_value) (λ told s. refl)
      (λ told s. returns_behind by res.Zero (thread_at s.machine u).exit_value told (changes u (with_joiner has_joined) s)))))

  pub wakes_joiner_behind : (j : Joiner) (t : ℕ) → AddsBehind {P = P} (wakes_joiner j t)
  wakes_joiner_behind nobody t told s = refl
  wakes_joiner_behind (waits_to_join u) t told s = wakes_behind u res.Zero (thread_at s.machine t).exit_value told (changes t (with_joiner has_joined) s)
  wakes_joiner_behind has_joined t told s = refl

  pub finishes_in_behind : (kind : FrameKind) (t : ℕ) → AddsBehind {P = P} (ends_frame kind t)
  finishes_in_behind frame.Main t told s =
      let j = (thread_at s.machine t).joiner in
      let gone = changes t without_life s in
      ap (λ (x : Turn P). wakes_joiner j t (changes_pending (without_target t) x)) (tells_behind (event.Exit t) told gone)
      ∙ wakes_joiner_behind j t told (changes_pending (without_target t) (tells (event.Exit t) gone))
  finishes_in_behind frame.Cleanup t told s = refl
  finishes_in_behind frame.Signal t told s = refl

  -- ---- cancellation and scheduling

  pub leaves_behind : (wait : Wait) (u : ℕ) → AddsBehind {P = P} (leaves wait u)
  leaves_behind (for_mutex k) u told s = refl
  leaves_behind (for_mutex_again k how) u told s = refl
  leaves_behind (for_condition c k) u told s = contends_behind u cond_end.Cancelled told s
  leaves_behind (for_end t) u told s = wakes_cancelled_behind u told (changes t (with_joiner nobody) s)
  leaves_behind _ u told s = wakes_cancelled_behind u told s

  pub leaves_wait_behind : (w : Option Waiting) (u : ℕ) → AddsBehind {P = P} (leaves_wait w u)
  leaves_wait_behind None u told s = refl
  leaves_wait_behind (Some w) u told s = leaves_behind w.wait u told s

  pub acts_if_blocked_behind : (u : ℕ) → AddsBehind {P = P} (acts_if_blocked u)
  acts_if_blocked_behind u =
      if_behind (λ m. request_acts (thread_at m u)) (λ s. leaves_wait (waiting_of s.machine u) u s) (λ s. s) (λ told s. leaves_wait_behind (waiting_of s.machine u) u told s) (λ told s. refl)

  pub on_live_behind : (by : Caller) (u : ℕ) (f : Turn P → Turn P) → AddsBehind f → AddsBehind (on_live by u f)
  on_live_behind by u f h = if_behind (λ m. lives m u) f (returns by res.Srch 0) h (returns_behind by res.Srch 0)

  pub cancels_behind : (by : Caller) (u : ℕ) → AddsBehind {P = P} (cancels by u)
  cancels_behind by u =
      on_live_behind by u (λ s. s ▷ returns by res.Zero 0 ▷ changes u requested ▷ acts_if_blocked u)
      (λ told s. ap (λ (x : Turn P). acts_if_blocked u (changes u requested x)) (returns_behind by res.Zero 0 told s) ∙ acts_if_blocked_behind u told (changes u requested (returns by res.Zero 0 s)))

  pub pops_cleanup_behind : (bodies : Bodies P) (by : Caller) (runs : Bool) → AddsBehind (pops_cleanup bodies by runs)
  pops_cleanup_behind bodies by runs told s =
      ap (changes by.thread (runs_cleanup_if runs bodies (thread_at s.machine by.thread).cleanups)) (returns_behind by res.Zero 0 told (changes by.thread without_cleanup s))

  pub sets_priority_behind : (by : Caller) (u p : ℕ) → AddsBehind {P = P} (sets_priority by u p)
  sets_priority_behind by u p =
      on_live_behind by u _
      (if_behind (λ m. takes_priority (thread_at m u).policy p) (λ s. s ▷ changes u (with_priority p) ▷ returns by res.Zero 0) (returns by res.Inval 0)
      (λ told s. returns_behind by res.Zero 0 told (changes u (with_priority p) s)) (returns_behind by res.Inval 0))

  pub moves_if_behind : (b : Bool) (t : ℕ) → AddsBehind {P = P} (moves_if b t)
  moves_if_behind true t told s = refl
  moves_if_behind false t told s = refl

  pub moves_unless_boosted_behind : (t : ℕ) → AddsBehind {P = P} (moves_unless_boosted t)
  moves_unless_boosted_behind t told s = moves_if_behind (not (owns_boosting s.machine t)) t told s

  pub sets_policy_behind : (by : Caller) (u : ℕ) (new : Policy) → AddsBehind {P = P} (sets_policy by u new)
  sets_policy_behind by u new =
      on_live_behind by u (λ s. s ▷ returns by res.Zero 0 ▷ changes u (with_policy new s.machine.now) ▷ activates_if (can_run s.machine u) u ▷ moves_unless_boosted u)
      (λ told s.
      let renewed = changes u (with_policy new s.machine.now) (returns by res.Zero 0 s) in
      ap (λ (x : Turn P). moves_unless_boosted u (activates_if (can_run s.machine u) u (changes u (with_policy new s.machine.now) x))) (returns_behind by res.Zero 0 told s)
      ∙ ap (moves_unless_boosted u) (activates_if_behind (can_run s.machine u) u told renewed)
      ∙ moves_unless_boosted_behind u told (activates_if (can_run s.machine u) u renewed))

-- ---- the clock

module _ {P : Type 0} where
  pub changes_each_behind : (change : ℕ → Turn P → Turn P) → ((n : ℕ) → AddsBehind (change n)) → (ns : List ℕ) → AddsBehind (changes_each change ns)
  changes_each_behind change each [] told s = refl
  changes_each_behind change each (n ∷ ns) told s = ap (changes_each change ns) (each n told s) ∙ changes_each_behind change each ns told (change n s)

  pub moves_times_behind : (move : ℕ → ℕ) → AddsBehind {P = P} (moves_times move)
  moves_times_behind move told s =
      let threads = changes_each (λ t. changes t (thread_moved move)) (thread_numbers s.machine) in
      ap (changes_each (λ k. changes_timer k (timer_moved move)) (numbers s.machine.timers))
      (changes_each_behind (λ t. changes t (thread_moved move)) (λ t told s. refl) (thread_numbers s.machine) told s)
      ∙ changes_each_behind (λ k. changes_timer k (timer_moved move)) (λ k told s. refl) (numbers s.machine.timers) told (threads s)

  pub sets_real_clock_behind : (by : Caller) (reading : ℕ) → AddsBehind {P = P} (sets_real_clock by reading)
  sets_real_clock_behind by reading =
      if_behind (λ m. nat_lt clock_limit reading) (returns by res.Inval 0)
      (λ s. s ▷ becomes (λ m. record m { clock = clock_at reading m.now }) ▷ moves_times (due_as_set s.machine.now (real_time s.machine) reading) ▷ returns by res.Zero 0)
      (returns_behind by res.Inval 0)
      (λ told s.
      let set = becomes (λ m. record m { clock = clock_at reading m.now }) s in
      let move = due_as_set s.machine.now (real_time s.machine) reading in
      ap (returns by res.Zero 0) (moves_times_behind move told set) ∙ returns_behind by res.Zero 0 told (moves_times move set))

-- ---- the table

module _ {P : Type 0} (bodies : Bodies P) where
  pub call_effect_behind : (by : Caller) (call' : Call) → AddsBehind (call_effect bodies by call')
  call_effect_behind by call.Yield told s = returns_behind by res.Zero 0 told (moves by.thread s)
  call_effect_behind by (call.Create u) told s = creates_behind bodies by u told s
  call_effect_behind by (call.Join u) told s = joins_behind by u told s
  call_effect_behind by (call.Cancel u) told s = cancels_behind by u told s
  call_effect_behind by call.Testcancel told s = returns_behind by res.Zero 0 told s
  call_effect_behind by (call.Setcancel on) told s = returns_behind by res.Zero 0 told (changes by.thread (λ th. record th { is_enabled = on }) s)
  call_effect_behind by (call.Push u) told s = returns_behind by res.Zero 0 told (changes by.thread (λ th. record th { cleanups = u ∷ th.cleanups }) s)
  call_effect_behind by (call.Pop runs) told s = pops_cleanup_behind bodies by runs told s
  call_effect_behind by (call.Exit v) told s = refl
  call_effect_behind by (call.Setprio u p) told s = sets_priority_behind by u p told s
  call_effect_behind by (call.Setsched u new) told s = sets_policy_behind by u new told s
  call_effect_behind by (call.Lock k) told s = locks_behind by k None told s
  call_effect_behind by (call.Timedlock k at) told s = locks_behind by k (Some (moment_of s.machine by.thread at)) told s
  call_effect_behind by (call.Trylock k) told s = locks_on_behind (trylock_answer s.machine by.thread k) by k None told s
  call_effect_behind by (call.Unlock k) told s = unlocks_behind by k told s
  call_effect_behind by (call.Wait c k) told s = waits_behind by c k None told s
  call_effect_behind by (call.Timedwait c k at) told s = waits_behind by c k (Some (moment_of s.machine by.thread at)) told s
  call_effect_behind by (call.Signal c) told s = then_behind (returns by res.Zero 0) (signals_best c) (returns_behind by res.Zero 0) (signals_best_behind c) told s
  call_effect_behind by (call.Broadcast c) told s =
      let n = length (waiters s.machine (waits_on_condition c)) in
      then_behind (returns by res.Zero 0) (signals_best_times n c) (returns_behind by res.Zero 0) (signals_best_of_behind n c) told s
  call_effect_behind by (call.SemWait k) told s = waits_semaphore_behind by k None told s
  call_effect_behind by (call.SemTimedwait k at) told s = waits_semaphore_behind by k (Some (moment_of s.machine by.thread at)) told s
  call_effect_behind by (call.SemTrywait k) told s = tries_semaphore_behind by k told s
  call_effect_behind by (call.SemGetvalue k) told s = returns_behind by res.Zero (semaphore_at s.machine k) told s
  call_effect_behind by (call.SemPost k) told s = posts_to_behind (best_waiter s.machine (waits_on_semaphore k)) by k told s
  call_effect_behind by (call.Nanosleep n) told s = sleeps_until_behind by (s.machine.now + n) told s
  call_effect_behind by (call.ClockNanosleep at) told s = sleeps_until_behind by (moment_of s.machine by.thread at) told s
  call_effect_behind by call.Gettime told s = returns_behind by res.Zero _ told s
  call_effect_behind by call.RealGettime told s = returns_behind by res.Zero _ told s
  call_effect_behind by (call.ClockSettime at) told s = sets_real_clock_behind by (number_of s.machine by.thread at) told s
  call_effect_behind by (call.TimerSettimeRel k n interval) told s = returns_behind by res.Zero 0 told _
  call_effect_behind by (call.TimerSettimeAbs k at interval) told s = returns_behind by res.Zero 0 told _
  call_effect_behind by (call.TimerGettime k) told s = returns_behind by res.Zero _ told s
  call_effect_behind by (call.TimerGetoverrun k) told s = returns_behind by res.Zero _ told s
  call_effect_behind by (call.Kill signal) told s = sends_signal_behind by (record_of_kill signal None) told s
  call_effect_behind by (call.Tkill u signal) told s = on_live_behind by u (sends_signal by (record_of_kill signal (Some u))) (sends_signal_behind by (record_of_kill signal (Some u))) told s
  call_effect_behind by (call.Sigqueue signal v) told s = sends_signal_behind by (record_of_sigqueue signal (number_of s.machine by.thread v)) told s
  call_effect_behind by (call.SigmaskBlock set) told s = returns_behind by res.Zero 0 told _
  call_effect_behind by (call.SigmaskUnblock set) told s = returns_behind by res.Zero 0 told _
  call_effect_behind by (call.SigmaskSet set) told s = returns_behind by res.Zero 0 told _
  call_effect_behind by (call.Sigwaitinfo set) told s =
      waits_signal_on_behind (selected s.machine (λ (r : SignalRecord). has_signal set r.signal && may_go_to by.thread r.target)) None by set told s
  call_effect_behind by (call.Sigtimedwait set n) told s =
      waits_signal_on_behind (selected s.machine (λ (r : SignalRecord). has_signal set r.signal && may_go_to by.thread r.target)) (Some n) by set told s
  call_effect_behind by (call.MqSend q len p v) told s = sends_message_behind by q len (record { priority = p; value = number_of s.machine by.thread v }) None told s
  call_effect_behind by (call.MqTimedsend q len p v at) told s =
      sends_message_behind by q len (record { priority = p; value = number_of s.machine by.thread v }) (Some (moment_of s.machine by.thread at)) told s
  call_effect_behind by (call.MqReceive q) told s = receives_on_behind (next_message (queue_at s.machine q).messages) by q None told s
  call_effect_behind by (call.MqTimedreceive q at) told s =
      receives_on_behind (next_message (queue_at s.machine q).messages) by q (Some (moment_of s.machine by.thread at)) told s
  call_effect_behind by (call.MqNotify q signal v) told s = asks_notification_behind by q (record { signal = signal; value = number_of s.machine by.thread v }) told s

  pub makes_call_behind : (by : Caller) → AddsBehind (makes_call bodies by)
  makes_call_behind by =
      if_behind (λ m. is_cancellation_point by.call && request_acts (thread_at m by.thread)) (is_cancelled by.thread) (call_effect bodies by by.call)
      (λ told s. ap (changes by.thread (ending_with cancelled_value)) (tells_behind (event.Cancel by.thread) told s)) (call_effect_behind by by.call)

  pub unit_effect_behind : (t : ℕ) (unit' : Unit) → AddsBehind (unit_effect bodies t unit')
  unit_effect_behind t (unit.Run n) told s = refl
  unit_effect_behind t (unit.Make call) told s = makes_call_behind (record { thread = t; call = call }) told s
  unit_effect_behind t unit.Jump told s = refl
  unit_effect_behind t unit.Finish told s = finishes_in_behind (top_kind (thread_at s.machine t).frames) t told s
