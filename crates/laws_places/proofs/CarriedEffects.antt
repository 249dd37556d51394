-- Each effect of a carried turn is the carried effect.
use Rattle.std.proofs.Common.{Bool, List, None, Option, Some, [], ap, false, length, refl, suc, true, zero, ℕ, ◌∷◌, ◌≡◌}
use Rattle.std.specs.Prelude.{filter, if◌then◌else◌, is_none, map, nat_lt, not, option_and_then, pred, ◌&&◌, ◌+◌, ◌==◌, ◌||◌}
use mathlib.Core.Path.{ap₂, ◌∙◌}
use Rattle.words_numbers.specs.declared.res.Res.{Res}
use Rattle.words_numbers.specs.declared.res.Res.TheVariants as res
use Rattle.words_trace.specs.declared.event.Event.{Event}
use Rattle.words_trace.specs.declared.event.Event.TheVariants as event
use Rattle.rules_server.specs.Server.{ServerState, activate, is_high, oldest_pending, plan, refill, replenishment}
use Rattle.rules_machine.specs.declared.frame.BodyOf.{BodyOf}
use Rattle.rules_machine.specs.declared.thread.CondEnd.{CondEnd}
use Rattle.rules_machine.specs.declared.thread.CondEnd.TheVariants as cond_end
use Rattle.rules_machine.specs.Lists.{first_by, is}
use Rattle.rules_machine.specs.State.{Frame, Machine, Message, Registration, SignalRecord, Thread, Wait, Waiting, for_condition, for_message, for_mutex, for_mutex_again, for_room, for_semaphore, for_signal, for_time}
use Rattle.rules_machine.specs.Threads.{action_of, can_run, mutex_at, queue_at, semaphore_at, thread_at, thread_numbers, timer_at, waiting_of}
use Rattle.rules_machine.specs.Waiters.{Waiter, best_waiter, is_served_before, somebody_waits, waiters}
use Rattle.rules_machine.specs.CallNames.{name_of}
use Rattle.rules_machine.specs.Turns.{Caller, Turn, answered, changes, changes_mutex, changes_pending, changes_queue, changes_semaphore, changes_timer, frames_answered, has_passed, is_late, moves, moves_if, returns, settles_since, takes_serial, tells}
use Rattle.rules_machine.specs.Servers.{activates, activates_if, activates_if_high, activates_server, amount_of, at_once, closes, closes_of, has_run, high_server, is_strict, opens, opens_for, opens_if, plans, plans_server, plans_if, refills, refills_server, regains_high, with_server}
use Rattle.rules_machine.specs.Waking.{blocks, blocks_unordered, call_in, cancelled_value, ending_with, last_result, last_value, put_to_wait, wakes, wakes_cancelled, wakes_telling, woken}
use Rattle.rules_machine.specs.Mutexes.{LockAnswer, closes_cycle, counted_down, counted_up, counts, hands_over, is_above_ceiling, is_free, lock_answer, locked_again, locks, carries_out_lock, moves_unless_boosted, must_wait, owned_by, owns, owns_boosting, refused, releases, returns_from_wait, taken_by, takes, tries_lock, trylock_answer, unlocks, waits_for_mutex, wakes_owner}
use Rattle.rules_machine.specs.Conditions.{broadcasts, contends, reacquires_or_waits, released_mutex, signals, signals_best, signals_best_times, signals_waiter, waits, waits_on_condition, waits_with_other_mutex}
use Rattle.rules_machine.specs.Semaphores.{blocks_unless_late, posts, wakes_waiter_or_raises_value, semaphore_limit, tries_semaphore, waits_on_semaphore, waits_semaphore}
use Rattle.rules_machine.specs.Signals.{acceptor, accepts, becomes_pending, delivers, generates, is_accepted_or_pends, may_go_to, has_no_room, is_full, is_ignore, sends_signal, tells_overrun, takes_signal_or_waits, blocks_for_signal, without_record}
use Rattle.rules_machine.specs.Timers.{armed_again, expires, is_pending_from, overrun_once_more, record_of_timer, signals_expiry, sleeps_until}
use Rattle.rules_machine.specs.Queues.{asks_notification, blocks_unless_nonblock, enters, fired_by_message, has_room, is_notifying, message_of, next_message, notifies, receives_message, takes_message_or_blocks, record_of_notification, registered, sends_message, reaches_receiver_or_queue, takes_over, value_at, waits_to_receive, waits_to_send, with_message, without_message}
use Rattle.laws_places.specs.Carried.{frame_carried, turn_carried}
use Rattle.laws_places.proofs.CarriedReads.{C, M, best_carries, numbers_carry, can_run_carries, ceiling_carries, changed_carries, cycle_carries, result_carries, server_carries, settled_carries, somebody_carries, value_carries, waiters_carry, waiting_carries}

module _ {P Q : Type 0} (carry : BodyOf → P → Q) where
  abbrev pub T : Turn P → Turn Q
  T s = turn_carried carry s

  -- the effect over the one type of places is the effect over the other
  abbrev pub Carries : (Turn Q → Turn Q) → (Turn P → Turn P) → Type 0
  Carries f' f = (s : Turn P) → f' (T s) ≡ T (f s)

  pub then_carries : (f' h' : Turn Q → Turn Q) (f h : Turn P → Turn P) → Carries f' f → Carries h' h → Carries (λ s. h' (f' s)) (λ s. h (f s))
  then_carries f' h' f h e k s = ap h' (e s) ∙ k (f s)

  -- one of two, by a test that carries
  pub if_carries : (b' b : Bool) (x' y' : Turn Q) (x y : Turn P) → b' ≡ b → x' ≡ T x → y' ≡ T y → (if b' then x' else y') ≡ T (if b then x else y)
  if_carries b' b x' y' x y e h k = ap (λ (c : Bool). if c then x' else y') e ∙ by_case b
    where
      by_case : (c : Bool) → (if c then x' else y') ≡ T (if c then x else y)
      by_case true = h
      by_case false = k

  pub changes_carry : (t : ℕ) (f' : Thread Q → Thread Q) (f : Thread P → Thread P) → ((th : Thread P) → f' (C carry th) ≡ C carry (f th)) → Carries (changes t f') (changes t f)
  changes_carry t f' f h s =
      ap (λ (ths : List (Thread Q)). record (T s) { machine = record (M carry s.machine) { threads = ths } }) (changed_carries carry t f' f h s.machine.threads)

  pub settles_carry : (before : Machine P) → Carries (settles_since (M carry before)) (settles_since before)
  settles_carry before s = ap (λ (m : Machine Q). record { machine = m; direct = []; events = s.events }) (settled_carries carry before s.direct s.machine)

  -- ---- answers

  frames_answered_carry : (r : Res) (value : ℕ) (fs : List (Frame P)) → frames_answered r value (map (frame_carried carry) fs) ≡ map (frame_carried carry) (frames_answered r value fs)
  frames_answered_carry r value [] = refl
  frames_answered_carry r value (f ∷ fs) = refl

  answered_carries : (r : Res) (value : ℕ) (th : Thread P) → answered r value (C carry th) ≡ C carry (answered r value th)
  answered_carries r value th = ap (λ (fs : List (Frame Q)). record (C carry th) { frames = fs }) (frames_answered_carry r value th.frames)

  pub returns_carries : (by : Caller) (r : Res) (value : ℕ) → Carries (returns by r value) (returns by r value)
  returns_carries by r value s =
      ap (tells (event.Return by.thread (name_of by.call) r value)) (changes_carry by.thread (answered r value) (answered r value) (answered_carries r value) s)

  -- ---- servers

  activates_server_carries : (t : ℕ) (server : Option ServerState) → Carries (activates_server t server) (activates_server t server)
  activates_server_carries t None s = refl
  activates_server_carries t (Some server) s =
      ap (tells (event.Activate t server.capacity)) (changes_carry t (with_server (activate s.machine.now)) (with_server (activate s.machine.now)) (λ th. refl) s)

  pub activates_carries : (t : ℕ) → Carries (activates t) (activates t)
  activates_carries t s = ap (λ (o : Option ServerState). activates_server t (at_once o) (T s)) (server_carries carry s.machine t) ∙ activates_server_carries t (at_once (thread_at s.machine t).server) s

  pub activates_if_carries : (b : Bool) (t : ℕ) → Carries (activates_if b t) (activates_if b t)
  activates_if_carries true t s = activates_carries t s
  activates_if_carries false t s = refl

  activates_if_high_carries : (t : ℕ) → Carries (activates_if_high t) (activates_if_high t)
  activates_if_high_carries t s =
      ap (λ (o : Option ServerState). activates_server t (at_once (high_server o)) (T s)) (server_carries carry s.machine t) ∙ activates_server_carries t (at_once (high_server (thread_at s.machine t).server)) s

  plans_for_carries : (t : ℕ) (server : Option ServerState) → Carries (plans_server t server) (plans_server t server)
  plans_for_carries t None s = refl
  plans_for_carries t (Some server) s =
      ap (tells (event.Plan t (replenishment server).amount (replenishment server).due)) (changes_carry t (with_server plan) (with_server plan) (λ th. refl) s)

  pub plans_carries : (t : ℕ) → Carries (plans t) (plans t)
  plans_carries t s = ap (λ (o : Option ServerState). plans_server t o (T s)) (server_carries carry s.machine t) ∙ plans_for_carries t (thread_at s.machine t).server s

  -- Close and Open

  plans_if_carries : (b : Bool) (t : ℕ) → Carries (plans_if b t) (plans_if b t)
  plans_if_carries true t s = plans_carries t s
  plans_if_carries false t s = refl

  closes_of_carries : (to : Option ℕ) (ts : List ℕ) → Carries (closes_of to ts) (closes_of to ts)
  closes_of_carries to [] s = refl
  closes_of_carries to (t ∷ ts) s =
      let b = not (is to t) && has_run (thread_at s.machine t).server in
      ap (λ (o : Option ServerState). closes_of to ts (plans_if (not (is to t) && has_run o) t (T s))) (server_carries carry s.machine t)
      ∙ ap (closes_of to ts) (plans_if_carries b t s)
      ∙ closes_of_carries to ts (plans_if b t s)

  pub closes_carries : (to : Option ℕ) → Carries (closes to) (closes to)
  closes_carries to s = ap (λ (ts : List ℕ). closes_of to ts (T s)) (numbers_carry carry s.machine) ∙ closes_of_carries to (thread_numbers s.machine) s

  opens_if_carries : (b : Bool) (t : ℕ) (server : ServerState) → Carries (opens_if b t server) (opens_if b t server)
  opens_if_carries true t server s = activates_server_carries t (Some server) s
  opens_if_carries false t server s = refl

  opens_for_carries : (t : ℕ) (server : Option ServerState) → Carries (opens_for t server) (opens_for t server)
  opens_for_carries t None s = refl
  opens_for_carries t (Some server) s = opens_if_carries (is_strict server.kind && is_high server && server.consumed == 0) t server s

  pub opens_carries : (to : Option ℕ) → Carries (opens to) (opens to)
  opens_carries None s = refl
  opens_carries (Some t) s = ap (λ (o : Option ServerState). opens_for t o (T s)) (server_carries carry s.machine t) ∙ opens_for_carries t (thread_at s.machine t).server s

  refills_for_carries : (t : ℕ) (server : Option ServerState) → Carries (refills_server t server) (refills_server t server)
  refills_for_carries t None s = refl
  refills_for_carries t (Some server) s =
      let e = event.Refill t (amount_of (oldest_pending server)) (refill server).capacity in
      let fed = tells e (changes t (with_server refill) s) in
      ap₂ (λ (b : Bool) (x : Turn Q). activates_if (regains_high server && b) t (tells e x)) (can_run_carries carry s.machine t)
      (changes_carry t (with_server refill) (with_server refill) (λ th. refl) s)
      ∙ activates_if_carries (regains_high server && can_run s.machine t) t fed

  pub refills_carries : (t : ℕ) → Carries (refills t) (refills t)
  refills_carries t s = ap (λ (o : Option ServerState). refills_server t o (T s)) (server_carries carry s.machine t) ∙ refills_for_carries t (thread_at s.machine t).server s

  -- ---- blocking and waking

  pub blocks_carries : (by : Caller) (wait : Wait) (due : Option ℕ) → Carries (blocks by wait due) (blocks by wait due)
  blocks_carries by wait due s =
      let w : Waiting = record { wait = wait; serial = s.machine.next_serial; due = due; call = by.call } in
      ap takes_serial (changes_carry by.thread (put_to_wait w) (put_to_wait w) (λ th. refl) s)

  pub blocks_unordered_carries : (by : Caller) (wait : Wait) (due : Option ℕ) → Carries (blocks_unordered by wait due) (blocks_unordered by wait due)
  blocks_unordered_carries by wait due s =
      let w : Waiting = record { wait = wait; serial = 0; due = due; call = by.call } in
      changes_carry by.thread (put_to_wait w) (put_to_wait w) (λ th. refl) s

  wakes_telling_carries : (e : Event) (t : ℕ) (r : Res) (value : ℕ) → Carries (wakes_telling e t r value) (wakes_telling e t r value)
  wakes_telling_carries e t r value s =
      let up = tells e (moves t (changes t (woken r value) s)) in
      ap (λ (x : Turn Q). activates_if_high t (tells e (moves t x)))
      (changes_carry t (woken r value) (woken r value) (λ th. answered_carries r value (record th { status = (woken r value th).status; slice = 0 })) s)
      ∙ activates_if_high_carries t up

  pub wakes_carries : (t : ℕ) (r : Res) (value : ℕ) → Carries (wakes t r value) (wakes t r value)
  wakes_carries t r value s =
      ap (λ (w : Option Waiting). wakes_telling (event.Return t (name_of (call_in w)) r value) t r value (T s)) (waiting_carries carry s.machine t)
      ∙ wakes_telling_carries (event.Return t (name_of (call_in (waiting_of s.machine t))) r value) t r value s

  pub wakes_cancelled_carries : (t : ℕ) → Carries (wakes_cancelled t) (wakes_cancelled t)
  wakes_cancelled_carries t s =
      let result = last_result t s.machine in
      let value = last_value t s.machine in
      ap₂ (λ (r : Res) (v : ℕ). changes t (ending_with cancelled_value) (wakes_telling (event.Cancel t) t r v (T s))) (result_carries carry s.machine t) (value_carries carry s.machine t)
      ∙ ap (changes t (ending_with cancelled_value)) (wakes_telling_carries (event.Cancel t) t result value s)
      ∙ changes_carry t (ending_with cancelled_value) (ending_with cancelled_value) (λ th. refl) (wakes_telling (event.Cancel t) t result value s)

  pub moves_if_carries : (b : Bool) (t : ℕ) → Carries (moves_if b t) (moves_if b t)
  moves_if_carries true t s = refl
  moves_if_carries false t s = refl

  pub moves_unless_boosted_carries : (t : ℕ) → Carries (moves_unless_boosted t) (moves_unless_boosted t)
  moves_unless_boosted_carries t s = moves_if_carries (not (owns_boosting s.machine t)) t s

  -- ---- mutexes

  late_carries : (due : Option ℕ) (m : Machine P) → is_late due (M carry m) ≡ is_late due m
  late_carries None m = refl
  late_carries (Some at) m = refl

  lock_answer_carries : (m : Machine P) (t k : ℕ) (due : Option ℕ) → lock_answer (M carry m) t k due ≡ lock_answer m t k due
  lock_answer_carries m t k due =
      ap₂ (λ (a c : Bool). if a then refused res.Inval
      else if owns m t k then locked_again (mutex_at m k) res.Deadlk
      else if is_free m k then takes
      else if c then refused res.Deadlk
      else if is_late due (M carry m) then refused res.Timedout
      else must_wait) (ceiling_carries carry m t (mutex_at m k).protocol) (cycle_carries carry m k t)
      ∙ ap (λ (late : Bool). if is_above_ceiling (thread_at m t) (mutex_at m k).protocol then refused res.Inval
      else if owns m t k then locked_again (mutex_at m k) res.Deadlk
      else if is_free m k then takes
      else if closes_cycle m k t then refused res.Deadlk
      else if late then refused res.Timedout
      else must_wait) (late_carries due m)

  trylock_answer_carries : (m : Machine P) (t k : ℕ) → trylock_answer (M carry m) t k ≡ trylock_answer m t k
  trylock_answer_carries m t k =
      ap (λ (a : Bool). if a then refused res.Inval
      else if owns m t k then locked_again (mutex_at m k) res.Busy
      else if is_free m k then takes
      else refused res.Busy) (ceiling_carries carry m t (mutex_at m k).protocol)

  locks_on_carries : (a : LockAnswer) (by : Caller) (k : ℕ) (due : Option ℕ) → Carries (carries_out_lock a by k due) (carries_out_lock a by k due)
  locks_on_carries (refused r) by k due s = returns_carries by r 0 s
  locks_on_carries counts by k due s = returns_carries by res.Zero 0 (changes_mutex k counted_up s)
  locks_on_carries takes by k due s = returns_carries by res.Zero 0 (changes_mutex k (taken_by by.thread) s)
  locks_on_carries must_wait by k due s = blocks_carries by (for_mutex k) due s

  pub locks_carries : (by : Caller) (k : ℕ) (due : Option ℕ) → Carries (locks by k due) (locks by k due)
  locks_carries by k due s =
      ap (λ (a : LockAnswer). carries_out_lock a by k due (T s)) (lock_answer_carries s.machine by.thread k due) ∙ locks_on_carries (lock_answer s.machine by.thread k due) by k due s

  pub tries_lock_carries : (by : Caller) (k : ℕ) → Carries (tries_lock by k) (tries_lock by k)
  tries_lock_carries by k s =
      ap (λ (a : LockAnswer). carries_out_lock a by k None (T s)) (trylock_answer_carries s.machine by.thread k) ∙ locks_on_carries (trylock_answer s.machine by.thread k) by k None s

  pub returns_from_wait_carries : (how : CondEnd) (t : ℕ) → Carries (returns_from_wait how t) (returns_from_wait how t)
  returns_from_wait_carries cond_end.Signalled t s = wakes_carries t res.Zero 0 s
  returns_from_wait_carries cond_end.Timedout t s = wakes_carries t res.Timedout 0 s
  returns_from_wait_carries cond_end.Cancelled t s = wakes_cancelled_carries t s

  wakes_owner_carries : (wait : Wait) (t : ℕ) → Carries (wakes_owner wait t) (wakes_owner wait t)
  wakes_owner_carries (for_mutex_again k how) t s = returns_from_wait_carries how t s
  wakes_owner_carries _ t s = wakes_carries t res.Zero 0 s

  hands_over_carries : (w : Option Waiter) (k : ℕ) → Carries (hands_over w k) (hands_over w k)
  hands_over_carries None k s = refl
  hands_over_carries (Some w) k s = wakes_owner_carries w.waiting.wait w.thread (changes_mutex k (taken_by w.thread) s)

  pub releases_carries : (k : ℕ) → Carries (releases k) (releases k)
  releases_carries k s =
      ap (λ (w : Option Waiter). hands_over w k (T s)) (best_carries carry s.machine (waits_for_mutex k)) ∙ hands_over_carries (best_waiter s.machine (waits_for_mutex k)) k s

  pub unlocks_carries : (by : Caller) (k : ℕ) → Carries (unlocks by k) (unlocks by k)
  unlocks_carries by k s =
      let back = returns by res.Zero 0 s in
      let back' : returns by res.Zero 0 (T s) ≡ T back = returns_carries by res.Zero 0 s in
      if_carries (not (owns s.machine by.thread k)) (not (owns s.machine by.thread k)) _ _ (returns by res.Perm 0 s) _ refl (returns_carries by res.Perm 0 s)
      (if_carries (nat_lt 1 (mutex_at s.machine k).count) (nat_lt 1 (mutex_at s.machine k).count) _ _ (changes_mutex k counted_down back) (releases k back) refl
      (ap (changes_mutex k counted_down) back') (ap (releases k) back' ∙ releases_carries k back))

  -- ---- conditions

  contends_for_carries : (k : Option ℕ) (t : ℕ) (how : CondEnd) → Carries (reacquires_or_waits k t how) (reacquires_or_waits k t how)
  contends_for_carries None t how s = refl
  contends_for_carries (Some k) t how s =
      let by : Caller = record { thread = t; call = call_in (waiting_of s.machine t) } in
      if_carries (is_free s.machine k) (is_free s.machine k) _ _ (returns_from_wait how t (changes_mutex k (taken_by t) s)) (blocks by (for_mutex_again k how) None s) refl
      (returns_from_wait_carries how t (changes_mutex k (taken_by t) s))
      (ap (λ (w : Option Waiting). blocks (record { thread = t; call = call_in w }) (for_mutex_again k how) None (T s)) (waiting_carries carry s.machine t) ∙ blocks_carries by (for_mutex_again k how) None s)

  pub contends_carries : (t : ℕ) (how : CondEnd) → Carries (contends t how) (contends t how)
  contends_carries t how s =
      ap (λ (o : Option Waiting). reacquires_or_waits (option_and_then (λ (w : Waiting). released_mutex w.wait) o) t how (T s)) (waiting_carries carry s.machine t)
      ∙ contends_for_carries (option_and_then (λ (w : Waiting). released_mutex w.wait) (waiting_of s.machine t)) t how s

  pub waits_carries : (by : Caller) (c k : ℕ) (due : Option ℕ) → Carries (waits by c k due) (waits by c k due)
  waits_carries by c k due s =
      let blocked = blocks by (for_condition c k) due s in
      if_carries (not (owns s.machine by.thread k)) (not (owns s.machine by.thread k)) _ _ (returns by res.Perm 0 s) _ refl (returns_carries by res.Perm 0 s)
      (if_carries _ (nat_lt 1 (mutex_at s.machine k).count || somebody_waits s.machine (waits_with_other_mutex c k)) _ _ (returns by res.Inval 0 s) _
      (ap (λ (b : Bool). nat_lt 1 (mutex_at s.machine k).count || b) (somebody_carries carry s.machine (waits_with_other_mutex c k))) (returns_carries by res.Inval 0 s)
      (if_carries (nat_lt 1 (length (owned_by s.machine by.thread))) (nat_lt 1 (length (owned_by s.machine by.thread))) _ _ (returns by res.Deadlk 0 s) (releases k blocked) refl
      (returns_carries by res.Deadlk 0 s) (ap (releases k) (blocks_carries by (for_condition c k) due s) ∙ releases_carries k blocked)))

  signals_waiter_carries : (w : Option Waiter) → Carries (signals_waiter w) (signals_waiter w)
  signals_waiter_carries None s = refl
  signals_waiter_carries (Some w) s = contends_carries w.thread cond_end.Signalled s

  pub signals_best_carries : (c : ℕ) → Carries (signals_best c) (signals_best c)
  signals_best_carries c s =
      ap (λ (w : Option Waiter). signals_waiter w (T s)) (best_carries carry s.machine (waits_on_condition c)) ∙ signals_waiter_carries (best_waiter s.machine (waits_on_condition c)) s

  signals_best_of_carries : (n c : ℕ) → Carries (signals_best_times n c) (signals_best_times n c)
  signals_best_of_carries zero c s = refl
  signals_best_of_carries (suc n) c s = ap (signals_best c) (signals_best_of_carries n c s) ∙ signals_best_carries c (signals_best_times n c s)

  pub signals_carries : (by : Caller) (c : ℕ) → Carries (signals by c) (signals by c)
  signals_carries by c = then_carries (returns by res.Zero 0) (signals_best c) (returns by res.Zero 0) (signals_best c) (returns_carries by res.Zero 0) (signals_best_carries c)

  pub broadcasts_carries : (by : Caller) (c : ℕ) → Carries (broadcasts by c) (broadcasts by c)
  broadcasts_carries by c s =
      let n = length (waiters s.machine (waits_on_condition c)) in
      ap₂ (λ (ws : List Waiter) (x : Turn Q). signals_best_times (length ws) c x) (waiters_carry carry s.machine (waits_on_condition c)) (returns_carries by res.Zero 0 s)
      ∙ signals_best_of_carries n c (returns by res.Zero 0 s)

  -- ---- semaphores

  pub blocks_unless_late_carries : (by : Caller) (wait : Wait) (due : Option ℕ) → Carries (blocks_unless_late by wait due) (blocks_unless_late by wait due)
  blocks_unless_late_carries by wait due s =
      if_carries _ (is_late due s.machine) _ _ (returns by res.Timedout 0 s) (blocks by wait due s) (late_carries due s.machine) (returns_carries by res.Timedout 0 s) (blocks_carries by wait due s)

  pub waits_semaphore_carries : (by : Caller) (k : ℕ) (due : Option ℕ) → Carries (waits_semaphore by k due) (waits_semaphore by k due)
  waits_semaphore_carries by k due s =
      if_carries (nat_lt 0 (semaphore_at s.machine k)) (nat_lt 0 (semaphore_at s.machine k)) _ _ (returns by res.Zero 0 (changes_semaphore k pred s)) (blocks_unless_late by (for_semaphore k) due s) refl
      (returns_carries by res.Zero 0 (changes_semaphore k pred s)) (blocks_unless_late_carries by (for_semaphore k) due s)

  pub tries_semaphore_carries : (by : Caller) (k : ℕ) → Carries (tries_semaphore by k) (tries_semaphore by k)
  tries_semaphore_carries by k s =
      if_carries (semaphore_at s.machine k == 0) (semaphore_at s.machine k == 0) _ _ (returns by res.Again 0 s) (returns by res.Zero 0 (changes_semaphore k pred s)) refl
      (returns_carries by res.Again 0 s) (returns_carries by res.Zero 0 (changes_semaphore k pred s))

  posts_to_carries : (w : Option Waiter) (by : Caller) (k : ℕ) → Carries (wakes_waiter_or_raises_value w by k) (wakes_waiter_or_raises_value w by k)
  posts_to_carries (Some w) by k s = ap (wakes w.thread res.Zero 0) (returns_carries by res.Zero 0 s) ∙ wakes_carries w.thread res.Zero 0 (returns by res.Zero 0 s)
  posts_to_carries None by k s =
      if_carries (semaphore_at s.machine k == semaphore_limit) (semaphore_at s.machine k == semaphore_limit) _ _ (returns by res.Overflow 0 s) (returns by res.Zero 0 (changes_semaphore k suc s)) refl
      (returns_carries by res.Overflow 0 s) (returns_carries by res.Zero 0 (changes_semaphore k suc s))

  pub posts_carries : (by : Caller) (k : ℕ) → Carries (posts by k) (posts by k)
  posts_carries by k s =
      ap (λ (w : Option Waiter). wakes_waiter_or_raises_value w by k (T s)) (best_carries carry s.machine (waits_on_semaphore k)) ∙ posts_to_carries (best_waiter s.machine (waits_on_semaphore k)) by k s

  -- ---- signals

  tells_overrun_carries : (k : Option ℕ) → Carries (tells_overrun k) (tells_overrun k)
  tells_overrun_carries None s = refl
  tells_overrun_carries (Some k) s = refl

  pub delivers_carries : (t : ℕ) (r : SignalRecord) → Carries (delivers t r) (delivers t r)
  delivers_carries t r s = tells_overrun_carries r.timer (tells (event.Deliver t r.signal r.code r.value) s)

  acceptor_carries : (m : Machine P) (r : SignalRecord) → acceptor (M carry m) r ≡ acceptor m r
  acceptor_carries m r = ap (λ (ws : List Waiter). first_by is_served_before (filter (λ (w : Waiter). may_go_to w.thread r.target) ws)) (waiters_carry carry m (accepts r))

  generates_for_carries : (w : Option Waiter) (r : SignalRecord) → Carries (is_accepted_or_pends w r) (is_accepted_or_pends w r)
  generates_for_carries (Some w) r s =
      ap (wakes w.thread res.Zero r.signal) (delivers_carries w.thread r s) ∙ wakes_carries w.thread res.Zero r.signal (delivers w.thread r s)
  generates_for_carries None r s = if_carries (is_ignore (action_of s.machine r.signal)) (is_ignore (action_of s.machine r.signal)) _ _ s (becomes_pending r s) refl refl refl

  pub generates_carries : (r : SignalRecord) → Carries (generates r) (generates r)
  generates_carries r s = ap (λ (w : Option Waiter). is_accepted_or_pends w r (T s)) (acceptor_carries s.machine r) ∙ generates_for_carries (acceptor s.machine r) r s

  pub sends_signal_carries : (by : Caller) (r : SignalRecord) → Carries (sends_signal by r) (sends_signal by r)
  sends_signal_carries by r s =
      let back = returns by res.Zero 0 s in
      if_carries _ (has_no_room s.machine r) _ _ (returns by res.Again 0 s) (generates r back)
      (ap (λ (w : Option Waiter). is_none w && not (is_ignore (action_of s.machine r.signal)) && is_full s.machine) (acceptor_carries s.machine r))
      (returns_carries by res.Again 0 s) (ap (generates r) (returns_carries by res.Zero 0 s) ∙ generates_carries r back)

  waits_ticks_carries : (n : Option ℕ) (by : Caller) (set : ℕ) → Carries (blocks_for_signal n by set) (blocks_for_signal n by set)
  waits_ticks_carries None by set s = blocks_carries by (for_signal set) None s
  waits_ticks_carries (Some zero) by set s = returns_carries by res.Again 0 s
  waits_ticks_carries (Some (suc n)) by set s = blocks_carries by (for_signal set) (Some (s.machine.now + suc n)) s

  pub waits_signal_on_carries : (r : Option SignalRecord) (n : Option ℕ) (by : Caller) (set : ℕ) → Carries (takes_signal_or_waits r n by set) (takes_signal_or_waits r n by set)
  waits_signal_on_carries (Some r) n by set s =
      let out = changes_pending (without_record r) s in
      ap (returns by res.Zero r.signal) (delivers_carries by.thread r out) ∙ returns_carries by res.Zero r.signal (delivers by.thread r out)
  waits_signal_on_carries None n by set s = waits_ticks_carries n by set s

  -- ---- time

  pub sleeps_until_carries : (by : Caller) (at : ℕ) → Carries (sleeps_until by at) (sleeps_until by at)
  sleeps_until_carries by at s =
      if_carries (has_passed at s.machine) (has_passed at s.machine) _ _ (returns by res.Zero 0 s) (blocks_unordered by for_time (Some at) s) refl
      (returns_carries by res.Zero 0 s) (blocks_unordered_carries by for_time (Some at) s)

  signals_expiry_carries : (k : ℕ) → Carries (signals_expiry k) (signals_expiry k)
  signals_expiry_carries k s =
      if_carries (is_pending_from k s.machine) (is_pending_from k s.machine) _ _ (changes_timer k overrun_once_more s) (generates (record_of_timer k (timer_at s.machine k)) s) refl refl (generates_carries (record_of_timer k (timer_at s.machine k)) s)

  pub expires_carries : (k : ℕ) → Carries (expires k) (expires k)
  expires_carries k s = ap (changes_timer k (armed_again s.machine.now)) (signals_expiry_carries k s)

  -- ---- message queues

  notifies_carries : (r : Option Registration) (q : ℕ) → Carries (notifies r q) (notifies r q)
  notifies_carries None q s = refl
  notifies_carries (Some r) q s = generates_carries (record_of_notification q r) (changes_queue q (registered None) s)

  fired_carries : (m : Machine P) (q : ℕ) → fired_by_message (M carry m) q ≡ fired_by_message m q
  fired_carries m q =
      ap (λ (b : Bool). if length (queue_at m q).messages == 0 && not b then (queue_at m q).registration else None) (somebody_carries carry m (waits_to_receive q))

  pub enters_carries : (q : ℕ) (x : Message) (f' : Turn Q → Turn Q) (f : Turn P → Turn P) → Carries f' f → Carries (enters q x f') (enters q x f)
  enters_carries q x f' f h s =
      let r = fired_by_message s.machine q in
      let put = changes_queue q (with_message x) s in
      ap₂ (λ (o : Option Registration) (y : Turn Q). notifies o q y) (fired_carries s.machine q) (h put) ∙ notifies_carries r q (f put)

  takes_over_carries : (w : Option Waiter) (q : ℕ) → Carries (takes_over w q) (takes_over w q)
  takes_over_carries None q s = refl
  takes_over_carries (Some w) q s = enters_carries q (message_of w.waiting.wait) (wakes w.thread res.Zero 0) (wakes w.thread res.Zero 0) (wakes_carries w.thread res.Zero 0) s

  blocks_unless_nonblock_carries : (by : Caller) (q : ℕ) (wait : Wait) (due : Option ℕ) → Carries (blocks_unless_nonblock by q wait due) (blocks_unless_nonblock by q wait due)
  blocks_unless_nonblock_carries by q wait due s =
      if_carries (queue_at s.machine q).is_nonblock (queue_at s.machine q).is_nonblock _ _ (returns by res.Again 0 s) (blocks_unless_late by wait due s) refl
      (returns_carries by res.Again 0 s) (blocks_unless_late_carries by wait due s)

  sends_to_carries : (w : Option Waiter) (by : Caller) (q : ℕ) (x : Message) (due : Option ℕ) → Carries (reaches_receiver_or_queue w by q x due) (reaches_receiver_or_queue w by q x due)
  sends_to_carries (Some w) by q x due s = ap (wakes w.thread res.Zero x.value) (returns_carries by res.Zero 0 s) ∙ wakes_carries w.thread res.Zero x.value (returns by res.Zero 0 s)
  sends_to_carries None by q x due s =
      if_carries (has_room (queue_at s.machine q)) (has_room (queue_at s.machine q)) _ _ (enters q x (returns by res.Zero 0) s) (blocks_unless_nonblock by q (for_room q x) due s) refl
      (enters_carries q x (returns by res.Zero 0) (returns by res.Zero 0) (returns_carries by res.Zero 0) s) (blocks_unless_nonblock_carries by q (for_room q x) due s)

  pub sends_message_carries : (by : Caller) (q len : ℕ) (x : Message) (due : Option ℕ) → Carries (sends_message by q len x due) (sends_message by q len x due)
  sends_message_carries by q len x due s =
      if_carries (nat_lt (queue_at s.machine q).longest len) (nat_lt (queue_at s.machine q).longest len) _ _ (returns by res.Msgsize 0 s) (reaches_receiver_or_queue (best_waiter s.machine (waits_to_receive q)) by q x due s) refl
      (returns_carries by res.Msgsize 0 s)
      (ap (λ (w : Option Waiter). reaches_receiver_or_queue w by q x due (T s)) (best_carries carry s.machine (waits_to_receive q)) ∙ sends_to_carries (best_waiter s.machine (waits_to_receive q)) by q x due s)

  receives_on_carries : (n : Option ℕ) (by : Caller) (q : ℕ) (due : Option ℕ) → Carries (takes_message_or_blocks n by q due) (takes_message_or_blocks n by q due)
  receives_on_carries (Some n) by q due s =
      let value = value_at (queue_at s.machine q).messages n in
      let out = changes_queue q (without_message n) s in
      ap₂ (λ (w : Option Waiter) (x : Turn Q). takes_over w q x) (best_carries carry s.machine (waits_to_send q)) (returns_carries by res.Zero value out)
      ∙ takes_over_carries (best_waiter s.machine (waits_to_send q)) q (returns by res.Zero value out)
  receives_on_carries None by q due s = blocks_unless_nonblock_carries by q (for_message q) due s

  pub receives_message_carries : (by : Caller) (q : ℕ) (due : Option ℕ) → Carries (receives_message by q due) (receives_message by q due)
  receives_message_carries by q due s = receives_on_carries (next_message (queue_at s.machine q).messages) by q due s

  pub asks_notification_carries : (by : Caller) (q : ℕ) (r : Registration) → Carries (asks_notification by q r) (asks_notification by q r)
  asks_notification_carries by q r s =
      if_carries (is_notifying s.machine q) (is_notifying s.machine q) _ _ (returns by res.Busy 0 s) (returns by res.Zero 0 (changes_queue q (registered (Some r)) s)) refl
      (returns_carries by res.Busy 0 s) (returns_carries by res.Zero 0 (changes_queue q (registered (Some r)) s))
