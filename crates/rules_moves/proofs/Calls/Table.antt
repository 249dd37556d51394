-- What every move keeps, every call of the table keeps, and so every unit, every timeout and every sweep.
use Rattle.std.proofs.Common.{Bool, List, None, Option, Some, [], ap, arith, false, inl, inr, length, refl, suc, sym, true, zero, ℕ, ◌+◌, ◌∷◌, ◌≡◌, ◌⊎◌}
use Rattle.std.specs.Prelude.{filter, nat_lt, not, option_and_then, ◌==◌, ◌&&◌, ◌||◌, if◌then◌else◌}
use mathlib.Core.Path.{subst, ◌∙◌}
use Rattle.words_numbers.specs.declared.res.Res.{Res}
use Rattle.words_numbers.specs.declared.res.Res.TheVariants as res
use Rattle.words_script.specs.declared.call.Call.{Call}
use Rattle.words_script.specs.declared.call.Call.TheVariants as call
use Rattle.words_script.specs.declared.policy.Policy.{Policy}
use Rattle.rules_bodies.specs.Next.{capped}
use Rattle.rules_bodies.specs.declared.unit.Unit.{Unit}
use Rattle.rules_bodies.specs.declared.unit.Unit.TheVariants as unit
use Rattle.words_trace.specs.declared.event.Event.TheVariants as event
use Rattle.rules_machine.specs.declared.frame.BodyOf.TheVariants as body_of
use Rattle.rules_machine.specs.declared.frame.FrameKind.{FrameKind}
use Rattle.rules_machine.specs.declared.frame.FrameKind.TheVariants as frame
use Rattle.rules_machine.specs.declared.signal.SigAction.{SigAction}
use Rattle.rules_machine.specs.declared.signal.SigAction.TheVariants as action
use Rattle.rules_machine.specs.declared.thread.CondEnd.TheVariants as cond_end
use Rattle.std.specs.Option.{option_map_or}
use Rattle.words_numbers.specs.Signals.{has_signal}
use Rattle.rules_machine.specs.Lists.{changed_at, numbers}
use Rattle.rules_machine.specs.Bodies.{Bodies}
use Rattle.rules_machine.specs.Clock.{changes_each, clock_at, clock_limit, due_as_set, moves_times, sets_real_clock, thread_moved, timer_moved}
use Rattle.rules_machine.specs.State.{Joiner, Machine, SignalRecord, Thread, Wait, Waiting, for_condition, for_end, for_mutex, for_mutex_again, for_signal, for_time, has_joined, nobody, waits_to_join}
use Rattle.rules_machine.specs.Threads.{action_of, can_run, is_dormant, is_live, is_runnable, lives, moment_of, no_thread, number_of, real_time, thread_at, thread_in, thread_numbers, timer_at, top_kind, waiting_of}
use Rattle.rules_machine.specs.Waiters.{waiters}
use Rattle.rules_machine.specs.Turns.{Caller, Turn, changes, changes_pending, changes_timer, moves_if, returns, tells}
use Rattle.rules_machine.specs.Waking.{cancelled_value, new_frame}
use Rattle.rules_machine.specs.Mutexes.{owns_boosting}
use Rattle.rules_machine.specs.Conditions.{waits_on_condition}
use Rattle.rules_machine.specs.Signals.{may_go_to, is_kill, is_selected_before, selected, record_of_kill, record_of_sigqueue, sets_mask, with_signals, without_record, without_signals}
use Rattle.rules_machine.specs.Timers.{armed, first_expiry, timer_moment}
use Rattle.rules_machine.specs.Lives.{creates, ends, ends_frame, inherited_mask, is_nobody, joins, wakes_joiner, with_joiner, without_life, without_target}
use Rattle.rules_machine.specs.Cancellation.{cancels, is_cancellation_point, leaves, leaves_wait, request_acts, requested, runs_cleanup_if}
use Rattle.rules_machine.specs.Budget.{renews}
use Rattle.rules_machine.specs.GoodState.{ClockFits}
use Rattle.rules_machine.specs.Scheduling.{sets_policy, sets_priority, takes_priority}
use Rattle.rules_machine.specs.Calls.{call_effect, makes_call, unit_effect}
use Rattle.rules_machine.specs.Delivery.{can_take, defers_handlers, may_be_interrupted, may_run_handler, acts, interrupts, sweeps_all, sweeps_thread, taken_by_sweep, takes_record, ticks_left}
use Rattle.rules_machine.specs.DueItems.{has_come, times_out, wait_times_out}
use Rattle.rules_machine.proofs.Reading.{changed-keeps, thread-other}
use Rattle.rules_moves.specs.Moves.{KeepsAwake, Stops, is_for_end, rejoins, Runs, alters, begins, core_of, directs, does, drops, ends_process, ends_with, enters_frame, leaves_frame, lives_no_more, prices, pushes, record_out, records_of_ended, renews_with, sets_clock_to, sets_timer_by, tells_of}
use Rattle.rules_machine.specs.WellFormed.{CallFits, IsPriority, PolicyFits}
use Rattle.rules_moves.specs.UnitRanges.{UnitFits}
use Rattle.rules_moves.proofs.Waiters.Best.{Each, first_one}
use Rattle.rules_moves.proofs.Calls.Commuting.{moved_core, status_kept}
use Rattle.rules_moves.proofs.Calls.Answers.{waits_blocked}
use Rattle.rules_moves.proofs.Calls.Objects.{answered_status, wait_may, answers_done, branch, contends_keep, either, locks_keep, posts_keep, returns_keep, signals_best_of_keep, still_blocked, tries_lock_keep, tries_semaphore_keep, unlocks_keep, waits_semaphore_keep, wakes_cancelled_keep, wakes_keep}
use Rattle.rules_moves.proofs.Calls.ConditionWaits.{waits_keep}
use Rattle.rules_moves.proofs.Calls.Signals.{delivers_keep, sends_signal_keep, sleeps_until_keep, waits_signal_keep}
use Rattle.rules_moves.proofs.Calls.Queues.{asks_notification_keep, receives_message_keep, sends_message_keep}

-- who waits to join a thread waits for its end, without a limit
abbrev pub JoinersWait : {P : Type 0} → Turn P → Type 0
JoinersWait s = (t u : ℕ) → (thread_at s.machine t).joiner ≡ waits_to_join u → (w : Waiting) × (waiting_of s.machine u ≡ Some w) × (w.wait ≡ for_end t) × (w.due ≡ None)

abbrev IsNoWait : Joiner → Type 0
IsNoWait j = (u : ℕ) → j ≡ waits_to_join u → ⊥

pub nobody_waits_so : IsNoWait nobody
nobody_waits_so u e = absurd (grind arith)

joined_waits_not : IsNoWait has_joined
joined_waits_not u e = absurd (grind arith)

pub rejoined : {P : Type 0} (ths : List (Thread P)) (t : ℕ) (j : Joiner) → ((thread_in (changed_at no_thread t (with_joiner j) ths) t).joiner ≡ j) ⊎ ((thread_in (changed_at no_thread t (with_joiner j) ths) t).joiner ≡ nobody)
rejoined [] t j = inr refl
rejoined (th ∷ ths) zero j = inl refl
rejoined (th ∷ ths) (suc t) j = rejoined ths t j

one_end : {t v : ℕ} → for_end t ≡ for_end v → t ≡ v
one_end {t} {v} e = ap of_end e
  where
    of_end : Wait → ℕ
    of_end (for_end u) = u
    of_end wait = t

-- who waited for the end of a thread that is joined otherwise is nobody's joiner any more
unawaited : {P : Type 0} (t : ℕ) (j : Joiner) (u : ℕ) (s : Turn P) (w : Waiting) → IsNoWait j → JoinersWait s → waiting_of s.machine u ≡ Some w → w.wait ≡ for_end t →
    (v : ℕ) → (thread_at (changes t (with_joiner j) s).machine v).joiner ≡ waits_to_join u → ⊥
unawaited {P} t j u s w none joined e h v k = by_eq (t == v) refl
  where
    by_eq : (b : Bool) → (t == v) ≡ b → ⊥
    by_eq true q = let it : t ≡ v = grind arith in of_two (rejoined s.machine.threads t j) (subst (λ (i : ℕ). (thread_at (changes t (with_joiner j) s).machine i).joiner ≡ waits_to_join u) (sym it) k)
      where
        of_two : ((thread_at (changes t (with_joiner j) s).machine t).joiner ≡ j) ⊎ ((thread_at (changes t (with_joiner j) s).machine t).joiner ≡ nobody) → (thread_at (changes t (with_joiner j) s).machine t).joiner ≡ waits_to_join u → ⊥
        of_two (inl p) r = none u (sym p ∙ r)
        of_two (inr p) r = nobody_waits_so u (sym p ∙ r)
    by_eq false q =
        let old = joined v u (sym (ap (λ (th : Thread P). th.joiner) (thread-other s.machine t v (with_joiner j) q)) ∙ k) in
        let same : w ≡ old.0 = only (sym e ∙ old.1) in
        let it : t ≡ v = one_end (sym h ∙ ap (λ (x : Waiting). x.wait) same ∙ old.2) in absurd (grind arith)
      where
        only : {a b : Waiting} → Some a ≡ Some b → a ≡ b
        only {a} {b} p = ap out p
          where
            out : Option Waiting → Waiting
            out None = a
            out (Some x) = x

-- ---- a thread that a handler may interrupt does not wait for an end

not_deferred : (wait : Wait) → defers_handlers wait ≡ false → is_for_end wait ≡ false
not_deferred (for_end u) e = absurd (grind arith)
not_deferred wait e = refl

each_passing : {X : Type 0} (passes : X → Bool) (xs : List X) → Each (λ (x : X). passes x ≡ true) (filter passes xs)
each_passing passes [] = tt
each_passing {X} passes (x ∷ xs) = split (passes x) refl (each_passing passes xs)
  where
    split : (b : Bool) → passes x ≡ b → Each (λ (x : X). passes x ≡ true) (filter passes xs) → Each (λ (x : X). passes x ≡ true) (filter passes (x ∷ xs))
    split true e rest = rw e (e, rest)
    split false e rest = rw e rest

taken_fits : {P : Type 0} (m : Machine P) (t : ℕ) (r : SignalRecord) → taken_by_sweep m t ≡ Some r → can_take m t r ≡ true
taken_fits m t r e = by_test (may_be_interrupted (thread_at m t)) e
  where
    by_test : (b : Bool) → (if b then selected m (can_take m t) else None) ≡ Some r → can_take m t r ≡ true
    by_test true h = first_one (λ (x : SignalRecord). can_take m t x ≡ true) is_selected_before (filter (can_take m t) m.pending) r (each_passing (can_take m t) m.pending) h
    by_test false h = absurd (grind arith)

abbrev MayInterrupt : {P : Type 0} → Machine P → ℕ → SigAction → Type 0
MayInterrupt m t a = is_kill a ≡ false → may_run_handler m t ≡ true

take_may : {P : Type 0} (m : Machine P) (t : ℕ) (r : SignalRecord) → can_take m t r ≡ true → MayInterrupt m t (action_of m r.signal)
take_may m t r e k = last_of (may_go_to t r.target && not (has_signal (thread_at m t).mask r.signal)) (is_kill (action_of m r.signal)) (may_run_handler m t) e k
  where
    last_of : (a b c : Bool) → (a && (b || c)) ≡ true → b ≡ false → c ≡ true
    last_of a b c e k = grind arith

-- a reading that the clock takes leaves it in its range
clock_set : (reading now : ℕ) → nat_lt clock_limit reading ≡ false → ClockFits now (clock_at reading now)
clock_set reading now e = record { behind = omega arith; ahead = grind arith }

module _ {P : Type 0} (bodies : Bodies P) (who : Option ℕ) (Law Done : Turn P → Type 0) (keeps : KeepsAwake bodies who Law) (stops : Stops who Law Done) (joined : (s : Turn P) → Law s → JoinersWait s) where
  either' : (b : Bool) (x y : Turn P) → (b ≡ true → Law x) → (b ≡ false → Law y) → Law (if b then x else y)
  either' = either bodies who Law Done keeps stops

  answer : (by : Caller) (r : Res) (v : ℕ) (s : Turn P) → Law s → Law (returns by r v s)
  answer = returns_keep bodies who Law Done keeps stops

  -- a thread changes in nothing that others go by
  same : (t : ℕ) (f : Thread P → Thread P) → ((th : Thread P) → core_of (f th) ≡ core_of th) → (s : Turn P) → Law s → Law (changes t f s)
  same t f h s q = keeps (alters t f) s h q

  -- an effect on a thread that lives
  live_keep : (by : Caller) (u : ℕ) (x s : Turn P) → (lives s.machine u ≡ true → Law x) → Law s → Law (if lives s.machine u then x else returns by res.Srch 0 s)
  live_keep by u x s h q = either' (lives s.machine u) x _ h (λ dead. answer by res.Srch 0 s q)

  moves_if_keep : (b : Bool) (t : ℕ) (s : Turn P) → Law s → Law (moves_if b t s)
  moves_if_keep true t s q = keeps (directs t) s tt q
  moves_if_keep false t s q = q

  branch' : (b : Bool) (x y : Turn P) → (b ≡ true → Done x) → (b ≡ false → Done y) → Done (if b then x else y)
  branch' = branch bodies who Law Done keeps stops

  reply : (by : Caller) (r : Res) (v : ℕ) (s : Turn P) → Law s → Done (returns by r v s)
  reply = answers_done bodies who Law Done keeps stops

  -- ---- lives

  creates_keep : (by : Caller) (u : ℕ) (s : Turn P) → Law s → Law (creates bodies by u s)
  creates_keep by u s q =
      either' (is_dormant (thread_at s.machine u).status) _ _
      (λ dormant. keeps (begins u (inherited_mask (thread_at s.machine by.thread))) (returns by res.Zero 0 s) (ap is_dormant (answered_status by res.Zero 0 s u) ∙ dormant) (answer by res.Zero 0 s q))
      (λ started. answer by res.Again 0 s q)

  free_of : {b : Bool} → not b ≡ false → b ≡ true
  free_of {b} e = grind arith

  joins_keep : (by : Caller) (u : ℕ) (s : Turn P) → Runs who s.machine by.thread → Law s → Done (joins by u s)
  joins_keep by u s runs q =
      branch' (u == by.thread) _ _ (λ e. reply by res.Deadlk 0 s q)
      (λ other. branch' (is_dormant (thread_at s.machine u).status) _ _ (λ e. reply by res.Srch 0 s q)
      (λ e. branch' (not (is_nobody (thread_at s.machine u).joiner)) _ _ (λ e. reply by res.Inval 0 s q)
      (λ e. branch' (lives s.machine u) _ _
      (λ live. stops.joins by u s runs other (free_of e) q)
      (λ ended. reply by res.Zero (thread_at s.machine u).exit_value _ (keeps (rejoins u has_joined) s joined_waits_not q)))))

  wakes_joiner_keep : (j : Joiner) (t : ℕ) (s : Turn P) → (thread_at s.machine t).joiner ≡ j → Law s → Law (wakes_joiner j t s)
  wakes_joiner_keep nobody t s e q = q
  wakes_joiner_keep has_joined t s e q = q
  wakes_joiner_keep (waits_to_join u) t s e q =
      let waits = joined s q t u e in
      let after = changes t (with_joiner has_joined) s in
      wakes_keep bodies who Law Done keeps stops u res.Zero (thread_at s.machine t).exit_value after
      (still_blocked _ _ (status_kept t u (with_joiner has_joined) (λ th. refl) s) (waits_blocked s.machine u waits.0 waits.1), inr (unawaited t has_joined u s waits.0 joined_waits_not (joined s q) waits.1 waits.2))
      (keeps (rejoins t has_joined) s joined_waits_not q)

  abbrev gone : ℕ → Turn P → Turn P
  gone t s = changes_pending (without_target t) (tells (event.Exit t) (changes t without_life s))

  ends_keep : (t : ℕ) (s : Turn P) → Runs who s.machine t → Law s → Law (ends t s)
  ends_keep t s runs q = let left : Law (gone t s) = keeps (records_of_ended t) _ tt (keeps (lives_no_more t) s runs q) in
      wakes_joiner_keep (thread_at s.machine t).joiner t (gone t s) (changed-keeps no_thread t t without_life (λ (th : Thread P). th.joiner) (λ th. refl) s.machine.threads) left

  finishes_in_keep : (kind : FrameKind) (t : ℕ) (s : Turn P) → Runs who s.machine t → Law s → Law (ends_frame kind t s)
  finishes_in_keep frame.Main t s runs q = ends_keep t s runs q
  finishes_in_keep frame.Cleanup t s runs q = keeps (leaves_frame t) s tt q
  finishes_in_keep frame.Signal t s runs q = keeps (leaves_frame t) s tt q

  -- ---- cancellation

  leaves_keep : (wait : Wait) (u : ℕ) (s : Turn P) (w : Waiting) → waiting_of s.machine u ≡ Some w → w.wait ≡ wait → Law s → Law (leaves wait u s)
  leaves_keep (for_mutex k) u s w e h q = q
  leaves_keep (for_mutex_again k how) u s w e h q = q
  leaves_keep (for_condition c k) u s w e h q = contends_keep bodies who Law Done keeps stops u cond_end.Cancelled s q
  leaves_keep (for_end t) u s w e h q =
      wakes_cancelled_keep bodies who Law Done keeps stops u (changes t (with_joiner nobody) s)
      (still_blocked _ _ (status_kept t u (with_joiner nobody) (λ th. refl) s) (waits_blocked s.machine u w e), inr (unawaited t nobody u s w nobody_waits_so (joined s q) e h))
      (keeps (rejoins t nobody) s nobody_waits_so q)
  leaves_keep _ u s w e h q = wakes_cancelled_keep bodies who Law Done keeps stops u s (wait_may s.machine u w e (ap is_for_end h)) q

  leaves_wait_keep : (o : Option Waiting) (u : ℕ) (s : Turn P) → waiting_of s.machine u ≡ o → Law s → Law (leaves_wait o u s)
  leaves_wait_keep None u s e q = q
  leaves_wait_keep (Some w) u s e q = leaves_keep w.wait u s w e refl q

  cancels_keep : (by : Caller) (u : ℕ) (s : Turn P) → Law s → Law (cancels by u s)
  cancels_keep by u s q = live_keep by u _ s (λ live. let asked = changes u requested (returns by res.Zero 0 s) in
      let k : Law asked = same u requested (λ th. refl) (returns by res.Zero 0 s) (answer by res.Zero 0 s q) in
      either' (request_acts (thread_at asked.machine u)) _ _ (λ acts. leaves_wait_keep (waiting_of asked.machine u) u asked refl k) (λ e. k)) q

  runs_cleanup_keep : (b : Bool) (us : List ℕ) (t : ℕ) (s : Turn P) → Law s → Law (changes t (runs_cleanup_if b bodies us) s)
  runs_cleanup_keep false us t s q = same t (λ th. th) (λ th. refl) s q
  runs_cleanup_keep true [] t s q = same t (λ th. th) (λ th. refl) s q
  runs_cleanup_keep true (u ∷ us) t s q = keeps (enters_frame t (new_frame bodies frame.Cleanup (body_of.Cleanup u) 0)) s tt q

  -- ---- scheduling

  sets_priority_keep : (by : Caller) (u p : ℕ) (s : Turn P) → IsPriority p → Law s → Law (sets_priority by u p s)
  sets_priority_keep by u p s small q = live_keep by u _ s (λ live.
      either' (takes_priority (thread_at s.machine u).policy p) _ _ (λ fits. answer by res.Zero 0 _ (keeps (prices u p) s (live, fits, small) q)) (λ e. answer by res.Inval 0 s q)) q

  abbrev renewing : Bool → ℕ → Policy → Turn P → Turn P
  renewing active u new s = does bodies (renews_with active u new) s

  sets_policy_keep : (by : Caller) (u : ℕ) (new : Policy) (s : Turn P) → PolicyFits new → stops.renewable u ≡ true → Law s → Law (sets_policy by u new s)
  sets_policy_keep by u new s known fits q = live_keep by u _ s (λ live.
      let told = returns by res.Zero 0 s in
      let renewed = stops.renewing (can_run s.machine u) u new told fits (ap is_live (answered_status by res.Zero 0 s u) ∙ live) (sym (ap is_runnable (answered_status by res.Zero 0 s u))) known (answer by res.Zero 0 s q) in
      moves_if_keep (not (owns_boosting (renewing (can_run s.machine u) u new told).machine u)) u (renewing (can_run s.machine u) u new told) renewed) q

  sets_mask_keep : (by : Caller) (change : ℕ → ℕ) (s : Turn P) → Law s → Law (sets_mask by change s)
  sets_mask_keep by change s q = answer by res.Zero 0 _ (same by.thread (λ th. record th { mask = change th.mask }) (λ th. refl) s q)

  -- ---- the clock

  each_keep : (change : ℕ → Turn P → Turn P) → ((n : ℕ) (s : Turn P) → Law s → Law (change n s)) → (ns : List ℕ) (s : Turn P) → Law s → Law (changes_each change ns s)
  each_keep change each [] s q = q
  each_keep change each (n ∷ ns) s q = each_keep change each ns (change n s) (each n s q)

  moves_times_keep : (move : ℕ → ℕ) (s : Turn P) → Law s → Law (moves_times move s)
  moves_times_keep move s q =
      each_keep (λ k. changes_timer k (timer_moved move)) (λ k s q. keeps (sets_timer_by k (timer_moved move)) s tt q) (numbers s.machine.timers) _
      (each_keep (λ t. changes t (thread_moved move)) (λ t s q. same t (thread_moved move) (moved_core move) s q) (thread_numbers s.machine) s q)

  sets_real_clock_keep : (by : Caller) (reading : ℕ) (s : Turn P) → Law s → Law (sets_real_clock by reading s)
  sets_real_clock_keep by reading s q =
      either' (nat_lt clock_limit reading) _ _ (λ e. answer by res.Inval 0 s q)
      (λ e. answer by res.Zero 0 _ (moves_times_keep (due_as_set s.machine.now (real_time s.machine) reading) _ (keeps (sets_clock_to (clock_at reading s.machine.now)) s (clock_set reading s.machine.now e) q)))

  -- ---- the table

  itself : (u : ℕ) → (u == u) ≡ true
  itself u = grind arith

  -- a call that gives a thread a new policy gives it to one that may have it
  abbrev pub Fits : Unit → Type 0
  Fits u = (v : ℕ) → renews v u ≡ true → stops.renewable v ≡ true

  call_keep : (by : Caller) (c : Call) (s : Turn P) → CallFits c → Runs who s.machine by.thread → Fits (unit.Make c) → Law s → Done (call_effect bodies by c s)
  call_keep by call.Yield s known runs fits q = stops.done _ (answer by res.Zero 0 _ (keeps (directs by.thread) s tt q))
  call_keep by (call.Create u) s known runs fits q = stops.done _ (creates_keep by u s q)
  call_keep by (call.Join u) s known runs fits q = joins_keep by u s runs q
  call_keep by (call.Cancel u) s known runs fits q = stops.done _ (cancels_keep by u s q)
  call_keep by call.Testcancel s known runs fits q = stops.done _ (answer by res.Zero 0 s q)
  call_keep by (call.Setcancel on) s known runs fits q = stops.done _ (answer by res.Zero 0 _ (same by.thread (λ th. record th { is_enabled = on }) (λ th. refl) s q))
  call_keep by (call.Push u) s known runs fits q = stops.done _ (answer by res.Zero 0 _ (keeps (pushes by.thread u) s tt q))
  call_keep by (call.Pop b) s known runs fits q = stops.done _ (runs_cleanup_keep b (thread_at s.machine by.thread).cleanups by.thread _ (answer by res.Zero 0 _ (keeps (drops by.thread) s tt q)))
  call_keep by (call.Exit v) s known runs fits q = stops.done _ (keeps (ends_with by.thread (number_of s.machine by.thread v)) s tt q)
  call_keep by (call.Setprio u p) s known runs fits q = stops.done _ (sets_priority_keep by u p s known q)
  call_keep by (call.Setsched u policy) s known runs fits q = stops.done _ (sets_policy_keep by u policy s known (fits u (itself u)) q)
  call_keep by (call.Lock k) s known runs fits q = locks_keep bodies who Law Done keeps stops by k None s runs q
  call_keep by (call.Timedlock k at) s known runs fits q = locks_keep bodies who Law Done keeps stops by k (Some (moment_of s.machine by.thread at)) s runs q
  call_keep by (call.Trylock k) s known runs fits q = tries_lock_keep bodies who Law Done keeps stops by k s runs q
  call_keep by (call.Unlock k) s known runs fits q = stops.done _ (unlocks_keep bodies who Law Done keeps stops by k s q)
  call_keep by (call.Wait c k) s known runs fits q = waits_keep bodies who Law Done keeps stops by c k None s runs q
  call_keep by (call.Timedwait c k at) s known runs fits q = waits_keep bodies who Law Done keeps stops by c k (Some (moment_of s.machine by.thread at)) s runs q
  call_keep by (call.Signal c) s known runs fits q = stops.done _ (signals_best_of_keep bodies who Law Done keeps stops 1 c (returns by res.Zero 0 s) (answer by res.Zero 0 s q))
  call_keep by (call.Broadcast c) s known runs fits q = stops.done _ (signals_best_of_keep bodies who Law Done keeps stops (length (waiters s.machine (waits_on_condition c))) c (returns by res.Zero 0 s) (answer by res.Zero 0 s q))
  call_keep by (call.SemWait k) s known runs fits q = waits_semaphore_keep bodies who Law Done keeps stops by k None s runs q
  call_keep by (call.SemTimedwait k at) s known runs fits q = waits_semaphore_keep bodies who Law Done keeps stops by k (Some (moment_of s.machine by.thread at)) s runs q
  call_keep by (call.SemTrywait k) s known runs fits q = stops.done _ (tries_semaphore_keep bodies who Law Done keeps stops by k s q)
  call_keep by (call.SemGetvalue k) s known runs fits q = stops.done _ (answer by res.Zero _ s q)
  call_keep by (call.SemPost k) s known runs fits q = stops.done _ (posts_keep bodies who Law Done keeps stops by k s q)
  call_keep by (call.Nanosleep n) s known runs fits q = sleeps_until_keep bodies who Law Done keeps stops by (s.machine.now + n) s runs q
  call_keep by (call.ClockNanosleep at) s known runs fits q = sleeps_until_keep bodies who Law Done keeps stops by (moment_of s.machine by.thread at) s runs q
  call_keep by call.Gettime s known runs fits q = stops.done _ (answer by res.Zero _ s q)
  call_keep by call.RealGettime s known runs fits q = stops.done _ (answer by res.Zero _ s q)
  call_keep by (call.ClockSettime at) s known runs fits q = stops.done _ (sets_real_clock_keep by (number_of s.machine by.thread at) s q)
  call_keep by (call.TimerSettimeRel k n interval) s known runs fits q = stops.done _ (answer by res.Zero 0 _ (keeps (sets_timer_by k (armed (first_expiry n (s.machine.now + n)) false interval)) s tt q))
  call_keep by (call.TimerSettimeAbs k at interval) s known runs fits q =
      stops.done _ (answer by res.Zero 0 _ (keeps (sets_timer_by k (armed (first_expiry (number_of s.machine by.thread at) (timer_moment s.machine k (number_of s.machine by.thread at))) (timer_at s.machine k).is_real interval)) s tt q))
  call_keep by (call.TimerGettime k) s known runs fits q = stops.done _ (answer by res.Zero _ s q)
  call_keep by (call.TimerGetoverrun k) s known runs fits q = stops.done _ (answer by res.Zero _ s q)
  call_keep by (call.Kill signal) s known runs fits q = stops.done _ (sends_signal_keep bodies who Law Done keeps stops by (record_of_kill signal None) s (record { timer = refl; queue = refl }) q)
  call_keep by (call.Tkill u signal) s known runs fits q =
      stops.done _ (live_keep by u _ s (λ live. sends_signal_keep bodies who Law Done keeps stops by (record_of_kill signal (Some u)) s (record { timer = refl; queue = refl }) q) q)
  call_keep by (call.Sigqueue signal v) s known runs fits q =
      stops.done _ (sends_signal_keep bodies who Law Done keeps stops by (record_of_sigqueue signal (number_of s.machine by.thread v)) s (record { timer = refl; queue = refl }) q)
  call_keep by (call.SigmaskBlock set) s known runs fits q = stops.done _ (sets_mask_keep by (with_signals set) s q)
  call_keep by (call.SigmaskUnblock set) s known runs fits q = stops.done _ (sets_mask_keep by (without_signals set) s q)
  call_keep by (call.SigmaskSet set) s known runs fits q = stops.done _ (sets_mask_keep by (λ (mask : ℕ). set) s q)
  call_keep by (call.Sigwaitinfo set) s known runs fits q = waits_signal_keep bodies who Law Done keeps stops None by set s runs q
  call_keep by (call.Sigtimedwait set n) s known runs fits q = waits_signal_keep bodies who Law Done keeps stops (Some n) by set s runs q
  call_keep by (call.MqSend q' len p v) s known runs fits q = sends_message_keep bodies who Law Done keeps stops by q' len _ None s runs q
  call_keep by (call.MqTimedsend q' len p v at) s known runs fits q = sends_message_keep bodies who Law Done keeps stops by q' len _ (Some (moment_of s.machine by.thread at)) s runs q
  call_keep by (call.MqReceive q') s known runs fits q = receives_message_keep bodies who Law Done keeps stops by q' None s runs q
  call_keep by (call.MqTimedreceive q' at) s known runs fits q = receives_message_keep bodies who Law Done keeps stops by q' (Some (moment_of s.machine by.thread at)) s runs q
  call_keep by (call.MqNotify q' signal v) s known runs fits q = stops.done _ (asks_notification_keep bodies who Law Done keeps stops by q' _ s q)

  makes_call_keep : (by : Caller) (s : Turn P) → CallFits by.call → Runs who s.machine by.thread → Fits (unit.Make by.call) → Law s → Done (makes_call bodies by s)
  makes_call_keep by s known runs fits q =
      branch' (is_cancellation_point by.call && request_acts (thread_at s.machine by.thread)) _ _
      (λ acts. stops.done _ (keeps (ends_with by.thread cancelled_value) _ tt (keeps (tells_of (event.Cancel by.thread)) s refl q))) (λ e. call_keep by by.call s known runs fits q)

  pub unit_keep : (t : ℕ) (u : Unit) (s : Turn P) → UnitFits u → Runs who s.machine t → Fits u → Law s → Done (unit_effect bodies t u s)
  unit_keep t (unit.Run n) s known runs fits q = stops.done s q
  unit_keep t (unit.Make c) s known runs fits q = makes_call_keep (record { thread = t; call = c }) s known runs fits q
  unit_keep t unit.Jump s known runs fits q = stops.done s q
  unit_keep t unit.Finish s known runs fits q = stops.done _ (finishes_in_keep (top_kind (thread_at s.machine t).frames) t s runs q)

  -- ---- due items

  times_out_of_keep : (wait : Wait) (t : ℕ) (s : Turn P) (w : Waiting) → waiting_of s.machine t ≡ Some w → w.wait ≡ wait → has_come w.due s.machine.now ≡ true → Law s → Law (wait_times_out wait t s)
  times_out_of_keep (for_condition c k) t s w e h d q = contends_keep bodies who Law Done keeps stops t cond_end.Timedout s q
  times_out_of_keep for_time t s w e h d q = wakes_keep bodies who Law Done keeps stops t res.Zero 0 s (wait_may s.machine t w e (ap is_for_end h)) q
  times_out_of_keep (for_signal set) t s w e h d q = wakes_keep bodies who Law Done keeps stops t res.Again 0 s (wait_may s.machine t w e (ap is_for_end h)) q
  times_out_of_keep (for_end u) t s w e h d q = wakes_keep bodies who Law Done keeps stops t res.Timedout 0 s (waits_blocked s.machine t w e, inr never) q
    where
      never : (v : ℕ) → (thread_at s.machine v).joiner ≡ waits_to_join t → ⊥
      never v k =
          let old = joined s q v t k in
          let due : w.due ≡ None = due_of (sym e ∙ old.1) ∙ old.3 in
          no_time (ap (λ (o : Option ℕ). has_come o s.machine.now) (sym due) ∙ d)
        where
          due_of : {a b : Waiting} → Some a ≡ Some b → a.due ≡ b.due
          due_of {a} {b} p = ap out p
            where
              out : Option Waiting → Option ℕ
              out None = a.due
              out (Some x) = x.due

          no_time : has_come None s.machine.now ≡ true → ⊥
          no_time p = grind arith
  times_out_of_keep _ t s w e h d q = wakes_keep bodies who Law Done keeps stops t res.Timedout 0 s (wait_may s.machine t w e (ap is_for_end h)) q

  pub times_out_keep : (o : Option Waiting) (t : ℕ) (s : Turn P) → waiting_of s.machine t ≡ o → has_come (option_and_then (λ (w : Waiting). w.due) o) s.machine.now ≡ true → Law s → Law (times_out o t s)
  times_out_keep None t s e d q = q
  times_out_keep (Some w) t s e d q = times_out_of_keep w.wait t s w e refl d q

  -- ---- the sweep

  interrupts_keep : (o : Option Waiting) (t : ℕ) (s : Turn P) → waiting_of s.machine t ≡ o → option_map_or (λ (w : Waiting). defers_handlers w.wait) o false ≡ false → Law s → Law (interrupts o t s)
  interrupts_keep None t s e d q = q
  interrupts_keep (Some w) t s e d q = wakes_keep bodies who Law Done keeps stops t res.Intr (ticks_left w.call w.due s.machine.now) s (wait_may s.machine t w e (not_deferred w.wait d)) q

  free_of' : {b : Bool} → not b ≡ true → b ≡ false
  free_of' {b} e = grind arith

  acts_keep : (a : SigAction) (t : ℕ) (r : SignalRecord) (s : Turn P) → MayInterrupt s.machine t a → Law s → Law (acts bodies a t r s)
  acts_keep action.Kill t r s may q = keeps (ends_process r.signal) _ tt (keeps (tells_of (event.Killed r.signal)) s refl q)
  acts_keep action.Ignore t r s may q = q
  acts_keep (action.Handler h) t r s may q =
      let out = changes_pending (without_record r) s in
      keeps (enters_frame t (new_frame bodies frame.Signal (body_of.Handler h) (capped r.value))) _ tt
      (delivers_keep bodies who Law Done keeps stops t r _ (interrupts_keep (waiting_of s.machine t) t out refl (free_of' (may refl)) (keeps (record_out r) s tt q)))

  takes_record_keep : (o : Option SignalRecord) (t : ℕ) (s : Turn P) → taken_by_sweep s.machine t ≡ o → Law s → Law (takes_record bodies o t s)
  takes_record_keep None t s e q = q
  takes_record_keep (Some r) t s e q = acts_keep (action_of s.machine r.signal) t r s (take_may s.machine t r (taken_fits s.machine t r e)) q

  sweeps_thread_keep : (killed : Option ℕ) (t : ℕ) (s : Turn P) → Law s → Law (sweeps_thread bodies killed t s)
  sweeps_thread_keep None t s q = takes_record_keep (taken_by_sweep s.machine t) t s refl q
  sweeps_thread_keep (Some signal) t s q = q

  pub sweeps_all_keep : (ts : List ℕ) (s : Turn P) → Law s → Law (sweeps_all bodies ts s)
  sweeps_all_keep [] s q = q
  sweeps_all_keep (t ∷ ts) s q = sweeps_all_keep ts (sweeps_thread bodies s.machine.killed t s) (sweeps_thread_keep s.machine.killed t s q)
