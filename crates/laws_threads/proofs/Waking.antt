-- What threads keep, they keep where they answer, block, wake and start, where their servers act, and where mutexes change hands.
use Rattle.std.proofs.Common.{Bool, None, Option, Some, false, inl, inr, length, refl, subst, suc, sym, true, zero, ℕ, ◌∙◌, ◌≡◌}
use Rattle.std.specs.Prelude.{nat_lt, not, option_and_then, ◌&&◌, ◌||◌}
use Rattle.words_numbers.specs.declared.res.Res.{Res}
use Rattle.words_numbers.specs.declared.res.Res.TheVariants as res
use Rattle.words_script.specs.declared.call.Call.{Call}
use Rattle.words_trace.specs.declared.event.Event.{Event}
use Rattle.words_trace.specs.declared.event.Event.TheVariants as event
use Rattle.rules_server.specs.Server.{ServerState, activate, oldest_pending, plan, refill}
use Rattle.rules_machine.specs.declared.thread.CondEnd.{CondEnd}
use Rattle.rules_machine.specs.declared.thread.CondEnd.TheVariants as cond_end
use Rattle.rules_machine.specs.State.{Thread, Wait, Waiting, for_condition, for_mutex, for_mutex_again}
use Rattle.rules_machine.specs.Threads.{can_run, mutex_at, no_thread, thread_at, waiting_of}
use Rattle.rules_machine.specs.Waiters.{Waiter, best_waiter, somebody_waits, waiters}
use Rattle.rules_machine.specs.Turns.{Caller, Turn, answered, changes, changes_mutex, is_late, moves, moves_if, returns, tells}
use Rattle.rules_machine.specs.CallNames.{name_of}
use Rattle.rules_machine.specs.Servers.{activates_if, activates_server, amount_of, at_once, high_server, plans_server, refills_server, regains_high, with_server}
use Rattle.rules_machine.specs.Waking.{blocks, blocks_unordered, call_in, cancelled_value, ending_with, last_result, last_value, put_to_wait, started, starts, wakes, wakes_cancelled, wakes_telling, woken}
use Rattle.rules_machine.specs.Mutexes.{LockAnswer, counted_up, counts, hands_over, is_free, lock_answer, locks, carries_out_lock, moves_unless_boosted, must_wait, owned_by, owns, owns_boosting, refused, releases, returns_from_wait, taken_by, takes, unlocks, waits_for_mutex, wakes_owner}
use Rattle.rules_machine.specs.Conditions.{broadcasts, contends, reacquires_or_waits, released_mutex, signals, signals_best_times, signals_waiter, waits, waits_on_condition, waits_with_other_mutex}
use Rattle.rules_machine.specs.Semaphores.{blocks_unless_late}
use Rattle.rules_machine.specs.Cancellation.{request_acts}
use Rattle.rules_machine.proofs.Reading.{changed-keeps}
use Rattle.rules_moves.proofs.Waiters.Best.{best_waits}
use Rattle.laws_threads.specs.EachThread.{Cancels, Closed, Given, MakesWait, MayEnd}
use Rattle.laws_threads.proofs.Changes.{Holds, changes_hold, if_holds, waiting_known}

module _ {P : Type 0} (given : Given P) (Q : ℕ → ℕ → Thread P → Type 0) (closed : Closed given Q) where
  abbrev Holding : Turn P → Type 0
  Holding s = Holds given Q s

  -- ---- answers and waits

  pub returns_hold : (by : Caller) (r : Res) (value : ℕ) (s : Turn P) → Holding s → Holding (returns by r value s)
  returns_hold by r value s h = changes_hold given Q by.thread (answered r value) s (λ lt q. closed.answers s.machine.now by.thread (thread_at s.machine by.thread) r value q) h

  -- a known call may wait so
  pub record MayBlock (by : Caller) (wait : Wait) : Type 0 where
    pub caller : Thread P
    pub known : given.Known caller by.call
    pub makes : MakesWait by.call wait

  sleeps_hold : (by : Caller) (w : Waiting) (s : Turn P) → w.call ≡ by.call → MayBlock by w.wait → Holding s → Holding (changes by.thread (put_to_wait w) s)
  sleeps_hold by w s e may h =
      let t = by.thread in
      changes_hold given Q t (put_to_wait w) s
      (λ lt q. closed.waits s.machine.now t (thread_at s.machine t) may.caller w (subst (λ (c : Call). given.Known may.caller c) (sym e) may.known) (subst (λ (c : Call). MakesWait c w.wait) (sym e) may.makes) q) h

  pub blocks_hold : (by : Caller) (wait : Wait) (due : Option ℕ) (s : Turn P) → MayBlock by wait → Holding s → Holding (blocks by wait due s)
  blocks_hold by wait due s may h = sleeps_hold by (record { wait = wait; serial = s.machine.next_serial; due = due; call = by.call }) s refl may h

  pub blocks_unordered_hold : (by : Caller) (wait : Wait) (due : Option ℕ) (s : Turn P) → MayBlock by wait → Holding s → Holding (blocks_unordered by wait due s)
  blocks_unordered_hold by wait due s may h = sleeps_hold by (record { wait = wait; serial = 0; due = due; call = by.call }) s refl may h

  -- ---- servers

  pub activates_server_hold : (t : ℕ) (o : Option ServerState) (s : Turn P) → Holding s → Holding (activates_server t o s)
  activates_server_hold t None s h = h
  activates_server_hold t (Some server) s h = changes_hold given Q t (with_server (activate s.machine.now)) s (λ lt q. closed.activates s.machine.now t (thread_at s.machine t) q) h

  pub activates_if_hold : (b : Bool) (t : ℕ) (s : Turn P) → Holding s → Holding (activates_if b t s)
  activates_if_hold true t s h = activates_server_hold t (at_once (thread_at s.machine t).server) s h
  activates_if_hold false t s h = h

  pub plans_hold : (t : ℕ) (o : Option ServerState) (s : Turn P) → Holding s → Holding (plans_server t o s)
  plans_hold t None s h = h
  plans_hold t (Some server) s h = changes_hold given Q t (with_server plan) s (λ lt q. closed.plans s.machine.now t (thread_at s.machine t) q) h

  pub refills_hold : (t : ℕ) (o : Option ServerState) (s : Turn P) → Holding s → Holding (refills_server t o s)
  refills_hold t None s h = h
  refills_hold t (Some server) s h =
      activates_if_hold (regains_high server && can_run s.machine t) t (tells (event.Refill t (amount_of (oldest_pending server)) (refill server).capacity) (changes t (with_server refill) s))
      (changes_hold given Q t (with_server refill) s (λ lt q. closed.refills s.machine.now t (thread_at s.machine t) q) h)

  pub moves_if_hold : (b : Bool) (t : ℕ) (s : Turn P) → Holding s → Holding (moves_if b t s)
  moves_if_hold true t s h = h
  moves_if_hold false t s h = h

  pub moves_unless_boosted_hold : (t : ℕ) (s : Turn P) → Holding s → Holding (moves_unless_boosted t s)
  moves_unless_boosted_hold t s h = moves_if_hold (not (owns_boosting s.machine t)) t s h

  -- ---- waking and starting

  pub wakes_telling_hold : (e : Event) (t : ℕ) (r : Res) (value : ℕ) (s : Turn P) → Holding s → Holding (wakes_telling e t r value s)
  wakes_telling_hold e t r value s h =
      let x = tells e (moves t (changes t (woken r value) s)) in
      activates_server_hold t (at_once (high_server (thread_at x.machine t).server)) x
      (changes_hold given Q t (woken r value) s (λ lt q. closed.wakes s.machine.now t (thread_at s.machine t) r value q) h)

  pub wakes_hold : (t : ℕ) (r : Res) (value : ℕ) (s : Turn P) → Holding s → Holding (wakes t r value s)
  wakes_hold t r value s h = wakes_telling_hold (event.Return t (name_of (call_in (waiting_of s.machine t))) r value) t r value s h

  pub ending_hold : (t : ℕ) (value : ℕ) (s : Turn P) → MayEnd given (thread_at s.machine t) → Holding s → Holding (changes t (ending_with value) s)
  ending_hold t value s may h = changes_hold given Q t (ending_with value) s (λ lt q. closed.ending s.machine.now t (thread_at s.machine t) value may q) h

  -- a request acts as much after a wake
  activates_acts : (t u : ℕ) (o : Option ServerState) (s : Turn P) → request_acts (thread_at (activates_server t o s).machine u) ≡ request_acts (thread_at s.machine u)
  activates_acts t u None s = refl
  activates_acts t u (Some server) s = changed-keeps no_thread t u (with_server (activate s.machine.now)) request_acts (λ th. refl) s.machine.threads

  wakes_acts : (e : Event) (t u : ℕ) (r : Res) (value : ℕ) (s : Turn P) → request_acts (thread_at (wakes_telling e t r value s).machine u) ≡ request_acts (thread_at s.machine u)
  wakes_acts e t u r value s =
      let x = tells e (moves t (changes t (woken r value) s)) in
      activates_acts t u (at_once (high_server (thread_at x.machine t).server)) x ∙ changed-keeps no_thread t u (woken r value) request_acts (λ th. refl) s.machine.threads

  wakes_cancels : (t : ℕ) (r : Res) (value : ℕ) (s : Turn P) → Cancels given (thread_at s.machine t) → Cancels given (thread_at (wakes_telling (event.Cancel t) t r value s).machine t)
  wakes_cancels t r value s (inl acts) = inl (wakes_acts (event.Cancel t) t t r value s ∙ acts)
  wakes_cancels t r value s (inr over) = inr over

  pub wakes_cancelled_hold : (t : ℕ) (s : Turn P) → Cancels given (thread_at s.machine t) → Holding s → Holding (wakes_cancelled t s)
  wakes_cancelled_hold t s may h =
      let result = last_result t s.machine in
      let value = last_value t s.machine in
      ending_hold t cancelled_value (wakes_telling (event.Cancel t) t result value s) (inr (wakes_cancels t result value s may)) (wakes_telling_hold (event.Cancel t) t result value s h)

  pub starts_hold : (t mask : ℕ) (s : Turn P) → Holding s → Holding (starts given.bodies t mask s)
  starts_hold t mask s h =
      let f = started given.bodies t mask s.machine.now in
      let x = tells (event.Start t) (moves t (changes t f s)) in
      activates_server_hold t (at_once (thread_at x.machine t).server) x (changes_hold given Q t f s (λ lt q. closed.starts s.machine.now t (thread_at s.machine t) mask lt q) h)

  -- ---- mutexes

  pub locks_on_hold : (a : LockAnswer) (by : Caller) (k : ℕ) (due : Option ℕ) (s : Turn P) → MayBlock by (for_mutex k) → Holding s → Holding (carries_out_lock a by k due s)
  locks_on_hold (refused r) by k due s may h = returns_hold by r 0 s h
  locks_on_hold counts by k due s may h = returns_hold by res.Zero 0 (changes_mutex k counted_up s) h
  locks_on_hold takes by k due s may h = returns_hold by res.Zero 0 (changes_mutex k (taken_by by.thread) s) h
  locks_on_hold must_wait by k due s may h = blocks_hold by (for_mutex k) due s may h

  pub locks_hold : (by : Caller) (k : ℕ) (due : Option ℕ) (s : Turn P) → MayBlock by (for_mutex k) → Holding s → Holding (locks by k due s)
  locks_hold by k due s may h = locks_on_hold (lock_answer s.machine by.thread k due) by k due s may h

  -- a wait ends so
  abbrev pub MayReturn : CondEnd → Thread P → Type 0
  MayReturn cond_end.Signalled th = Unit {0}
  MayReturn cond_end.Timedout th = Unit {0}
  MayReturn cond_end.Cancelled th = Cancels given th

  returns_from_wait_hold : (how : CondEnd) (t : ℕ) (s : Turn P) → MayReturn how (thread_at s.machine t) → Holding s → Holding (returns_from_wait how t s)
  returns_from_wait_hold cond_end.Signalled t s may h = wakes_hold t res.Zero 0 s h
  returns_from_wait_hold cond_end.Timedout t s may h = wakes_hold t res.Timedout 0 s h
  returns_from_wait_hold cond_end.Cancelled t s may h = wakes_cancelled_hold t s may h

  may_return : (how : CondEnd) (k : ℕ) (th : Thread P) → given.Waits (for_mutex_again k how) → MayReturn how th
  may_return cond_end.Signalled k th waits = tt
  may_return cond_end.Timedout k th waits = tt
  may_return cond_end.Cancelled k th waits = inr (k, waits)

  wakes_owner_hold : (wait : Wait) (t : ℕ) (s : Turn P) → given.Waits wait → Holding s → Holding (wakes_owner wait t s)
  wakes_owner_hold (for_mutex_again k how) t s waits h = returns_from_wait_hold how t s (may_return how k (thread_at s.machine t) waits) h
  wakes_owner_hold _ t s waits h = wakes_hold t res.Zero 0 s h

  pub releases_hold : (k : ℕ) (s : Turn P) → Holding s → Holding (releases k s)
  releases_hold k s h = to_best (best_waiter s.machine (waits_for_mutex k)) refl
    where
      to_best : (best : Option Waiter) → best_waiter s.machine (waits_for_mutex k) ≡ best → Holding (hands_over best k s)
      to_best None e = h
      to_best (Some w) e =
          let waits = waiting_known given Q closed w.thread w.waiting s (best_waits s.machine (waits_for_mutex k) w e).0 h in
          wakes_owner_hold w.waiting.wait w.thread (changes_mutex k (taken_by w.thread) s) waits h

  pub unlocks_hold : (by : Caller) (k : ℕ) (s : Turn P) → Holding s → Holding (unlocks by k s)
  unlocks_hold by k s h =
      let back = returns_hold by res.Zero 0 s h in
      if_holds given Q (not (owns s.machine by.thread k)) _ _ (returns_hold by res.Perm 0 s h)
      (if_holds given Q (nat_lt 1 (mutex_at s.machine k).count) _ _ back (releases_hold k (returns by res.Zero 0 s) back))

  -- ---- conditions

  contends_for_hold : (c k t : ℕ) (how : CondEnd) (s : Turn P) → given.Waits (for_condition c k) → MayReturn how (thread_at s.machine t) → Holding s → Holding (reacquires_or_waits (Some k) t how s)
  contends_for_hold c k t how s waits may h =
      let w : Waiting = record { wait = for_mutex_again k how; serial = s.machine.next_serial; due = None; call = call_in (waiting_of s.machine t) } in
      if_holds given Q (is_free s.machine k) _ _ (returns_from_wait_hold how t (changes_mutex k (taken_by t) s) may h)
      (changes_hold given Q t (put_to_wait w) s (λ lt q. closed.again s.machine.now t (thread_at s.machine t) w c k how waits (λ e. subst (λ (how : CondEnd). MayReturn how (thread_at s.machine t)) e may) refl q) h)

  pub contends_hold : (t : ℕ) (how : CondEnd) (s : Turn P) → MayReturn how (thread_at s.machine t) → Holding s → Holding (contends t how s)
  contends_hold t how s may h = by_waiting (waiting_of s.machine t) refl
    where
      by_wait : (x : Wait) → given.Waits x → Holding (reacquires_or_waits (released_mutex x) t how s)
      by_wait (for_condition c k) waits = contends_for_hold c k t how s waits may h
      by_wait _ waits = h

      by_waiting : (o : Option Waiting) → waiting_of s.machine t ≡ o → Holding (reacquires_or_waits (option_and_then (λ (w : Waiting). released_mutex w.wait) o) t how s)
      by_waiting None e = h
      by_waiting (Some w) e = by_wait w.wait (waiting_known given Q closed t w s e h)

  pub signals_waiter_hold : (w : Option Waiter) (s : Turn P) → Holding s → Holding (signals_waiter w s)
  signals_waiter_hold None s h = h
  signals_waiter_hold (Some w) s h = contends_hold w.thread cond_end.Signalled s tt h

  pub signals_best_of_hold : (n c : ℕ) (s : Turn P) → Holding s → Holding (signals_best_times n c s)
  signals_best_of_hold zero c s h = h
  signals_best_of_hold (suc n) c s h =
      signals_waiter_hold (best_waiter (signals_best_times n c s).machine (waits_on_condition c)) (signals_best_times n c s) (signals_best_of_hold n c s h)

  pub signals_hold : (by : Caller) (c : ℕ) (s : Turn P) → Holding s → Holding (signals by c s)
  signals_hold by c s h = let back = returns by res.Zero 0 s in signals_waiter_hold (best_waiter back.machine (waits_on_condition c)) back (returns_hold by res.Zero 0 s h)

  pub broadcasts_hold : (by : Caller) (c : ℕ) (s : Turn P) → Holding s → Holding (broadcasts by c s)
  broadcasts_hold by c s h = signals_best_of_hold (length (waiters s.machine (waits_on_condition c))) c (returns by res.Zero 0 s) (returns_hold by res.Zero 0 s h)

  pub waits_hold : (by : Caller) (c k : ℕ) (due : Option ℕ) (s : Turn P) → MayBlock by (for_condition c k) → Holding s → Holding (waits by c k due s)
  waits_hold by c k due s may h =
      if_holds given Q (not (owns s.machine by.thread k)) _ _ (returns_hold by res.Perm 0 s h)
      (if_holds given Q (nat_lt 1 (mutex_at s.machine k).count || somebody_waits s.machine (waits_with_other_mutex c k)) _ _ (returns_hold by res.Inval 0 s h)
      (if_holds given Q (nat_lt 1 (length (owned_by s.machine by.thread))) _ _ (returns_hold by res.Deadlk 0 s h)
      (releases_hold k (blocks by (for_condition c k) due s) (blocks_hold by (for_condition c k) due s may h))))

  -- ---- calls that wait up to a time

  pub blocks_unless_late_hold : (by : Caller) (wait : Wait) (due : Option ℕ) (s : Turn P) → MayBlock by wait → Holding s → Holding (blocks_unless_late by wait due s)
  blocks_unless_late_hold by wait due s may h = if_holds given Q (is_late due s.machine) _ _ (returns_hold by res.Timedout 0 s h) (blocks_hold by wait due s may h)
