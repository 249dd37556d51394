-- What every move keeps, answers, wakings, and the calls on mutexes, conditions and semaphores keep.
use Rattle.std.proofs.Common.{Bool, None, Option, Some, ap, arith, false, inl, refl, suc, sym, true, zero, ℕ, ◌≡◌}
use Rattle.std.specs.Prelude.{nat_lt, not, option_and_then, ◌==◌, if◌then◌else◌}
use Rattle.std.specs.Option.{option_map_or}
use mathlib.Core.Path.{subst, ◌∙◌}
use Rattle.words_numbers.specs.declared.res.Res.{Res}
use Rattle.words_numbers.specs.declared.res.Res.TheVariants as res
use Rattle.words_trace.specs.declared.event.Event.TheVariants as event
use Rattle.rules_machine.specs.declared.thread.CondEnd.{CondEnd}
use Rattle.rules_machine.specs.declared.thread.CondEnd.TheVariants as cond_end
use Rattle.rules_machine.specs.Bodies.{Bodies}
use Rattle.rules_machine.specs.State.{Machine, Status, Wait, Waiting, for_mutex, for_end, for_mutex_again, for_semaphore}
use Rattle.rules_machine.specs.Threads.{can_run, is_blocked, is_runnable, mutex_at, semaphore_at, thread_at, waiting_in, waiting_of}
use Rattle.rules_machine.specs.Waiters.{Waiter, best_waiter, somebody_waits}
use Rattle.rules_machine.specs.CallNames.{name_of}
use Rattle.rules_machine.specs.Turns.{Caller, Turn, answered, changes, is_late, returns}
use Rattle.rules_machine.specs.Waking.{call_in, cancelled_value, ending_with, last_result, last_value, wakes, wakes_cancelled, wakes_telling}
use Rattle.rules_machine.specs.Mutexes.{LockAnswer, counts, hands_over, is_free, lock_answer, locks, carries_out_lock, must_wait, owns, refused, releases, returns_from_wait, taken_by, takes, tries_lock, trylock_answer, unlocks, waits_for_mutex, wakes_owner}
use Rattle.rules_machine.specs.Conditions.{contends, reacquires_or_waits, released_mutex, signals_best_times, signals_waiter, waits_on_condition}
use Rattle.rules_machine.specs.Semaphores.{blocks_unless_late, posts, wakes_waiter_or_raises_value, semaphore_limit, tries_semaphore, waits_on_semaphore, waits_semaphore}
use Rattle.rules_machine.specs.GoodState.{is_in_condition_wait}
use Rattle.rules_moves.specs.Moves.{KeepsAwake, MayWake, Stops, is_for_end, Runs, MayWait, alters, blocks_for, counts_down, counts_up, ends_with, frees, sem_down, sem_up, takes_for, tells_of, wakes_with}
use Rattle.rules_moves.proofs.Waiters.Best.{best_waits, nobody_waits}
use Rattle.rules_moves.proofs.Calls.Commuting.{answered_core, returns_from_wait_passes, status_kept, wakes_owner_passes, woken_runs}
use Rattle.rules_moves.proofs.Calls.Answers.{InCondition, MayLock, lock_may, released_waits, trylock_may, waits_blocked}

-- ---- statuses that stay

abbrev pub status_in : {P : Type 0} → Turn P → ℕ → Status
status_in s t = (thread_at s.machine t).status

pub answered_status : {P : Type 0} (by : Caller) (r : Res) (v : ℕ) (s : Turn P) (u : ℕ) → status_in (returns by r v s) u ≡ status_in s u
answered_status by r v s u = status_kept by.thread u (answered r v) (λ th. refl) s

pub still_blocked : (a b : Status) → a ≡ b → is_blocked b ≡ true → is_blocked a ≡ true
still_blocked a b e h = ap is_blocked e ∙ h

-- ---- who may be woken: one that waits for something but an end

pub mutex_not_end : (k : ℕ) (wait : Wait) → waits_for_mutex k wait ≡ true → is_for_end wait ≡ false
mutex_not_end k (for_end u) e = absurd (grind arith)
mutex_not_end k wait e = refl

pub semaphore_not_end : (k : ℕ) (wait : Wait) → waits_on_semaphore k wait ≡ true → is_for_end wait ≡ false
semaphore_not_end k (for_end u) e = absurd (grind arith)
semaphore_not_end k wait e = refl

pub condition_not_end : (wait : Wait) → is_in_condition_wait wait ≡ true → is_for_end wait ≡ false
condition_not_end (for_end u) e = absurd (grind arith)
condition_not_end wait e = refl

pub wait_may : {P : Type 0} (m : Machine P) (t : ℕ) (w : Waiting) → waiting_of m t ≡ Some w → is_for_end w.wait ≡ false → MayWake m t
wait_may m t w e h = (waits_blocked m t w e, inl (w, e, h))

pub best_may : {P : Type 0} (passes : Wait → Bool) → ((wait : Wait) → passes wait ≡ true → is_for_end wait ≡ false) → (m : Machine P) (w : Waiter) → best_waiter m passes ≡ Some w → MayWake m w.thread
best_may passes h m w e = let best = best_waits m passes w e in wait_may m w.thread w.waiting best.0 (h w.waiting.wait best.1)

-- the same after an answer
pub answered_may : {P : Type 0} (by : Caller) (r : Res) (v : ℕ) (passes : Wait → Bool) → ((wait : Wait) → passes wait ≡ true → is_for_end wait ≡ false) → (s : Turn P) (w : Waiter) → best_waiter s.machine passes ≡ Some w →
    MayWake (returns by r v s).machine w.thread
answered_may by r v passes h s w e =
    let best = best_waits s.machine passes w e in wait_may (returns by r v s).machine w.thread w.waiting (ap waiting_in (answered_status by r v s w.thread) ∙ best.0) (h w.waiting.wait best.1)

pub condition_may : {P : Type 0} (m : Machine P) (t : ℕ) → InCondition (thread_at m t).status → MayWake m t
condition_may m t h = by_wait (waiting_of m t) refl h.1
  where
    by_wait : (o : Option Waiting) → waiting_of m t ≡ o → option_map_or (λ (w : Waiting). is_in_condition_wait w.wait) o false ≡ true → MayWake m t
    by_wait None e k = absurd (grind arith)
    by_wait (Some w) e k = wait_may m t w e (condition_not_end w.wait k)

module _ {P : Type 0} (bodies : Bodies P) (who : Option ℕ) (Law Done : Turn P → Type 0) (keeps : KeepsAwake bodies who Law) (stops : Stops who Law Done) where
  -- ---- one of two

  pub either : (b : Bool) (x y : Turn P) → (b ≡ true → Law x) → (b ≡ false → Law y) → Law (if b then x else y)
  either true x y h k = h refl
  either false x y h k = k refl

  pub branch : (b : Bool) (x y : Turn P) → (b ≡ true → Done x) → (b ≡ false → Done y) → Done (if b then x else y)
  branch true x y h k = h refl
  branch false x y h k = k refl

  -- ---- answers, wakings

  pub returns_keep : (by : Caller) (r : Res) (v : ℕ) (s : Turn P) → Law s → Law (returns by r v s)
  returns_keep by r v s q =
      keeps (tells_of (event.Return by.thread (name_of by.call) r v)) (changes by.thread (answered r v) s) refl
      (keeps (alters by.thread (answered r v)) s (answered_core r v) q)

  pub wakes_keep : (t : ℕ) (r : Res) (v : ℕ) (s : Turn P) → MayWake s.machine t → Law s → Law (wakes t r v s)
  wakes_keep t r v s b q = keeps (wakes_with t (event.Return t (name_of (call_in (waiting_of s.machine t))) r v) r v) s (b.0, refl, b.1) q

  pub wakes_cancelled_keep : (t : ℕ) (s : Turn P) → MayWake s.machine t → Law s → Law (wakes_cancelled t s)
  wakes_cancelled_keep t s b q =
      keeps (ends_with t cancelled_value) (wakes_telling (event.Cancel t) t (last_result t s.machine) (last_value t s.machine) s) tt
      (keeps (wakes_with t (event.Cancel t) (last_result t s.machine) (last_value t s.machine)) s (b.0, refl, b.1) q)

  pub answers_done : (by : Caller) (r : Res) (v : ℕ) (s : Turn P) → Law s → Done (returns by r v s)
  answers_done by r v s q = stops.done (returns by r v s) (returns_keep by r v s q)

  -- ---- mutexes

  locks_on_keep : (a : LockAnswer) (by : Caller) (k : ℕ) (due : Option ℕ) (s : Turn P) → Runs who s.machine by.thread → MayLock s.machine by.thread k a → Law s → Done (carries_out_lock a by k due s)
  locks_on_keep (refused r) by k due s runs may q = answers_done by r 0 s q
  locks_on_keep counts by k due s runs may q = answers_done by res.Zero 0 _ (keeps (counts_up k) s may q)
  locks_on_keep takes by k due s runs may q = answers_done by res.Zero 0 _ (keeps (takes_for by.thread k) s runs.0 q)
  locks_on_keep must_wait by k due s runs may q = stops.sleeps by (for_mutex k) due s runs (runs, may.0, may.1) q

  pub locks_keep : (by : Caller) (k : ℕ) (due : Option ℕ) (s : Turn P) → Runs who s.machine by.thread → Law s → Done (locks by k due s)
  locks_keep by k due s runs q = locks_on_keep (lock_answer s.machine by.thread k due) by k due s runs (lock_may s.machine by.thread k due) q

  pub tries_lock_keep : (by : Caller) (k : ℕ) (s : Turn P) → Runs who s.machine by.thread → Law s → Done (tries_lock by k s)
  tries_lock_keep by k s runs q = locks_on_keep (trylock_answer s.machine by.thread k) by k None s runs (trylock_may s.machine by.thread k) q

  returns_from_wait_keep : (how : CondEnd) (t : ℕ) (s : Turn P) → MayWake s.machine t → Law s → Law (returns_from_wait how t s)
  returns_from_wait_keep cond_end.Signalled t s b q = wakes_keep t res.Zero 0 s b q
  returns_from_wait_keep cond_end.Timedout t s b q = wakes_keep t res.Timedout 0 s b q
  returns_from_wait_keep cond_end.Cancelled t s b q = wakes_cancelled_keep t s b q

  returned_runs : (how : CondEnd) (t : ℕ) (s : Turn P) → is_blocked (status_in s t) ≡ true → can_run (returns_from_wait how t s).machine t ≡ true
  returned_runs cond_end.Signalled t s b = woken_runs _ t res.Zero 0 s b
  returned_runs cond_end.Timedout t s b = woken_runs _ t res.Timedout 0 s b
  returned_runs cond_end.Cancelled t s b =
      ap is_runnable (status_kept t t (ending_with cancelled_value) (λ th. refl) (wakes_telling (event.Cancel t) t (last_result t s.machine) (last_value t s.machine) s))
      ∙ woken_runs (event.Cancel t) t (last_result t s.machine) (last_value t s.machine) s b

  owner_keeps : (wait : Wait) (t : ℕ) (s : Turn P) → MayWake s.machine t → Law s → Law (wakes_owner wait t s)
  owner_keeps (for_mutex_again k how) t s b q = returns_from_wait_keep how t s b q
  owner_keeps _ t s b q = wakes_keep t res.Zero 0 s b q

  pub owner_runs : (wait : Wait) (t : ℕ) (s : Turn P) → is_blocked (status_in s t) ≡ true → can_run (wakes_owner wait t s).machine t ≡ true
  owner_runs (for_mutex_again k how) t s b = returned_runs how t s b
  owner_runs _ t s b = woken_runs _ t res.Zero 0 s b

  -- whom a mutex may be handed to
  abbrev pub MayHand : ℕ → Turn P → Option Waiter → Type 0
  MayHand k s None = somebody_waits s.machine (waits_for_mutex k) ≡ false
  MayHand k s (Some w) = MayWake s.machine w.thread

  pub hands_over_keep : (o : Option Waiter) (k : ℕ) (s : Turn P) → MayHand k s o → Law s → Law (hands_over o k s)
  hands_over_keep None k s may q = keeps (frees k) s may q
  hands_over_keep (Some w) k s may q =
      let wait = w.waiting.wait in
      subst Law (sym (wakes_owner_passes k (taken_by w.thread) wait w.thread s))
      (keeps (takes_for w.thread k) (wakes_owner wait w.thread s) (owner_runs wait w.thread s may.0) (owner_keeps wait w.thread s may q))

  pub may_hand : (k : ℕ) (s : Turn P) (o : Option Waiter) → best_waiter s.machine (waits_for_mutex k) ≡ o → MayHand k s o
  may_hand k s None e = nobody_waits s.machine (waits_for_mutex k) e
  may_hand k s (Some w) e = best_may (waits_for_mutex k) (mutex_not_end k) s.machine w e

  releases_keep : (k : ℕ) (s : Turn P) → Law s → Law (releases k s)
  releases_keep k s q = let o = best_waiter s.machine (waits_for_mutex k) in hands_over_keep o k s (may_hand k s o refl) q

  pub unlocks_keep : (by : Caller) (k : ℕ) (s : Turn P) → Law s → Law (unlocks by k s)
  unlocks_keep by k s q =
      either (not (owns s.machine by.thread k)) _ _ (λ e. returns_keep by res.Perm 0 s q)
      (λ e. either (nat_lt 1 (mutex_at s.machine k).count) _ _ (λ more. keeps (counts_down k) (returns by res.Zero 0 s) more (returns_keep by res.Zero 0 s q))
      (λ last. releases_keep k (returns by res.Zero 0 s) (returns_keep by res.Zero 0 s q)))

  -- ---- conditions

  contends_for_keep : (o : Option ℕ) (t : ℕ) (how : CondEnd) (s : Turn P) → ((k : ℕ) → o ≡ Some k → InCondition (status_in s t)) → Law s → Law (reacquires_or_waits o t how s)
  contends_for_keep None t how s waits q = q
  contends_for_keep (Some k) t how s waits q =
      either (is_free s.machine k) _ _
      (λ free. subst Law (sym (returns_from_wait_passes k (taken_by t) how t s))
      (keeps (takes_for t k) (returns_from_wait how t s) (returned_runs how t s (waits k refl).0) (returns_from_wait_keep how t s (condition_may s.machine t (waits k refl)) q)))
      (λ owned. keeps (blocks_for (record { thread = t; call = call_in (waiting_of s.machine t) }) (for_mutex_again k how) None) s ((waits k refl).1, owned) q)

  pub contends_keep : (t : ℕ) (how : CondEnd) (s : Turn P) → Law s → Law (contends t how s)
  contends_keep t how s q =
      contends_for_keep (option_and_then (λ (w : Waiting). released_mutex w.wait) (waiting_of s.machine t)) t how s (λ k e. released_waits (status_in s t) k e) q

  signals_waiter_keep : (o : Option Waiter) (s : Turn P) → Law s → Law (signals_waiter o s)
  signals_waiter_keep None s q = q
  signals_waiter_keep (Some w) s q = contends_keep w.thread cond_end.Signalled s q

  pub signals_best_of_keep : (n c : ℕ) (s : Turn P) → Law s → Law (signals_best_times n c s)
  signals_best_of_keep zero c s q = q
  signals_best_of_keep (suc n) c s q =
      signals_waiter_keep (best_waiter (signals_best_times n c s).machine (waits_on_condition c)) (signals_best_times n c s) (signals_best_of_keep n c s q)

  -- ---- semaphores

  pub blocks_unless_late_keep : (by : Caller) (wait : Wait) (due : Option ℕ) (s : Turn P) → Runs who s.machine by.thread → MayWait who s.machine by.thread wait → Law s → Done (blocks_unless_late by wait due s)
  blocks_unless_late_keep by wait due s runs may q =
      branch (is_late due s.machine) _ _ (λ late. answers_done by res.Timedout 0 s q) (λ early. stops.sleeps by wait due s runs may q)

  not_more : (v : ℕ) → nat_lt 0 v ≡ false → v ≡ 0
  not_more zero e = refl
  not_more (suc v) e = absurd (grind arith)

  pub waits_semaphore_keep : (by : Caller) (k : ℕ) (due : Option ℕ) (s : Turn P) → Runs who s.machine by.thread → Law s → Done (waits_semaphore by k due s)
  waits_semaphore_keep by k due s runs q =
      branch (nat_lt 0 (semaphore_at s.machine k)) _ _ (λ some. answers_done by res.Zero 0 _ (keeps (sem_down k) s tt q))
      (λ none. blocks_unless_late_keep by (for_semaphore k) due s runs (runs, not_more (semaphore_at s.machine k) none) q)

  pub tries_semaphore_keep : (by : Caller) (k : ℕ) (s : Turn P) → Law s → Law (tries_semaphore by k s)
  tries_semaphore_keep by k s q =
      either (semaphore_at s.machine k == 0) _ _ (λ none. returns_keep by res.Again 0 s q) (λ some. returns_keep by res.Zero 0 _ (keeps (sem_down k) s tt q))

  posts_to_keep : (o : Option Waiter) (by : Caller) (k : ℕ) (s : Turn P) → best_waiter s.machine (waits_on_semaphore k) ≡ o → Law s → Law (wakes_waiter_or_raises_value o by k s)
  posts_to_keep (Some w) by k s e q =
      wakes_keep w.thread res.Zero 0 (returns by res.Zero 0 s)
      (answered_may by res.Zero 0 (waits_on_semaphore k) (semaphore_not_end k) s w e) (returns_keep by res.Zero 0 s q)
  posts_to_keep None by k s e q =
      either (semaphore_at s.machine k == semaphore_limit) _ _ (λ full. returns_keep by res.Overflow 0 s q)
      (λ room. returns_keep by res.Zero 0 _ (keeps (sem_up k) s (nobody_waits s.machine (waits_on_semaphore k) e) q))

  pub posts_keep : (by : Caller) (k : ℕ) (s : Turn P) → Law s → Law (posts by k s)
  posts_keep by k s q = posts_to_keep (best_waiter s.machine (waits_on_semaphore k)) by k s refl q
