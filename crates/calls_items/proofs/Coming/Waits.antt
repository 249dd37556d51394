-- A thread that came to run by a call of a mutex, a condition or a semaphore has a direct move.
use Rattle.std.proofs.Common.{ℕ, zero, suc}
use Rattle.std.specs.Prelude.{None, Option, Some, ◌==◌, ◌||◌, length, nat_lt, not, option_and_then, pred}
use Rattle.words_numbers.specs.declared.res.Res.TheVariants as res
use Rattle.words_trace.specs.declared.event.Event.TheVariants as event
use Rattle.rules_machine.specs.State.{Wait, Waiting, for_condition, for_end, for_message, for_mutex, for_mutex_again, for_room, for_semaphore, for_signal, for_time}
use Rattle.rules_machine.specs.declared.thread.CondEnd.{CondEnd}
use Rattle.rules_machine.specs.declared.thread.CondEnd.TheVariants as cond_end
use Rattle.rules_machine.specs.Threads.{mutex_at, semaphore_at, waiting_of}
use Rattle.rules_machine.specs.Turns.{Caller, Turn, changes_mutex, changes_semaphore, is_late, returns}
use Rattle.rules_machine.specs.CallNames.{name_of}
use Rattle.rules_machine.specs.Waking.{blocks, call_in, cancelled_value, ending_with, last_result, last_value, wakes, wakes_cancelled, wakes_telling}
use Rattle.rules_machine.specs.Mutexes.{LockAnswer, counted_up, counts, hands_over, is_free, carries_out_lock, must_wait, owned_by, owns, refused, releases, returns_from_wait, taken_by, takes, unlocks, waits_for_mutex, wakes_owner}
use Rattle.rules_machine.specs.Conditions.{contends, reacquires_or_waits, released_mutex, signals_best, signals_best_times, signals_waiter, waits, waits_on_condition, waits_with_other_mutex}
use Rattle.rules_machine.specs.Semaphores.{wakes_waiter_or_raises_value, semaphore_limit, waits_semaphore}
use Rattle.rules_machine.specs.Waiters.{Waiter, best_waiter, somebody_waits}
use Rattle.calls_items.proofs.Coming.Steps.{wakes_telling_come, wakes_come, fewer_come, changes_fewer, Comes, if_come, returns_come, blocks_come, fewer_before, blocks_fewer, returned_come, KeepsMoves, woken_keeps, if_keeps, both_come}

-- ---- mutexes

pub locks_on_come : {P : Type 0} (a : LockAnswer) (b : Caller) (k : ℕ) (due : Option ℕ) (s : Turn P) → Comes s (carries_out_lock a b k due s)
locks_on_come (refused r) b k due s = returns_come b r 0 s
locks_on_come counts b k due s = returns_come b res.Zero 0 (changes_mutex k counted_up s)
locks_on_come takes b k due s = returns_come b res.Zero 0 (changes_mutex k (taken_by b.thread) s)
locks_on_come must_wait b k due s = blocks_come b (for_mutex k) due s

pub cancelled_come : {P : Type 0} (t : ℕ) (s : Turn P) → Comes s (wakes_cancelled t s)
cancelled_come t s =
    let x = wakes_telling (event.Cancel t) t (last_result t s.machine) (last_value t s.machine) s in
    λ u off runs. wakes_telling_come (event.Cancel t) t (last_result t s.machine) (last_value t s.machine) s u off (changes_fewer t (ending_with cancelled_value) x (λ h. h) u runs)

returns_from_wait_come : {P : Type 0} (how : CondEnd) (t : ℕ) (s : Turn P) → Comes s (returns_from_wait how t s)
returns_from_wait_come cond_end.Signalled t s = wakes_come t res.Zero 0 s
returns_from_wait_come cond_end.Timedout t s = wakes_come t res.Timedout 0 s
returns_from_wait_come cond_end.Cancelled t s = cancelled_come t s

wakes_owner_come : {P : Type 0} (wait : Wait) (t : ℕ) (s : Turn P) → Comes s (wakes_owner wait t s)
wakes_owner_come (for_mutex_again k how) t s = returns_from_wait_come how t s
wakes_owner_come (for_mutex k) t s = wakes_come t res.Zero 0 s
wakes_owner_come (for_condition c k) t s = wakes_come t res.Zero 0 s
wakes_owner_come (for_end u) t s = wakes_come t res.Zero 0 s
wakes_owner_come (for_semaphore k) t s = wakes_come t res.Zero 0 s
wakes_owner_come for_time t s = wakes_come t res.Zero 0 s
wakes_owner_come (for_room q message) t s = wakes_come t res.Zero 0 s
wakes_owner_come (for_message q) t s = wakes_come t res.Zero 0 s
wakes_owner_come (for_signal signals) t s = wakes_come t res.Zero 0 s

hands_over_come : {P : Type 0} (o : Option Waiter) (k : ℕ) (s : Turn P) → Comes s (hands_over o k s)
hands_over_come None k s = fewer_come s.machine s.machine s.direct (λ u r. r)
hands_over_come (Some w) k s = wakes_owner_come w.waiting.wait w.thread (changes_mutex k (taken_by w.thread) s)

pub unlocks_come : {P : Type 0} (b : Caller) (k : ℕ) (s : Turn P) → Comes s (unlocks b k s)
unlocks_come b k s =
    if_come (not (owns s.machine b.thread k)) _ _ s (returns_come b res.Perm 0 s)
    (if_come (nat_lt 1 (mutex_at s.machine k).count) _ _ s (returns_come b res.Zero 0 s)
    (returned_come b res.Zero 0 (releases k) s (hands_over_come (best_waiter (returns b res.Zero 0 s).machine (waits_for_mutex k)) k (returns b res.Zero 0 s))))

-- ---- conditions

contends_for_come : {P : Type 0} (o : Option ℕ) (t : ℕ) (how : CondEnd) (s : Turn P) → Comes s (reacquires_or_waits o t how s)
contends_for_come None t how s = fewer_come s.machine s.machine s.direct (λ u r. r)
contends_for_come (Some k) t how s =
    if_come (is_free s.machine k) _ _ s (returns_from_wait_come how t (changes_mutex k (taken_by t) s)) (blocks_come (record { thread = t; call = call_in (waiting_of s.machine t) }) (for_mutex_again k how) None s)

pub contends_come : {P : Type 0} (t : ℕ) (how : CondEnd) (s : Turn P) → Comes s (contends t how s)
contends_come t how s = contends_for_come (option_and_then (λ (w : Waiting). released_mutex w.wait) (waiting_of s.machine t)) t how s

pub waits_come : {P : Type 0} (b : Caller) (c k : ℕ) (due : Option ℕ) (s : Turn P) → Comes s (waits b c k due s)
waits_come b c k due s =
    let x = blocks b (for_condition c k) due s in
    if_come (not (owns s.machine b.thread k)) _ _ s (returns_come b res.Perm 0 s)
    (if_come (nat_lt 1 (mutex_at s.machine k).count || somebody_waits s.machine (waits_with_other_mutex c k)) _ _ s (returns_come b res.Inval 0 s)
    (if_come (nat_lt 1 (length (owned_by s.machine b.thread))) _ _ s (returns_come b res.Deadlk 0 s)
    (fewer_before s x (releases k x) (blocks_fewer b (for_condition c k) due s) (hands_over_come (best_waiter x.machine (waits_for_mutex k)) k x))))

signals_waiter_come : {P : Type 0} (o : Option Waiter) (s : Turn P) → Comes s (signals_waiter o s)
signals_waiter_come None s = fewer_come s.machine s.machine s.direct (λ u r. r)
signals_waiter_come (Some w) s = contends_come w.thread cond_end.Signalled s

pub signals_best_come : {P : Type 0} (c : ℕ) (s : Turn P) → Comes s (signals_best c s)
signals_best_come c s = signals_waiter_come (best_waiter s.machine (waits_on_condition c)) s

returned_keeps : {P : Type 0} (how : CondEnd) (t : ℕ) (s : Turn P) → KeepsMoves s (returns_from_wait how t s)
returned_keeps cond_end.Signalled t s u h = woken_keeps (event.Return t (name_of (call_in (waiting_of s.machine t))) res.Zero 0) t res.Zero 0 s u h
returned_keeps cond_end.Timedout t s u h = woken_keeps (event.Return t (name_of (call_in (waiting_of s.machine t))) res.Timedout 0) t res.Timedout 0 s u h
returned_keeps cond_end.Cancelled t s u h = woken_keeps (event.Cancel t) t (last_result t s.machine) (last_value t s.machine) s u h

contends_keeps : {P : Type 0} (o : Option ℕ) (t : ℕ) (how : CondEnd) (s : Turn P) → KeepsMoves s (reacquires_or_waits o t how s)
contends_keeps None t how s = λ u h. h
contends_keeps (Some k) t how s = if_keeps (is_free s.machine k) _ _ s (λ u h. returned_keeps how t (changes_mutex k (taken_by t) s) u h) (λ u h. h)

signalled_keeps : {P : Type 0} (o : Option Waiter) (s : Turn P) → KeepsMoves s (signals_waiter o s)
signalled_keeps None s u h = h
signalled_keeps (Some w) s u h = contends_keeps (option_and_then (λ (v : Waiting). released_mutex v.wait) (waiting_of s.machine w.thread)) w.thread cond_end.Signalled s u h

pub signals_best_of_come : {P : Type 0} (n c : ℕ) (s : Turn P) → Comes s (signals_best_times n c s)
signals_best_of_come zero c s = fewer_come s.machine s.machine s.direct (λ u r. r)
signals_best_of_come (suc n) c s =
    let x = signals_best_times n c s in
    both_come s x (signals_best c x) (signals_best_of_come n c s) (signals_best_come c x) (signalled_keeps (best_waiter x.machine (waits_on_condition c)) x)

-- ---- semaphores

pub waits_semaphore_come : {P : Type 0} (b : Caller) (k : ℕ) (due : Option ℕ) (s : Turn P) → Comes s (waits_semaphore b k due s)
waits_semaphore_come b k due s =
    if_come (nat_lt 0 (semaphore_at s.machine k)) _ _ s (returns_come b res.Zero 0 (changes_semaphore k pred s))
    (if_come (is_late due s.machine) _ _ s (returns_come b res.Timedout 0 s) (blocks_come b (for_semaphore k) due s))

pub posts_come : {P : Type 0} (o : Option Waiter) (b : Caller) (k : ℕ) (s : Turn P) → Comes s (wakes_waiter_or_raises_value o b k s)
posts_come (Some w) b k s = returned_come b res.Zero 0 (wakes w.thread res.Zero 0) s (wakes_come w.thread res.Zero 0 (returns b res.Zero 0 s))
posts_come None b k s =
    if_come (semaphore_at s.machine k == semaphore_limit) _ _ s (returns_come b res.Overflow 0 s) (returns_come b res.Zero 0 (changes_semaphore k suc s))
