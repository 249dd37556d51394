-- Condition variables: pthread_cond_wait, pthread_cond_timedwait, pthread_cond_signal, pthread_cond_broadcast. This project's own
-- are the EINVAL of a wait on a mutex that is locked more than once or beside a wait with another mutex, and its EDEADLK.
use Rattle.std.specs.Prelude.{Bool, None, Option, Some, false, length, nat_lt, not, option_and_then, suc, zero, ℕ, ◌==◌, ◌&&◌, ◌||◌, if◌then◌else◌}
use Rattle.words_numbers.specs.declared.res.Res.TheVariants as res
use Rattle.rules_machine.specs.declared.thread.CondEnd.{CondEnd}
use Rattle.rules_machine.specs.declared.thread.CondEnd.TheVariants as cond_end
use Rattle.rules_machine.specs.State.{Wait, Waiting, for_condition, for_mutex_again}
use Rattle.rules_machine.specs.Threads.{mutex_at, waiting_of}
use Rattle.rules_machine.specs.Waiters.{Waiter, best_waiter, somebody_waits, waiters}
use Rattle.rules_machine.specs.Turns.{Caller, Turn, changes_mutex, returns, ◌▷◌}
use Rattle.rules_machine.specs.Waking.{blocks, call_in}
use Rattle.rules_machine.specs.Mutexes.{is_free, owned_by, owns, releases, returns_from_wait, taken_by}

abbrev pub waits_on_condition : ℕ → Wait → Bool
waits_on_condition c (for_condition d k) = d == c
waits_on_condition c wait = false

abbrev pub waits_with_other_mutex : ℕ → ℕ → Wait → Bool
waits_with_other_mutex c k (for_condition d j) = d == c && not (j == k)
waits_with_other_mutex c k wait = false

-- ---- the end of a condition wait

-- the mutex that a condition wait released
abbrev pub released_mutex : Wait → Option ℕ
released_mutex (for_condition c k) = Some k
released_mutex wait = None

abbrev pub reacquires_or_waits : {P : Type 0} → Option ℕ → ℕ → CondEnd → Turn P → Turn P
reacquires_or_waits None t how s = s
reacquires_or_waits (Some k) t how s =
    if is_free s.machine k then (s ▷ changes_mutex k (taken_by t) ▷ returns_from_wait how t)
    else blocks (record { thread = t; call = call_in (waiting_of s.machine t) }) (for_mutex_again k how) None s

-- The thread leaves its condition, and owns the mutex again at once or waits for it, with no ceiling and no cycle tested.
-- It waits there as one that came now, and no timeout, signal of the condition or request ends that wait.
abbrev pub contends : {P : Type 0} → ℕ → CondEnd → Turn P → Turn P
contends t how s = reacquires_or_waits (option_and_then (λ (w : Waiting). released_mutex w.wait) (waiting_of s.machine t)) t how s

-- ---- waiting

-- pthread_cond_wait, and with a time pthread_cond_timedwait: a time that has passed ends the wait at the instant that follows
abbrev pub waits : {P : Type 0} → Caller → ℕ → ℕ → Option ℕ → Turn P → Turn P
waits by c k due s =
    if not (owns s.machine by.thread k) then returns by res.Perm 0 s
    else if nat_lt 1 (mutex_at s.machine k).count || somebody_waits s.machine (waits_with_other_mutex c k) then returns by res.Inval 0 s
    else if nat_lt 1 (length (owned_by s.machine by.thread)) then returns by res.Deadlk 0 s
    else (s ▷ blocks by (for_condition c k) due ▷ releases k)

-- ---- signalling

abbrev pub signals_waiter : {P : Type 0} → Option Waiter → Turn P → Turn P
signals_waiter None s = s
signals_waiter (Some w) s = contends w.thread cond_end.Signalled s

-- the best waiter of the condition contends for its mutex
abbrev pub signals_best : {P : Type 0} → ℕ → Turn P → Turn P
signals_best c s = signals_waiter (best_waiter s.machine (waits_on_condition c)) s

-- so many waiters, each the best of those that are left
abbrev pub signals_best_times : {P : Type 0} → ℕ → ℕ → Turn P → Turn P
signals_best_times zero c s = s
signals_best_times (suc n) c s = s ▷ signals_best_times n c ▷ signals_best c

-- pthread_cond_signal
abbrev pub signals : {P : Type 0} → Caller → ℕ → Turn P → Turn P
signals by c s = s ▷ returns by res.Zero 0 ▷ signals_best c

-- pthread_cond_broadcast
abbrev pub broadcasts : {P : Type 0} → Caller → ℕ → Turn P → Turn P
broadcasts by c s = s ▷ returns by res.Zero 0 ▷ signals_best_times (length (waiters s.machine (waits_on_condition c))) c
