-- What holds of the threads that wait stays, where one thread changes.
use Rattle.std.proofs.Common.{◌≡◌, ◌∙◌, ◌⊎◌, inl, inr, ℕ, Bool, true, false, Option, None, Some, ap, length, refl, subst, sym}
use Rattle.std.specs.Prelude.{option_map}
use Rattle.rules_bodies.specs.declared.cursor.Cursor.{Cursor}
use Rattle.rules_machine.specs.State.{Machine, Thread, Wait, Waiting, for_condition}
use Rattle.rules_machine.specs.Threads.{no_thread, thread_at, waiting_in}
use Rattle.rules_machine.specs.Mutexes.{waits_for_mutex}
use Rattle.rules_machine.specs.Turns.{Caller, Turn}
use Rattle.rules_machine.specs.Waiters.{Waiter, best_waiter}
use Rattle.rules_machine.specs.Waking.{blocks, put_to_wait}
use Rattle.rules_moves.proofs.Calls.Answers.{waits_blocked}
use Rattle.rules_moves.proofs.Waiters.Best.{best_waits}
use Rattle.rules_moves.proofs.Waiters.OfThreads.{changed_is}
use Rattle.kernel_threads.specs.Unused.{IsUnused}
use Rattle.kernel_wakes.specs.Waits.{WaitKnowsMutex, BlockedRest, KnowsMutex, MutexWaitersRest, WaitsKnowMutexes}

pub blocked_waiters : (m : Machine Cursor) (k : ℕ) → BlockedRest m → MutexWaitersRest m k
blocked_waiters m k rests u w waits passes = rests u (waits_blocked m u w waits)

-- the one that is served first has used nothing
pub best_rests : (m : Machine Cursor) (k w : ℕ) → Some w ≡ option_map (λ (v : Waiter). v.thread) (best_waiter m (waits_for_mutex k)) → MutexWaitersRest m k → IsUnused (thread_at m w).server
best_rests m k w is rests = by_best (best_waiter m (waits_for_mutex k)) refl is
  where
    by_best : (o : Option Waiter) → best_waiter m (waits_for_mutex k) ≡ o → Some w ≡ option_map (λ (v : Waiter). v.thread) o → IsUnused (thread_at m w).server
    by_best None e same = absurd cc
    by_best (Some v) e same =
        let it : w ≡ v.thread = cc in
        let waits = best_waits m (waits_for_mutex k) v e in
        subst (λ (u : ℕ). IsUnused (thread_at m u).server) (sym it) (rests v.thread v.waiting waits.0 waits.1)

not_both : {X : Type 0} (b : Bool) → b ≡ false → b ≡ true → X
not_both b off on = let a : true ≡ false = sym on ∙ off in absurd cc

-- a caller that blocks on a condition waits for no mutex
pub blocked_on_condition : (by : Caller) (c j : ℕ) (due : Option ℕ) (k : ℕ) (s : Turn Cursor) → BlockedRest s.machine → MutexWaitersRest (blocks by (for_condition c j) due s).machine k
blocked_on_condition by c j due k s rests u w waits passes = by_thread (changed_is no_thread by.thread u (put_to_wait own) s.machine.threads)
  where
    own : Waiting
    own = record { wait = for_condition c j; serial = s.machine.next_serial; due = due; call = by.call }

    after : Machine Cursor
    after = (blocks by (for_condition c j) due s).machine

    by_thread : ((by.thread ≡ u) × (thread_at after u ≡ put_to_wait own (thread_at s.machine by.thread))) ⊎ (thread_at after u ≡ thread_at s.machine u) → IsUnused (thread_at after u).server
    by_thread (inl (same, at)) = not_both (waits_for_mutex k w.wait) (let e : own ≡ w = (let f : Some own ≡ Some w = sym (ap (λ (th : Thread Cursor). waiting_in th.status) at) ∙ waits in cc) in ap (λ (v : Waiting). waits_for_mutex k v.wait) (sym e)) passes
    by_thread (inr at) = subst (λ (th : Thread Cursor). IsUnused th.server) (sym at) (rests u (waits_blocked s.machine u w (sym (ap (λ (th : Thread Cursor). waiting_in th.status) at) ∙ waits)))

pub only_blocked : (by : Caller) (x : Wait) (due : Option ℕ) (s : Turn Cursor) → KnowsMutex (length s.machine.mutexes) x → WaitsKnowMutexes s.machine → WaitsKnowMutexes (blocks by x due s).machine
only_blocked by x due s built only u = by_thread (changed_is no_thread by.thread u (put_to_wait own) s.machine.threads)
  where
    own : Waiting
    own = record { wait = x; serial = s.machine.next_serial; due = due; call = by.call }

    after : Machine Cursor
    after = (blocks by x due s).machine

    by_thread : ((by.thread ≡ u) × (thread_at after u ≡ put_to_wait own (thread_at s.machine by.thread))) ⊎ (thread_at after u ≡ thread_at s.machine u) →
        WaitKnowsMutex (length s.machine.mutexes) (waiting_in (thread_at after u).status)
    by_thread (inl (same, at)) = subst (λ (th : Thread Cursor). WaitKnowsMutex (length s.machine.mutexes) (waiting_in th.status)) (sym at) built
    by_thread (inr at) = subst (λ (th : Thread Cursor). WaitKnowsMutex (length s.machine.mutexes) (waiting_in th.status)) (sym at) (only u)
