-- What is known of a thread that begins to wait, and of the one that is served first.
use Rattle.std.proofs.Common.{◌≡◌, ◌<◌, ◌∙◌, ℕ, zero, suc, Bool, true, false, List, [], ◌∷◌, Option, None, Some, arith, length, refl}
use Rattle.std.specs.Prelude.{IfSome, option_map, slice_index_or}
use Rattle.rules_bodies.specs.declared.cursor.Cursor.{Cursor}
use Rattle.rules_machine.specs.State.{Machine, Status, Thread, Wait, Waiting, blocked, dormant, ended, runnable}
use Rattle.rules_machine.specs.Threads.{can_run, is_blocked, is_runnable, no_thread, thread_at, thread_in, waiting_in, waiting_of}
use Rattle.rules_machine.specs.Priorities.{claims, mutex_awaited_by}
use Rattle.rules_machine.specs.Mutexes.{closes_cycle}
use Rattle.rules_machine.specs.Waiters.{Waiter, best_waiter}
use Rattle.rules_moves.proofs.Waiters.Best.{best_waits}
use Rattle.parts_waiters.specs.declared.WaitObj.{WaitObj}
use Rattle.parts_waiters.specs.Ties.{is_object, object_of}
use Rattle.parts_owners.specs.Chains.{closes_cycle_in}
use Rattle.parts_owners.proofs.Machine.{closes_cycle_is}
use Rattle.kernel_table.specs.Table.{CanAwait}
use Rattle.kernel_state.specs.Waits.{CanWait}

not_off : {X : Type 0} → false ≡ true → X
not_off h = absurd cc

pub running_waits : (status : Status) → is_runnable status ≡ true → waiting_in status ≡ None
running_waits (dormant at) h = not_off h
running_waits runnable h = refl
running_waits (blocked w) h = not_off h
running_waits ended h = not_off h

-- a thread that can run is one of the threads
pub runs_known : {P : Type 0} (ths : List (Thread P)) (t : ℕ) → is_runnable (slice_index_or ths t no_thread).status ≡ true → t < length ths
runs_known [] t h = absurd cc
runs_known (x ∷ xs) zero h = omega arith
runs_known (x ∷ xs) (suc t) h = let lt = runs_known xs t h in omega (arith, lt)

-- a thread that is blocked cannot run
pub blocked_rests : {X : Type 0} (status : Status) → is_blocked status ≡ true → is_runnable status ≡ true → X
blocked_rests (dormant at) h runs = not_off h
blocked_rests runnable h runs = not_off h
blocked_rests (blocked w) h runs = not_off runs
blocked_rests ended h runs = not_off h

-- a thread that can run waits for nothing
pub awaits_none : (m : Machine Cursor) (t : ℕ) → can_run m t ≡ true → mutex_awaited_by (thread_at m t) ≡ None
awaits_none m t runs = rw (running_waits (thread_at m t).status runs) refl

-- the test of the chain is that of the machine
pub cycle_is : (m : Machine Cursor) (t k : ℕ) (r : Bool) → r ≡ closes_cycle_in (claims m.threads) m.mutexes t k → r ≡ closes_cycle m k t
cycle_is m t k r h = h ∙ closes_cycle_is m t k

pub can_await : (m : Machine Cursor) (t : ℕ) (o : Option ℕ) → CanWait m t o → CanAwait (record { threads = m.threads; mutexes = m.mutexes; timers = m.timers }) t o
can_await m t None can = tt
can_await m t (Some k) (known, owned, free) = (known, owned, closes_cycle_is m t k ∙ free)

waits_blocked : (status : Status) (w : Waiting) → waiting_in status ≡ Some w → is_blocked status ≡ true
waits_blocked (dormant at) w h = absurd cc
waits_blocked runnable w h = absurd cc
waits_blocked (blocked v) w h = refl
waits_blocked ended w h = absurd cc

waits_known : (threads : List (Thread Cursor)) (t : ℕ) (w : Waiting) → waiting_in (thread_in threads t).status ≡ Some w → t < length threads
waits_known [] t w h = absurd cc
waits_known (th ∷ ths) zero w h = omega arith
waits_known (th ∷ ths) (suc t) w h = let lt = waits_known ths t w h in omega (arith, lt)

-- ---- the one that is served first

-- what is said of the thread that is served first of those that wait for an object
abbrev pub IsBest : Machine Cursor → WaitObj → Option ℕ → Type 0
IsBest m obj r = (passes : Wait → Bool) → ((w : Wait) → passes w ≡ is_object obj (object_of w)) → r ≡ option_map (λ (w : Waiter). w.thread) (best_waiter m passes)

module _ (m : Machine Cursor) (obj : WaitObj) (r : Option ℕ) (is : IsBest m obj r) where
  abbrev passes : Wait → Bool
  passes w = is_object obj (object_of w)

  -- what holds of each thread that waits holds of it
  each_best : (Q : ℕ → Type 0) → ((t : ℕ) (w : Waiting) → waiting_of m t ≡ Some w → Q t) → IfSome r Q
  each_best Q all = rw (is passes (λ w. refl)) (by_best (best_waiter m passes) refl)
    where
      by_best : (o : Option Waiter) → best_waiter m passes ≡ o → IfSome (option_map (λ (w : Waiter). w.thread) o) Q
      by_best None e = tt
      by_best (Some w) e = all w.thread w.waiting (best_waits m passes w e).0

  pub best_is_blocked : IfSome r (λ t. is_blocked (thread_at m t).status ≡ true)
  best_is_blocked = each_best (λ t. is_blocked (thread_at m t).status ≡ true) (λ t w e. waits_blocked (thread_at m t).status w e)

  pub best_is_known : (n : ℕ) → n ≡ length m.threads → IfSome r (λ t. t < n)
  best_is_known n same = each_best (λ t. t < n) (λ t w e. let lt = waits_known m.threads t w e in omega (arith, same, lt))
