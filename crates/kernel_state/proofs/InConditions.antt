-- What a condition wait released, and how many wait.
use Rattle.std.proofs.Common.{◌≡◌, ℕ, suc, Bool, true, false, List, [], ◌∷◌, Option, None, Some, ap, length, refl}
use Rattle.std.specs.Prelude.{option_and_then, option_map}
use Rattle.std.specs.List.{filter_map}
use Rattle.rules_bodies.specs.declared.cursor.Cursor.{Cursor}
use Rattle.rules_machine.specs.Conditions.{released_mutex}
use Rattle.rules_machine.specs.Lists.{numbers_from}
use Rattle.rules_machine.specs.Priorities.{exec}
use Rattle.rules_machine.specs.State.{Machine, Wait, Waiting}
use Rattle.rules_machine.specs.Threads.{thread_at, waiting_of}
use Rattle.rules_machine.specs.Waiters.{Waiter, waiter_of, waiters, waits_so}
use Rattle.rules_moves.proofs.Waiters.Best.{Each}
use Rattle.rules_moves.proofs.Waiters.Best.{all_pass}
use Rattle.kernel_threads.specs.Plain.{wait_of}
use Rattle.kernel_threads.specs.declared.status.Wait as plain

-- ---- one thread

none_then : (o : Option Waiting) (x : Option plain.Wait) → x ≡ None → option_map wait_of x ≡ option_map (λ (w : Waiting). w.wait) o → None ≡ option_and_then (λ (w : Waiting). released_mutex w.wait) o
none_then None x none is = refl
none_then (Some w) x none is = absurd (let e : None ≡ Some w.wait = rw none at is in cc)

some_then : (o : Option Waiting) (v : plain.Wait) → option_map wait_of (Some v) ≡ option_map (λ (w : Waiting). w.wait) o → released_mutex (wait_of v) ≡ option_and_then (λ (w : Waiting). released_mutex w.wait) o
some_then None v is = absurd cc
some_then (Some w) v is = let e : wait_of v ≡ w.wait = cc in ap released_mutex e

pub none_released : (m : Machine Cursor) (t : ℕ) (x : Option plain.Wait) → x ≡ None → option_map wait_of x ≡ option_map (λ (w : Waiting). w.wait) (waiting_of m t) →
    None ≡ option_and_then (λ (w : Waiting). released_mutex w.wait) (waiting_of m t)
none_released m t x none is = none_then (waiting_of m t) x none is

pub some_released : (m : Machine Cursor) (t : ℕ) (v : plain.Wait) → option_map wait_of (Some v) ≡ option_map (λ (w : Waiting). w.wait) (waiting_of m t) →
    released_mutex (wait_of v) ≡ option_and_then (λ (w : Waiting). released_mutex w.wait) (waiting_of m t)
some_released m t v is = some_then (waiting_of m t) v is

-- ---- how many

module _ (m : Machine Cursor) (passes : Wait → Bool) where
  abbrev waiter_at : ℕ → Option Waiter
  waiter_at t = waiter_of t (exec m t) (waiting_of m t)

  each_waits : (ts : List ℕ) → Each (λ (t : ℕ). waits_so passes (thread_at m t) ≡ true) ts → length (filter_map waiter_at ts) ≡ length ts
  each_waits [] all = refl
  each_waits (t ∷ ts) all = by_wait (waiting_of m t) refl (each_waits ts all.1)
    where
      by_wait : (o : Option Waiting) → waiting_of m t ≡ o → length (filter_map waiter_at ts) ≡ length ts → length (filter_map waiter_at (t ∷ ts)) ≡ suc (length ts)
      by_wait None e rest = absurd (let h : false ≡ true = rw e at all.0 in cc)
      by_wait (Some w) e rest = rw e (ap suc rest)

  -- each that waits so is a waiter
  pub waiters_counted : length (waiters m passes) ≡ length (numbers_from 0 (waits_so passes) m.threads)
  waiters_counted = each_waits (numbers_from 0 (waits_so passes) m.threads) (all_pass m passes)
