-- What each member of a list keeps; and who waits, lives or has a server is there.
use Rattle.std.proofs.Common.{Bool, List, None, Option, Some, [], ap, arith, false, length, refl, suc, true, zero, ℕ, ◌<◌, ◌∷◌, ◌++◌, ◌≡◌}
use Rattle.std.specs.Prelude.{filter, is_some, map, slice_index_or}
use Rattle.rules_machine.specs.Lists.{changed_at, first_by}
use Rattle.rules_machine.specs.State.{Machine, Thread, Wait, Waiting}
use Rattle.rules_machine.specs.Threads.{is_live, no_thread, thread_at, thread_in, waiting_in}
use Rattle.rules_machine.specs.Waiters.{Waiter, best_waiter, waiters}
use Rattle.rules_machine.specs.DueItems.{has_come, start_in}
use Rattle.rules_moves.proofs.Waiters.Best as best
use Rattle.rules_moves.proofs.Waiters.Best.{best_waits, blocked_within, first_one}
use Rattle.laws_numbers.specs.Numbers.{Each}

pub changed : {X : Type 0} (Q : X → Type 0) (none : X) (n : ℕ) (f : X → X) (xs : List X) → Q (f (slice_index_or xs n none)) → ((k : ℕ) → Q (slice_index_or xs k none)) →
    (k : ℕ) → Q (slice_index_or (changed_at none n f xs) k none)
changed Q none n f [] new all k = all k
changed Q none zero f (x ∷ xs) new all zero = new
changed Q none zero f (x ∷ xs) new all (suc k) = all (suc k)
changed Q none (suc n) f (x ∷ xs) new all zero = all 0
changed Q none (suc n) f (x ∷ xs) new all (suc k) = changed Q none n f xs new (λ k. all (suc k)) k

pub mapped : {X : Type 0} (Q : X → Type 0) (none : X) (f : X → X) (xs : List X) → Q none → ((k : ℕ) → Q (f (slice_index_or xs k none))) → (k : ℕ) → Q (slice_index_or (map f xs) k none)
mapped Q none f [] nothing all k = nothing
mapped Q none f (x ∷ xs) nothing all zero = all 0
mapped Q none f (x ∷ xs) nothing all (suc k) = mapped Q none f xs nothing (λ k. all (suc k)) k

pub each_last : {X : Type 0} (Law : X → Type 0) (xs : List X) (x : X) → Each Law xs → Law x → Each Law (xs ++ x ∷ [])
each_last Law [] x each h = (h, tt)
each_last Law (y ∷ ys) x each h = (each.0, each_last Law ys x each.1 h)

pub each_both : {X : Type 0} (Law : X → Type 0) (xs ys : List X) → Each Law xs → Each Law ys → Each Law (xs ++ ys)
each_both Law [] ys h k = k
each_both Law (x ∷ xs) ys h k = (h.0, each_both Law xs ys h.1 k)

pub each_kept : {X : Type 0} (Law : X → Type 0) (passes : X → Bool) (xs : List X) → Each Law xs → Each Law (filter passes xs)
each_kept Law passes [] each = tt
each_kept {X} Law passes (x ∷ xs) each = split (passes x) refl (each_kept Law passes xs each.1)
  where
    split : (b : Bool) → passes x ≡ b → Each Law (filter passes xs) → Each Law (filter passes (x ∷ xs))
    split true e rest = rw e (each.0, rest)
    split false e rest = rw e rest

pub each_at : {X : Type 0} (Law : X → Type 0) (xs : List X) (n : ℕ) (d : X) → Each Law xs → Law d → Law (slice_index_or xs n d)
each_at Law [] n d each h = h
each_at Law (y ∷ ys) zero d each h = each.0
each_at Law (y ∷ ys) (suc n) d each h = each_at Law ys n d each.1 h

other_each : {X : Type 0} (Law : X → Type 0) (xs : List X) → Each Law xs → best.Each Law xs
other_each Law [] h = tt
other_each Law (x ∷ xs) h = (h.0, other_each Law xs h.1)

own_each : {X : Type 0} (Law : X → Type 0) (xs : List X) → best.Each Law xs → Each Law xs
own_each Law [] h = tt
own_each Law (x ∷ xs) h = (h.0, own_each Law xs h.1)

pub first_small : {X : Type 0} (Law : X → Type 0) (is_before : X → X → Bool) (xs : List X) (x : X) → Each Law xs → first_by is_before xs ≡ Some x → Law x
first_small Law is_before xs x h e = first_one Law is_before xs x (other_each Law xs h) e

-- ---- who is there

pub waiting_within : {P : Type 0} (ths : List (Thread P)) (t : ℕ) (w : Waiting) → waiting_in (thread_in ths t).status ≡ Some w → t < length ths
waiting_within ths t w e = blocked_within ths t (ap is_some e)

pub live_within : {P : Type 0} (ths : List (Thread P)) (t : ℕ) → is_live (thread_in ths t).status ≡ true → t < length ths
live_within [] t e = absurd (grind arith)
live_within (th ∷ ths) zero e = omega arith
live_within (th ∷ ths) (suc t) e = let rest = live_within ths t e in omega arith

pub starting_within : {P : Type 0} (ths : List (Thread P)) (t now : ℕ) → has_come (start_in (thread_in ths t).status) now ≡ true → t < length ths
starting_within [] t now e = absurd (grind arith)
starting_within (th ∷ ths) zero now e = omega arith
starting_within (th ∷ ths) (suc t) now e = let rest = starting_within ths t now e in omega arith

pub served_within : {P : Type 0} {S : Type 0} (ths : List (Thread P)) (t : ℕ) (server : S) (of : Thread P → Option S) → of no_thread ≡ None → of (thread_in ths t) ≡ Some server → t < length ths
served_within [] t server of none e = absurd (cc)
served_within (th ∷ ths) zero server of none e = omega arith
served_within (th ∷ ths) (suc t) server of none e = let rest = served_within ths t server of none e in omega arith

module _ {P : Type 0} (m : Machine P) (passes : Wait → Bool) where
  pub record Waits (w : Waiter) : Type 0 where
    pub waiting : waiting_in (thread_at m w.thread).status ≡ Some w.waiting
    pub within : w.thread < length m.threads

  pub best_within : (w : Waiter) → best_waiter m passes ≡ Some w → Waits w
  best_within w e = let h = (best_waits m passes w e).0 in record { waiting = h; within = waiting_within m.threads w.thread w.waiting h }

  pub waiters_within : Each Waits (waiters m passes)
  waiters_within = all (waiters m passes) (own_each (best.IsWaiter m passes) (waiters m passes) (best.each_waiter m passes _ (best.all_pass m passes)))
    where
      all : (ws : List Waiter) → Each (best.IsWaiter m passes) ws → Each Waits ws
      all [] h = tt
      all (w ∷ ws) h = (record { waiting = h.0.0; within = waiting_within m.threads w.thread w.waiting h.0.0 }, all ws h.1)
