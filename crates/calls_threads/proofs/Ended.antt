-- The joiner of a thread that ends.
use Rattle.std.proofs.Common.{◌≡◌, ◌<◌, ◌⊎◌, inl, inr, ℕ, zero, suc, true, List, [], ◌∷◌, arith, length, subst, sym}
use Rattle.words_trace.specs.declared.event.Event.TheVariants as event
use Rattle.rules_bodies.specs.declared.cursor.Cursor.{Cursor}
use Rattle.rules_machine.specs.Lives.{without_life, without_target}
use Rattle.rules_machine.specs.State.{Joiner, Machine, Thread, has_joined, nobody, waits_to_join}
use Rattle.rules_machine.specs.Threads.{is_blocked, no_thread, thread_at, thread_in}
use Rattle.rules_machine.specs.Turns.{Turn, changes, changes_pending, tells, ◌▷◌}
use Rattle.rules_machine.proofs.Reading.{changed-length}
use Rattle.rules_moves.proofs.Waiters.OfThreads.{changed_is}
use Rattle.kernel_threads.specs.Unused.{IsUnused}
use Rattle.kernel_wakes.specs.Waits.{BlockedRest}
use Rattle.kernel_wakes.specs.Joins.{JoinerFits, JoinsFit}

blocked_known : (threads : List (Thread Cursor)) (u : ℕ) → is_blocked (thread_in threads u).status ≡ true → u < length threads
blocked_known [] u e = absurd cc
blocked_known (th ∷ ths) zero e = omega arith
blocked_known (th ∷ ths) (suc u) e = let lt = blocked_known ths u e in omega (arith, lt)

module _ (t : ℕ) (s : Turn Cursor) where
  abbrev over : Machine Cursor
  over = (s ▷ changes t without_life ▷ tells (event.Exit t) ▷ changes_pending (without_target t)).machine

  -- a thread that has ended has no server
  still_unused : (u : ℕ) → IsUnused (thread_at s.machine u).server → IsUnused (thread_at over u).server
  still_unused u h = by_thread (changed_is no_thread t u without_life s.machine.threads)
    where
      by_thread : ((t ≡ u) × (thread_at over u ≡ without_life (thread_at s.machine t))) ⊎ (thread_at over u ≡ thread_at s.machine u) → IsUnused (thread_at over u).server
      by_thread (inl (same, at)) = subst (λ (th : Thread Cursor). IsUnused th.server) (sym at) tt
      by_thread (inr at) = subst (λ (th : Thread Cursor). IsUnused th.server) (sym at) h

  pub joiner_fits : (j : Joiner) → j ≡ (thread_at s.machine t).joiner → BlockedRest s.machine → JoinsFit s.machine → JoinerFits over j
  joiner_fits nobody e rests fits = tt
  joiner_fits has_joined e rests fits = tt
  joiner_fits (waits_to_join u) e rests fits =
      let blocked = fits.joiners t u (sym e) in
      let known = blocked_known s.machine.threads u blocked in
      (let e = changed-length no_thread t without_life s.machine.threads in omega (arith, e, known), still_unused u (rests u blocked))
