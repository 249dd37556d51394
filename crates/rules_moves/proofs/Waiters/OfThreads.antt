-- What a thread waits for after a move it waited for before it, or the move makes it wait so.
use Rattle.std.proofs.Common.{Bool, List, None, Option, Some, [], ap, arith, false, inl, inr, refl, suc, sym, true, zero, ℕ, ◌∷◌, ◌≡◌, ◌⊎◌}
use Rattle.std.specs.Prelude.{slice_index_or, ◌&&◌}
use Rattle.std.specs.Option.{option_map}
use mathlib.Core.Path.{subst, ◌∙◌}
use Rattle.words_trace.specs.declared.event.Event.TheVariants as event
use Rattle.rules_server.specs.Server.{ServerState, activate, oldest_pending, refill}
use Rattle.rules_machine.specs.Lists.{changed_at}
use Rattle.rules_machine.specs.Bodies.{Bodies}
use Rattle.rules_machine.specs.State.{Thread, Wait, Waiting}
use Rattle.rules_machine.specs.Threads.{can_run, no_thread, thread_at, thread_in, waiting_in}
use Rattle.rules_machine.specs.Turns.{Caller, Turn, changes, moves, tells}
use Rattle.rules_machine.specs.Servers.{activates_if, activates_server, amount_of, at_once, high_server, refills_server, regains_high, with_server}
use Rattle.rules_machine.specs.Waking.{ending_with, on_top, put_to_wait, started, woken}
use Rattle.rules_machine.specs.Lives.{with_joiner, without_life, without_top}
use Rattle.rules_machine.specs.Cancellation.{without_cleanup}
use Rattle.rules_machine.specs.Scheduling.{with_policy, with_priority}
use Rattle.rules_machine.proofs.Reading.{changed-keeps}
use Rattle.rules_moves.specs.Moves.{May, Move, alters, begins, blocks_for, blocks_plainly, does, drops, ends_with, enters_frame, leaves_frame, lives_no_more, prices, pushed, pushes, recasts, refills_one, rejoins, renews_with, wakes_with}
use Rattle.rules_moves.proofs.Cores.{same_of_wait, wait_in}

abbrev pub BeginsToWait : {P : Type 0} → Move P → ℕ → Waiting → Type 0
BeginsToWait (blocks_for by wait due) u w = (by.thread ≡ u) × (w.wait ≡ wait)
BeginsToWait (blocks_plainly by wait due) u w = (by.thread ≡ u) × (w.wait ≡ wait)
BeginsToWait move u w = ⊥

-- of a changed member: it is the changed one, or as it was
pub changed_is : {X : Type 0} (none : X) (n k : ℕ) (f : X → X) (xs : List X) →
    ((n ≡ k) × (slice_index_or (changed_at none n f xs) k none ≡ f (slice_index_or xs n none))) ⊎ (slice_index_or (changed_at none n f xs) k none ≡ slice_index_or xs k none)
changed_is none n k f [] = inr refl
changed_is none zero zero f (x ∷ xs) = inl (refl, refl)
changed_is none zero (suc k) f (x ∷ xs) = inr refl
changed_is none (suc n) zero f (x ∷ xs) = inr refl
changed_is {X} none (suc n) (suc k) f (x ∷ xs) = deeper (changed_is none n k f xs)
  where
    deeper : ((n ≡ k) × (slice_index_or (changed_at none n f xs) k none ≡ f (slice_index_or xs n none))) ⊎ (slice_index_or (changed_at none n f xs) k none ≡ slice_index_or xs k none) →
        ((suc n ≡ suc k) × (slice_index_or (changed_at none n f xs) k none ≡ f (slice_index_or xs n none))) ⊎ (slice_index_or (changed_at none n f xs) k none ≡ slice_index_or xs k none)
    deeper (inl h) = inl (ap suc h.0, h.1)
    deeper (inr h) = inr h

module _ {P : Type 0} (u : ℕ) (w : Waiting) where
  abbrev Waits : Turn P → Type 0
  Waits s = wait_in (thread_at s.machine u).status ≡ Some w.wait

  kept_by : (t : ℕ) (f : Thread P → Thread P) → ((th : Thread P) → wait_in (f th).status ≡ wait_in th.status) → (s : Turn P) → Waits (changes t f s) → Waits s
  kept_by t f h s e = sym (changed-keeps no_thread t u f (λ th. wait_in th.status) h s.machine.threads) ∙ e

  same_at : (t : ℕ) (f : Thread P → Thread P) (s : Turn P) → (f (thread_at s.machine t)).status ≡ (thread_at s.machine t).status → Waits (changes t f s) → Waits s
  same_at t f s h e = of_two (changed_is no_thread t u f s.machine.threads)
    where
      of_two : ((t ≡ u) × (thread_in (changed_at no_thread t f s.machine.threads) u ≡ f (thread_at s.machine t))) ⊎ (thread_in (changed_at no_thread t f s.machine.threads) u ≡ thread_at s.machine u) → Waits s
      of_two (inl k) = subst (λ (v : ℕ). wait_in (thread_at s.machine v).status ≡ Some w.wait) k.0 (sym (ap wait_in h) ∙ sym (ap (λ (th : Thread P). wait_in th.status) k.1) ∙ e)
      of_two (inr k) = sym (ap (λ (th : Thread P). wait_in th.status) k) ∙ e

  -- a change into a thread that does not wait
  not_by : (t : ℕ) (f : Thread P → Thread P) → ((th : Thread P) → waiting_in (f th).status ≡ None) → (s : Turn P) → Waits (changes t f s) → Waits s
  not_by t f h s e = of_two (changed_is no_thread t u f s.machine.threads)
    where
      of_two : ((t ≡ u) × (thread_in (changed_at no_thread t f s.machine.threads) u ≡ f (thread_at s.machine t))) ⊎ (thread_in (changed_at no_thread t f s.machine.threads) u ≡ thread_at s.machine u) → Waits s
      of_two (inl k) = let none : wait_in (thread_at (changes t f s).machine u).status ≡ None = ap (λ (th : Thread P). wait_in th.status) k.1 ∙ ap (option_map (λ (w : Waiting). w.wait)) (h (thread_at s.machine t)) in absurd (grind arith)
      of_two (inr k) = sym (ap (λ (th : Thread P). wait_in th.status) k) ∙ e

  begun_by : (by : Caller) (v : Waiting) (s : Turn P) → Waits (changes by.thread (put_to_wait v) s) → (Waits s) ⊎ ((by.thread ≡ u) × (w.wait ≡ v.wait))
  begun_by by v s e = of_two (changed_is no_thread by.thread u (put_to_wait v) s.machine.threads)
    where
      of_two : ((by.thread ≡ u) × (thread_in (changed_at no_thread by.thread (put_to_wait v) s.machine.threads) u ≡ put_to_wait v (thread_at s.machine by.thread))) ⊎
          (thread_in (changed_at no_thread by.thread (put_to_wait v) s.machine.threads) u ≡ thread_at s.machine u) → (Waits s) ⊎ ((by.thread ≡ u) × (w.wait ≡ v.wait))
      of_two (inl k) = let same : Some w.wait ≡ Some v.wait = sym e ∙ ap (λ (th : Thread P). wait_in th.status) k.1 in inr (k.0, ap out same)
        where
          out : Option Wait → Wait
          out None = w.wait
          out (Some x) = x
      of_two (inr k) = inl (sym (ap (λ (th : Thread P). wait_in th.status) k) ∙ e)

  activated : (t : ℕ) (o : Option ServerState) (s : Turn P) → Waits (activates_server t o s) → Waits s
  activated t None s e = e
  activated t (Some server) s e = kept_by t (with_server (activate s.machine.now)) (λ th. refl) s e

  activated_if : (b : Bool) (t : ℕ) (s : Turn P) → Waits (activates_if b t s) → Waits s
  activated_if true t s e = activated t (at_once (thread_at s.machine t).server) s e
  activated_if false t s e = e

  refilled : (t : ℕ) (o : Option ServerState) (s : Turn P) → Waits (refills_server t o s) → Waits s
  refilled t None s e = e
  refilled t (Some server) s e =
      let ev = event.Refill t (amount_of (oldest_pending server)) (refill server).capacity in
      kept_by t (with_server refill) (λ th. refl) s (activated_if (regains_high server && can_run s.machine t) t (tells ev (changes t (with_server refill) s)) e)

  pub waited : (bodies : Bodies P) (who : Option ℕ) (move : Move P) (s : Turn P) → May who move s → Waits (does bodies move s) → (Waits s) ⊎ (BeginsToWait move u w)
  waited bodies who (alters t f) s may e = inl (kept_by t f (λ th. same_of_wait (option_map (λ (w : Waiting). w.wait)) (λ w. refl) (f th) th (may th)) s e)
  waited bodies who (ends_with t v) s may e = inl (kept_by t (ending_with v) (λ th. refl) s e)
  waited bodies who (enters_frame t f) s may e = inl (kept_by t (on_top f) (λ th. refl) s e)
  waited bodies who (leaves_frame t) s may e = inl (kept_by t without_top (λ th. refl) s e)
  waited bodies who (pushes t v) s may e = inl (kept_by t (pushed v) (λ th. refl) s e)
  waited bodies who (drops t) s may e = inl (kept_by t without_cleanup (λ th. refl) s e)
  waited bodies who (prices t p) s may e = inl (kept_by t (with_priority p) (λ th. refl) s e)
  waited bodies who (renews_with active t new) s may e = inl (kept_by t (with_policy new s.machine.now) (λ th. refl) s (activated_if active t (changes t (with_policy new s.machine.now) s) e))
  waited bodies who (wakes_with t ev r v) s may e =
      let up = tells ev (moves t (changes t (woken r v) s)) in inl (not_by t (woken r v) (λ th. refl) s (activated t (at_once (high_server (thread_at up.machine t).server)) up e))
  waited bodies who (blocks_for by wait due) s may e = begun_by by (record { wait = wait; serial = s.machine.next_serial; due = due; call = by.call }) s e
  waited bodies who (blocks_plainly by wait due) s may e = begun_by by (record { wait = wait; serial = 0; due = due; call = by.call }) s e
  waited bodies who (begins t mask) s may e =
      let up = tells (event.Start t) (moves t (changes t (started bodies t mask s.machine.now) s)) in
      inl (not_by t (started bodies t mask s.machine.now) (λ th. refl) s (activated t (at_once (thread_at up.machine t).server) up e))
  waited bodies who (lives_no_more t) s may e = inl (not_by t without_life (λ th. refl) s e)
  waited bodies who (recasts t f) s may e = inl (same_at t f s may e)
  waited bodies who (rejoins t j) s may e = inl (kept_by t (with_joiner j) (λ th. refl) s e)
  waited bodies who (refills_one t) s may e = inl (refilled t (thread_at s.machine t).server s e)
  waited bodies who _ s may e = inl e
