-- What the ticks of a unit leave of the threads.
use Rattle.std.proofs.Common.{◌≡◌, ◌∙◌, ℕ, zero, suc, List, [], ◌∷◌, refl}
use Rattle.std.specs.Prelude.{slice_index_or}
use Rattle.rules_machine.specs.Bodies.{Bodies}
use Rattle.rules_machine.specs.State.{Frame, Machine, Thread}
use Rattle.rules_machine.specs.Lists.{changed_at}
use Rattle.rules_machine.specs.Threads.{can_run, is_runnable, no_thread, thread_at}
use Rattle.rules_machine.specs.Turns.{with_thread}
use Rattle.rules_machine.specs.Units.{in_unit}
use Rattle.rules_leaps.specs.Quiet.{after_ticks}
use Rattle.kernel_table.proofs.Statuses.{unit_keeps}

kept_at : {P X : Type 0} (view : Thread P → X) (f : Thread P → Thread P) (xs : List (Thread P)) (n k : ℕ) →
    view (f (slice_index_or xs n no_thread)) ≡ view (slice_index_or xs n no_thread) →
    view (slice_index_or (changed_at no_thread n f xs) k no_thread) ≡ view (slice_index_or xs k no_thread)
kept_at view f [] n k h = refl
kept_at view f (x ∷ xs) zero zero h = h
kept_at view f (x ∷ xs) zero (suc k) h = refl
kept_at view f (x ∷ xs) (suc n) zero h = refl
kept_at view f (x ∷ xs) (suc n) (suc k) h = kept_at view f xs n k h

module _ {P X : Type 0} (bodies : Bodies P) (view : Thread P → X) (same : (th : Thread P) (fs : List (Frame P)) (us : List ℕ) → view (record th { frames = fs; cleanups = us }) ≡ view th)
    (charged : (k : ℕ) (th : Thread P) → view (after_ticks k th) ≡ view th) where
  -- what neither a unit nor its ticks change
  pub charge_keeps : (k : ℕ) (m : Machine P) (t u : ℕ) → view (thread_at (with_thread t (λ th. after_ticks k (in_unit bodies (thread_at m t)).thread) m) u) ≡ view (thread_at m u)
  charge_keeps k m t u =
      kept_at view (λ th. after_ticks k (in_unit bodies (thread_at m t)).thread) m.threads t u (charged k (in_unit bodies (thread_at m t)).thread ∙ unit_keeps bodies view same (thread_at m t))

pub charge_same : {P : Type 0} (bodies : Bodies P) (k : ℕ) (m : Machine P) (t u : ℕ) → can_run (with_thread t (λ th. after_ticks k (in_unit bodies (thread_at m t)).thread) m) u ≡ can_run m u
charge_same bodies k m t u = charge_keeps bodies (λ th. is_runnable th.status) (λ th fs us. refl) (λ k th. refl) k m t u
