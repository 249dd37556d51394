-- The head of the lists can run where the threads stand right.
use Rattle.std.proofs.Common.{◌≡◌, ℕ, suc, List, [], ◌∷◌, Bool, true, false, Some, arith, refl}
use Rattle.std.specs.Prelude.{slice_index_or}
use Rattle.rules_lists.specs.Threads.{times}
use Rattle.rules_machine.specs.State.{Machine}
use Rattle.rules_machine.specs.Threads.{can_run}
use Rattle.rules_machine.specs.Dispatch.{head}
use Rattle.rules_moves.proofs.Runs.Listed.{AllRun, head_can_run}
use Rattle.rules_moves.proofs.Waiters.Best.{Each}
use Rattle.kernel_settling.specs.Stood.{StoodRight}

here_once : (u : ℕ) (us : List ℕ) → times u (u ∷ us) ≡ 0 → ⊥
here_once u us e = grind arith

none_later : (t u : ℕ) (us : List ℕ) → times t (u ∷ us) ≡ 0 → times t us ≡ 0
none_later t u us e = omega (arith, e)

module _ {P : Type 0} (m : Machine P) where
  each_runs : (ts : List ℕ) → ((t : ℕ) → can_run m t ≡ false → times t ts ≡ 0) → Each (λ (t : ℕ). can_run m t ≡ true) ts
  each_runs [] none = tt
  each_runs (u ∷ us) none = (first (can_run m u) refl, each_runs us (λ t off. none_later t u us (none t off)))
    where
      first : (b : Bool) → can_run m u ≡ b → can_run m u ≡ true
      first true e = e
      first false e = absurd (here_once u us (none u e))

  all_run : (lists : List (List ℕ)) → ((t i : ℕ) → can_run m t ≡ false → times t (slice_index_or lists i []) ≡ 0) → AllRun m lists
  all_run [] none = tt
  all_run (ts ∷ lists) none = (each_runs ts (λ t off. none t 0 off), all_run lists (λ t i off. none t (suc i) off))

  pub head_runs : (t : ℕ) → StoodRight m → head m ≡ Some t → can_run m t ≡ true
  head_runs t stood e = head_can_run m t (all_run m.lists stood.others) e
