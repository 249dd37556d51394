-- Nobody waits for a semaphore that is there: every move keeps it.
use Rattle.std.proofs.Common.{Bool, List, Option, [], ap, arith, false, refl, suc, sym, true, zero, ℕ, ◌∷◌, ◌≡◌}
use Rattle.std.specs.Prelude.{pred, slice_index_or, ◌==◌}
use mathlib.Core.Path.{subst, ◌∙◌}
use Rattle.rules_machine.specs.Lists.{changed_at}
use Rattle.rules_machine.specs.Bodies.{Bodies}
use Rattle.rules_machine.specs.State.{Machine, for_semaphore}
use Rattle.rules_machine.specs.Threads.{semaphore_at}
use Rattle.rules_machine.specs.Waiters.{somebody_waits}
use Rattle.rules_machine.specs.Semaphores.{waits_on_semaphore}
use Rattle.rules_machine.specs.Turns.{Turn}
use Rattle.rules_moves.specs.Moves.{Keeps, May, Move, blocks_for, blocks_plainly, does, sem_down, sem_up, refills_one, wakes_with, begins, renews_with}
use Rattle.rules_moves.proofs.Waiters.AfterMoves.{part_begun, part_refill, part_renewed, wait_begun, waited_before}
use Rattle.rules_moves.proofs.Calls.Commuting.{wakes_telling_part}

abbrev pub SemaphoresAreRight : {P : Type 0} → Machine P → Type 0
SemaphoresAreRight m = (k : ℕ) → somebody_waits m (waits_on_semaphore k) ≡ true → semaphore_at m k ≡ 0

-- a semaphore of value 0 that is taken from has value 0
lowered : (xs : List ℕ) (j k : ℕ) → slice_index_or xs k 0 ≡ 0 → slice_index_or (changed_at 0 j pred xs) k 0 ≡ 0
lowered [] j k h = refl
lowered (x ∷ xs) zero zero h = rw h refl
lowered (x ∷ xs) zero (suc k) h = h
lowered (x ∷ xs) (suc j) zero h = h
lowered (x ∷ xs) (suc j) (suc k) h = lowered xs j k h

raised : (xs : List ℕ) (j k : ℕ) → (j == k) ≡ false → slice_index_or (changed_at 0 j suc xs) k 0 ≡ slice_index_or xs k 0
raised [] j k h = refl
raised (x ∷ xs) zero zero h = absurd (grind arith)
raised (x ∷ xs) zero (suc k) h = refl
raised (x ∷ xs) (suc j) zero h = refl
raised (x ∷ xs) (suc j) (suc k) h = raised xs j k (grind arith)

module _ {P : Type 0} (bodies : Bodies P) (who : Option ℕ) where
  abbrev Law : Turn P → Type 0
  Law s = SemaphoresAreRight s.machine

  -- a move that touches no semaphore and blocks nobody on one
  stays : (move : Move P) (s : Turn P) → May who move s → (does bodies move s).machine.semaphores ≡ s.machine.semaphores → ((k : ℕ) → wait_begun (waits_on_semaphore k) move ≡ false) → Law s → Law (does bodies move s)
  stays move s may e h q k w = ap (λ (xs : List ℕ). slice_index_or xs k 0) e ∙ q k (waited_before (waits_on_semaphore k) bodies who move s may (h k) w)

  contra : {b : Bool} → b ≡ true → b ≡ false → ⊥
  contra p q = grind arith

  pub semaphores_keep : Keeps bodies who Law
  semaphores_keep (sem_up j) s may q k w = by_eq (j == k) refl
    where
      by_eq : (b : Bool) → (j == k) ≡ b → semaphore_at (does bodies (sem_up j) s).machine k ≡ 0
      by_eq true e = let it : j ≡ k = grind arith in absurd (contra (subst (λ (i : ℕ). somebody_waits s.machine (waits_on_semaphore i) ≡ true) (sym it) w) may)
      by_eq false e = raised s.machine.semaphores j k e ∙ q k w
  semaphores_keep (sem_down j) s may q k w = lowered s.machine.semaphores j k (q k w)
  semaphores_keep (blocks_for by (for_semaphore j) due) s may q k w = by_eq (j == k) refl
    where
      by_eq : (b : Bool) → (j == k) ≡ b → semaphore_at s.machine k ≡ 0
      by_eq true e = let it : j ≡ k = grind arith in subst (λ (i : ℕ). semaphore_at s.machine i ≡ 0) it may.1
      by_eq false e = q k (waited_before (waits_on_semaphore k) bodies who (blocks_for by (for_semaphore j) due) s may e w)
  semaphores_keep (blocks_plainly by (for_semaphore j) due) s may q k w = absurd may
  semaphores_keep (wakes_with t ev r v) s may q k w = stays (wakes_with t ev r v) s may (wakes_telling_part (λ (m : Machine P). m.semaphores) (λ m threads. refl) ev t r v s) (λ k. refl) q k w
  semaphores_keep (begins t mask) s may q k w = stays (begins t mask) s may (part_begun (λ (m : Machine P). m.semaphores) (λ m threads. refl) bodies t mask s) (λ k. refl) q k w
  semaphores_keep (renews_with b t new) s may q k w = stays (renews_with b t new) s may (part_renewed (λ (m : Machine P). m.semaphores) (λ m threads. refl) b t new bodies s) (λ k. refl) q k w
  semaphores_keep (refills_one t) s may q k w = stays (refills_one t) s may (part_refill (λ (m : Machine P). m.semaphores) (λ m threads. refl) bodies t s) (λ k. refl) q k w
  semaphores_keep move s may q k w = stays move s may refl (λ k. refl) q k w
