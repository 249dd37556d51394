-- A run that is told as the rest of a leap: its head is in the midst of its unit.
use Rattle.std.proofs.Common.{◌≡◌, ◌∙◌, ℕ, suc, None, Option, Some, ap, refl, sym}
use Rattle.words_script.specs.declared.decl.Script.{Script}
use Rattle.rules_bodies.specs.declared.cursor.Cursor.{Cursor}
use Rattle.rules_machine.specs.Dispatch.{head}
use Rattle.rules_machine.specs.DueItems.{instant, next_item}
use Rattle.rules_machine.specs.Runs.{opening, ticks}
use Rattle.rules_machine.specs.State.{Machine}
use Rattle.rules_machine.specs.Threads.{thread_at, top_left}
use Rattle.rules_machine.specs.Ticks.{runs_head, unless_killed}
use Rattle.rules_machine.specs.Turns.{Turn, turn_of}
use Rattle.rules_machine.specs.WellFormed.{IsWellFormed}
use Rattle.laws_leaps.proofs.Leaps.Lengths.{IsReady}
use Rattle.laws_leaps.proofs.Leaps.Scripts.{stays_ready}
use Rattle.laws_detail.specs.Looks.{begun_turn}
use Rattle.laws_kernel.proofs.Ranges.{flat_bodies_fit}
use Rattle.kernel_leaps.specs.Detail.{IsAfterQuietTick}
use Rattle.kernel_leaps.proofs.MidUnit.{in_midst, same_head}
use Rattle.kernel_leaps.proofs.MidUnit as mid
use Rattle.kernel_leaps.proofs.Resting.{first_calm}
use Rattle.kernel_leaps.proofs.Resting as rest
use Rattle.kernel_leaps.proofs.Telling.{m, p, q, to}
use Rattle.kernel_leaps.proofs.Telling as telling

not_both : (o : Option ℕ) (signal : ℕ) → o ≡ Some signal → o ≡ None → ⊥
not_both o signal e f = cc

module _ (script : Script) (fits : IsWellFormed script) (n : ℕ) (alive : (m script fits n).killed ≡ None) (after : IsAfterQuietTick script n) (none : next_item (m script fits n) ≡ None) where
  abbrev before : Machine Cursor
  before = (ticks (q script fits n) after.before (opening script)).machine

  abbrev ready : Machine Cursor
  ready = (instant (q script fits n) (turn_of before)).machine

  there : (ticks (q script fits n) 1 before).machine ≡ m script fits n
  there = rest.there script fits n after

  is_ready : IsReady (q script fits n) before
  is_ready = stays_ready (q script fits n) (flat_bodies_fit script fits.priorities) script fits after.before

  lived : ready.killed ≡ None
  lived = by_killed ready.killed refl
    where
      by_killed : (o : Option ℕ) → ready.killed ≡ o → ready.killed ≡ None
      by_killed None e = e
      by_killed (Some signal) e =
          absurd (not_both (m script fits n).killed signal
          (ap (λ (x : Machine Cursor). x.killed) (sym there) ∙ ap (λ (o : Option ℕ). (unless_killed o (runs_head (q script fits n)) (instant (q script fits n) (turn_of before))).machine.killed) e ∙ e) alive)

  head_is : head ready ≡ to script fits n
  head_is =
      sym (same_head (q script fits n) before is_ready lived (first_calm script fits n after none))
      ∙ ap (λ (x : Machine Cursor). head (instant (q script fits n) (turn_of x)).machine) there

  begun_is : (p script fits n).machine ≡ m script fits n
  begun_is =
      sym (ap (λ (s : Turn Cursor). s.machine) (telling.begun_is script fits n))
      ∙ ap (λ (x : Machine Cursor). (begun_turn (q script fits n) x).machine) (sym there)
      ∙ ap (λ (s : Turn Cursor). s.machine) (mid.begun_is (q script fits n) before is_ready lived (first_calm script fits n after none))
      ∙ there

  pub midst : (t : ℕ) → to script fits n ≡ Some t → (l : ℕ) × (top_left (thread_at (p script fits n).machine t).frames ≡ suc l)
  midst t top =
      let there' = in_midst (q script fits n) before is_ready lived (first_calm script fits n after none) t (head_is ∙ top) in
      (there'.0, ap (λ (x : Machine Cursor). top_left (thread_at x t).frames) (begun_is ∙ sym there) ∙ there'.1)
