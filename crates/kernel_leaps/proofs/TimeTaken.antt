-- Ticks of a run that only take time: behind them its facts are those of their start, unless something is due there.
use Rattle.std.proofs.Common.{◌≡◌, ◌+◌, ◌∙◌, ℕ, None, Option, Some, [], ap, refl, subst, sym}
use Rattle.words_script.specs.declared.decl.Script.{Script}
use Rattle.rules_bodies.specs.declared.cursor.Cursor.{Cursor}
use Rattle.rules_machine.specs.DueItems.{item_bound, next_item}
use Rattle.rules_machine.specs.State.{Machine}
use Rattle.rules_machine.specs.Ticks.{prepares}
use Rattle.rules_machine.specs.Turns.{Turn, turn_of}
use Rattle.rules_machine.specs.WellFormed.{IsWellFormed}
use Rattle.rules_leaps.specs.Leap.{leap_runs}
use Rattle.rules_facts.specs.Facts.{facts}
use Rattle.rules_facts.specs.Shown.{once_ended, shown_machine}
use Rattle.laws_leaps.proofs.Leaps.Lengths.{IsReady}
use Rattle.laws_leaps.proofs.Leaps.Scripts.{stays_ready}
use Rattle.laws_leaps.proofs.Quiet.Ticks.{idle_items}
use Rattle.laws_detail.specs.Rests.{BeginsPlainly, OnlyTakeTime}
use Rattle.laws_detail.proofs.TimeTaken.{leap_tells_nothing}
use Rattle.laws_kernel.proofs.Ranges.{flat_bodies_fit}
use Rattle.kernel_state.specs.Kernel.{Kernel, after, opened}
use Rattle.kernel_leaps.specs.Ran.{ticked_by}
use Rattle.kernel_leaps.proofs.AtHead.{is_head}
use Rattle.kernel_leaps.proofs.Running.{turn_is}
use Rattle.kernel_leaps.proofs.Telling.{m, p, q, ready, to}
use Rattle.kernel_leaps.proofs.TellingFacts.{shown_here}

module _ (script : Script) (fits : IsWellFormed script) (n : ℕ) (runs : (ready script fits n).machine.killed ≡ None) (plain : BeginsPlainly (ready script fits n).machine) (quiet : (p script fits n).direct ≡ [])
    (j : ℕ) (only : (t : ℕ) → to script fits n ≡ Some t → OnlyTakeTime (q script fits n) j t (p script fits n).machine)
    (left : Kernel) (leapt : left ≡ after (leap_runs (q script fits n) j (to script fits n)) (p script fits n)) (later : left ≡ ticked_by (n + j) (opened script)) where
  abbrev handled : Machine Cursor
  handled = (ready script fits n).machine

  abbrev prepared : Machine Cursor
  prepared = (prepares (to script fits n) (turn_of handled)).machine

  is_ready : IsReady (q script fits n) (m script fits n)
  is_ready = stays_ready (q script fits n) (flat_bodies_fit script fits.priorities) script fits n

  -- the machine so many ticks on is what they leave
  there : (m script fits (n + j)) ≡ (leap_runs (q script fits n) j (to script fits n) (turn_of prepared)).machine
  there =
      sym (ap (λ (x : Kernel). x.machine) later)
      ∙ ap (λ (x : Kernel). x.machine) leapt
      ∙ ap (λ (s : Turn Cursor). (leap_runs (q script fits n) j (to script fits n) s).machine) (turn_is (p script fits n) quiet)
      ∙ ap (λ (x : Machine Cursor). (leap_runs (q script fits n) j (to script fits n) (turn_of x)).machine) (is_head script fits n)

  pub stays_behind : next_item (m script fits (n + j)) ≡ None → facts script (shown_machine script (n + j)) ≡ facts script (shown_machine script n)
  stays_behind none =
      let law = leap_tells_nothing (q script fits n) script handled is_ready.handled plain runs j (to script fits n) refl (λ t e. subst (OnlyTakeTime (q script fits n) j t) (is_head script fits n) (only t e)) in
      let x = m script fits (n + j) in
      let living : x.killed ≡ None = ap (λ (y : Machine Cursor). y.killed) there ∙ law.alive in
      sym (shown_here script (n + j))
      ∙ ap (λ (s : Turn Cursor). facts script (once_ended s.machine.killed s.machine)) (idle_items (q script fits n) (item_bound x) (turn_of x) none)
      ∙ ap (λ (o : Option ℕ). facts script (once_ended o x)) living
      ∙ ap (facts script) there
      ∙ law.facts
      ∙ sym (ap (λ (o : Option ℕ). facts script (once_ended o handled)) runs)
      ∙ shown_here script n
