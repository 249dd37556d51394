-- The texts of the facts at an instant of a run that is told.
use Rattle.std.proofs.Common.{◌≡◌, ◌∙◌, ◌+◌, ℕ, None, ap, length, subst, sym, true}
use Rattle.words_script.specs.declared.decl.Script.{Script}
use Rattle.rules_machine.specs.DueItems.{next_item}
use Rattle.rules_machine.specs.WellFormed.{IsWellFormed}
use Rattle.rules_flat_code.specs.Runnable.{IsRunnable}
use Rattle.rules_facts.specs.Detail.{machine_before}
use Rattle.rules_facts.specs.Facts.{facts}
use Rattle.rules_facts.specs.Shown.{once_ended, shown_machine}
use Rattle.laws_detail.specs.Looks.{facts_told}
use Rattle.kernel_texts.specs.Changed.{changed_lines}
use Rattle.kernel_texts.specs.Kept.{texts_of}
use Rattle.kernel_state.specs.Kernel.{Kernel}
use Rattle.kernel_leaps.specs.Detail.{AreBefore, AreReady, StayIfIdle}
use Rattle.kernel_leaps.specs.declared.fact_texts.FactTexts.{FactTexts}
use Rattle.kernel_leaps.proofs.Telling.{l, m}
use Rattle.kernel_leaps.proofs.TellingFacts.{before_later, changed_now, shown_here}

module _ (script : Script) (ok : IsRunnable script) (fits : IsWellFormed script) (n : ℕ) (old new : FactTexts) (handled : Kernel) (is : handled ≡ l script fits n) (signals : length handled.machine.actions ≡ 32)
    (kept : new.desk.told.texts ≡ texts_of script.decls (facts script (once_ended handled.machine.killed handled.machine))) (subjects : new.desk.subjects ≡ old.desk.subjects)
    (before : AreBefore script n old) (ready : AreReady script new) where
  here : length (l script fits n).machine.actions ≡ 32
  here = subst (λ (x : Kernel). length x.machine.actions ≡ 32) is signals

  told : new.desk.told.texts ≡ texts_of script.decls (facts script (shown_machine script n))
  told =
      kept
      ∙ ap (λ (x : Kernel). texts_of script.decls (facts script (once_ended x.machine.killed x.machine))) is
      ∙ ap (texts_of script.decls) (shown_here script n)

  -- the lines of those that change
  pub changes_are : changed_lines n old.desk.subjects.texts old.desk.told.texts new.desk.told.texts ≡ facts_told script n
  changes_are = changed_now script ok fits n old before here new.desk.told.texts told

  -- and what is told before a later instant, where the facts stay up to it
  pub told_later : (j : ℕ) → facts script (machine_before script (n + j)) ≡ facts script (shown_machine script n) → (new.are_steady ≡ true → StayIfIdle script (n + j)) → AreBefore script (n + j) new
  told_later j stay steady = before_later script ok fits n old before here j stay new (ap (λ t. t.texts) subjects) told ready steady

-- what was told of facts that are steady is told of the next instant too, where nothing is due at it
pub told_again : (script : Script) (fits : IsWellFormed script) (n : ℕ) (handled : Kernel) → handled ≡ l script fits n → (t : FactTexts) → AreBefore script n t → t.are_steady ≡ true
    → next_item (m script fits n) ≡ None → t.desk.told.texts ≡ texts_of script.decls (facts script (once_ended handled.machine.killed handled.machine))
told_again script fits n handled is t before steady none =
    before.told
    ∙ ap (texts_of script.decls) (sym (before.steady steady none) ∙ sym (shown_here script n))
    ∙ ap (λ (x : Kernel). texts_of script.decls (facts script (once_ended x.machine.killed x.machine))) (sym is)
