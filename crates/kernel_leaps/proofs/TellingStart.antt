-- A run that is told, before its first tick and at its end.
use Rattle.std.proofs.Common.{◌≡◌, ◌+◌, ◌-◌, ◌∙◌, ℕ, List, None, Option, Some, [], ap, arith, false, length, refl, subst, sym, true}
use Rattle.words_script.specs.declared.decl.Script.{Script}
use Rattle.rules_machine.specs.WellFormed.{IsWellFormed}
use Rattle.rules_facts.specs.Facts.{facts}
use Rattle.rules_facts.specs.Shown.{once_ended}
use Rattle.script_printer.proofs.Puts.{put_nothing, put_same}
use Rattle.script_printer.specs.Puts.{outlet}
use Rattle.laws_detail.proofs.Looks.{is_told}
use Rattle.kernel_texts.specs.Kept.{texts_of}
use Rattle.kernel_texts.specs.Subjects.{subjects_of}
use Rattle.kernel_state.specs.Kernel.{Kernel, opened}
use Rattle.kernel_leaps.specs.Detail.{AreBefore, AreReady, HasGoneOn, Stops, Writes, told_by}
use Rattle.kernel_leaps.specs.Ran.{ticked_by}
use Rattle.kernel_leaps.specs.declared.detail.Reached.{Reached}
use Rattle.kernel_leaps.specs.declared.fact_texts.FactTexts.{FactTexts}
use Rattle.kernel_leaps.proofs.TellingFacts.{opened_facts}
use Rattle.kernel_leaps.proofs.TellingRun.{Telling, ended_state, ended_told, goes_further, stops_in}

-- the texts of the facts before the first tick
pub are_first : (script : Script) (k : Kernel) → k ≡ opened script → (new : FactTexts) → new.desk.subjects.texts ≡ subjects_of script.decls (facts script k.machine)
    → new.desk.told.texts ≡ texts_of script.decls (facts script (once_ended k.machine.killed k.machine)) → length k.machine.actions ≡ 32 → AreReady script new → new.are_steady ≡ false → AreBefore script 0 new
are_first script k is new subjects told signals ready unsteady = record {
  subjects = subjects ∙ ap (subjects_of script.decls) (ap (λ (x : Kernel). facts script x.machine) is ∙ opened_facts script);
  told = told ∙ ap (texts_of script.decls) (ap (λ (x : Kernel). facts script (once_ended x.machine.killed x.machine)) is ∙ opened_facts script);
  same = refl;
  signals = sym (ap (λ (x : Kernel). length x.machine.actions) is) ∙ signals;
  ready = ready;
  steady = λ e. absurd (cc);
}

-- nothing is told yet
pub none_told : {K : Type 0} (text : K → Option (List ℕ)) (faults : K → ℕ) (script : Script) (a : K) → Writes text faults a a false (told_by script 0)
none_told text faults script a = put_same (outlet text faults false a) (outlet text faults false a) [] (told_by script 0) (sym (is_told script).first) (put_nothing (outlet text faults false a))

module _ {K : Type 0} (text : K → Option (List ℕ)) (faults : K → ℕ) (script : Script) (fits : IsWellFormed script) (total : ℕ) (at : Reached) (p : Kernel) (t : FactTexts) (a b : K)
    (telling : Telling text faults script total at p t a b) where
  -- it goes on to a later instant
  pub tells_on : (now : Reached) (q : Kernel) (u : FactTexts) (c : K) → HasGoneOn text faults script at now q u b c → q.machine.killed ≡ None → Telling text faults script total now q u a c
  tells_on now q u c on living = record {
    all = on.all ∙ telling.all;
    state = on.state;
    alive = living;
    stood = on.stood;
    before = on.facts living;
    writes = goes_further text faults script at.done now.done a b c telling.writes on.told;
    quiet = on.quiet;
  }

  -- or stops on the way
  pub stops_short : (c : K) → Stops text faults script at b c → Writes text faults a c true (told_by script total)
  stops_short c stops = stops_in text faults script at.done fits stops.later total (let within = stops.within in let all = telling.all in omega (arith, within, all)) a b c telling.writes stops.on

  -- or a signal ends the process
  module _ (now : Reached) (q : Kernel) (u : FactTexts) (c : K) (on : HasGoneOn text faults script at now q u b c) (signal : ℕ) (dead : q.machine.killed ≡ Some signal) where
    to_end : now.done + (total - now.done) ≡ total
    to_end = (let all = on.all in let whole = telling.all in omega (arith, all, whole))

    dead_there : (ticked_by now.done (opened script)).machine.killed ≡ Some signal
    dead_there = sym (ap (λ (x : Kernel). x.machine.killed) on.state) ∙ dead

    pub ends_dead : q ≡ ticked_by total (opened script)
    ends_dead = on.state ∙ sym (ended_state script fits now.done (total - now.done) signal dead_there) ∙ ap (λ (i : ℕ). ticked_by i (opened script)) to_end

    pub told_dead : Writes text faults a c false (told_by script total)
    told_dead =
        subst (Writes text faults a c false) (sym (ended_told script fits now.done (total - now.done) signal dead_there) ∙ ap (told_by script) to_end)
        (goes_further text faults script at.done now.done a b c telling.writes on.told)
