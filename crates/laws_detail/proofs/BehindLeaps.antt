-- Behind a leap of a run that begins plainly and only takes time no fact changes, unless something is due there.
use Rattle.std.proofs.Common.{List, [], ap, arith, suc, sym, zero, ℕ, ◌+◌, ◌<◌, ◌≤◌, ◌≡◌}
use Rattle.std.specs.Prelude.{None, ◌-◌}
use mathlib.Core.Path.{◌∙◌}
use Rattle.words_script.specs.declared.decl.Script.{Script}
use Rattle.rules_bodies.specs.Next.{Place}
use Rattle.rules_machine.specs.Bodies.{Bodies}
use Rattle.rules_machine.specs.DueItems.{next_item}
use Rattle.rules_machine.specs.Machine.{bodies_of, machine}
use Rattle.rules_machine.specs.Runs.{Ran, opening}
use Rattle.rules_machine.specs.State.{Machine}
use Rattle.rules_machine.specs.Turns.{turn_of}
use Rattle.rules_machine.specs.WellFormed.{IsWellFormed}
use Rattle.rules_machine.proofs.Joined.{ticks_add}
use Rattle.rules_leaps.specs.Leap.{IsLeap, leap}
use Rattle.rules_leaps.specs.Quiet.{IsQuiet, handled_at}
use Rattle.laws_leaps.proofs.Leaps.Lengths.{IsReady}
use Rattle.rules_facts.specs.Detail.{changed, facts_changed_at}
use Rattle.rules_facts.specs.Fact.{Fact}
use Rattle.rules_facts.specs.Facts.{facts}
use Rattle.rules_facts.specs.Shown.{shown_machine}
use Rattle.laws_facts.specs.Shows.{shown_of}
use Rattle.laws_detail.specs.Rests.{BeginsPlainly, HeadOnlyTakesTime, NoneChangesBehind, leap_at}
use Rattle.laws_detail.proofs.Rest.{later_shown, none_changed, same_facts, start_ready, stays}
use Rattle.laws_detail.proofs.Rest as rest
use Rattle.laws_detail.proofs.TimeTaken.{goes_on_telling_nothing}

module _ (script : Script) (fits : IsWellFormed script) (most n : ℕ) (some : 1 ≤ most) where
  abbrev b : Bodies Place
  b = bodies_of script

  abbrev long : ℕ
  long = leap_at script most n

  law : IsLeap b most long (machine script n)
  law = rest.leap script fits most n some

  at : IsReady b (machine script n)
  at = start_ready script fits most n some

  left_there : machine script (n + long) ≡ (leap b long (turn_of (machine script n))).machine
  left_there = ap (λ (r : Ran Place). r.machine) (ticks_add b n long (opening script)) ∙ sym (ap (λ (r : Ran Place). r.machine) law.same)

  module _ (plain : BeginsPlainly (handled_at script n).machine) (only : HeadOnlyTakesTime b long (handled_at script n).machine) (none : next_item (machine script (n + long)) ≡ None) where
    behind_it : facts script (shown_machine script (n + long)) ≡ facts script (shown_machine script n)
    behind_it =
        ap (λ (x : Machine Place). facts script (shown_of b x)) left_there
        ∙ goes_on_telling_nothing b script long (handled_at script n) at.still at.handled plain only (sym (ap next_item left_there) ∙ none)

    second : 1 < long → facts script (shown_machine script (n + 1)) ≡ facts script (shown_machine script n)
    second high =
        let quiet : IsQuiet b 1 (machine script n) = λ i low le. law.inside i low (omega (arith, le, high)) in
        later_shown script fits most n some 1 ∙ stays b (machine script n) at.still at.handled script plain quiet

    inside : (i : ℕ) → i < long → facts script (shown_machine script (n + i)) ≡ facts script (shown_machine script n)
    inside zero high = (let here : n + 0 ≡ n = omega arith in ap (λ (j : ℕ). facts script (shown_machine script j)) here)
    inside (suc i) high = same_facts script fits most n some (suc i) (omega arith) high ∙ second (omega (arith, high))

    none_changes_behind : facts_changed_at script (n + long) ≡ []
    none_changes_behind =
        let one = law.some in
        let back : n + long ≡ suc (n + (long - 1)) = omega (arith, one) in
        let last : long - 1 < long = omega (arith, one) in
        ap (facts_changed_at script) back
        ∙ ap (λ (fs : List Fact). changed script.decls (facts script (shown_machine script (n + (long - 1)))) fs)
        (ap (λ (j : ℕ). facts script (shown_machine script j)) (sym back) ∙ behind_it ∙ sym (inside (long - 1) last))
        ∙ none_changed script.decls (facts script (shown_machine script (n + (long - 1))))

pub none_changes_behind_leaps : (script : Script) → IsWellFormed script → (most : ℕ) → (n : ℕ) → 1 ≤ most → NoneChangesBehind script most n
none_changes_behind_leaps script fits most n some plain only none = none_changes_behind script fits most n some plain only none
