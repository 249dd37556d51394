-- Facts that stay as they are, from an instant that is no eventful one to the next eventful one.
use Rattle.std.proofs.Common.{Bool, List, None, [], ap, arith, false, refl, suc, sym, zero, ℕ, ◌∙◌, ◌+◌, ◌++◌, ◌<◌, ◌≤◌, ◌≡◌, append-nil}
use Rattle.std.specs.Prelude.{flat_map, is_some, ◌-◌, ◌||◌}
use Rattle.words_script.specs.declared.decl.Script.{Script}
use Rattle.rules_bodies.specs.declared.cursor.Cursor.{Cursor}
use Rattle.rules_machine.specs.Bodies.{Bodies}
use Rattle.rules_machine.specs.DueItems.{next_item}
use Rattle.rules_machine.specs.Eventful.{has_item, is_eventful, next_tick_matters}
use Rattle.rules_machine.specs.Runs.{Ran, opening, ticks}
use Rattle.rules_machine.specs.State.{Machine}
use Rattle.rules_machine.specs.WellFormed.{IsWellFormed}
use Rattle.rules_machine.proofs.Joined.{ticks_add}
use Rattle.rules_flat_code.specs.FlatBodies.{code_of, flat_bodies}
use Rattle.rules_leaps.specs.Leap.{IsLeap}
use Rattle.rules_leaps.specs.Quiet.{IsQuiet}
use Rattle.rules_facts.specs.Detail.{changed, facts_changed_at, machine_before, timed_line}
use Rattle.rules_facts.specs.Fact.{Fact}
use Rattle.rules_facts.specs.Facts.{facts}
use Rattle.rules_facts.specs.Shown.{shown_machine}
use Rattle.laws_facts.specs.Shows.{shown_of}
use Rattle.laws_leaps.proofs.Leaps.Counts.{eventful_later}
use Rattle.laws_leaps.proofs.Leaps.Lengths.{IsReady}
use Rattle.laws_leaps.proofs.Leaps.Scripts.{stays_ready}
use Rattle.laws_detail.specs.Looks.{facts_told, facts_told_from}
use Rattle.laws_detail.proofs.Rest.{none_changed, rests}
use Rattle.laws_kernel.proofs.Ranges.{flat_bodies_fit}
use Rattle.kernel_leaps.specs.Detail.{IsAfterQuietTick}
use Rattle.kernel_leaps.proofs.TellingFacts.{shown_here}

-- the facts of an instant stay for so many ticks
abbrev pub StayFor : Script → ℕ → ℕ → Type 0
StayFor script n j = (i : ℕ) → i < j → facts script (shown_machine script (n + i)) ≡ facts script (shown_machine script n)

pub one_stays : (script : Script) (n : ℕ) → StayFor script n 1
one_stays script n i lt = (let same : n + i ≡ n = omega (arith, lt) in ap (λ (k : ℕ). facts script (shown_machine script k)) same)

module _ (script : Script) (n j : ℕ) (stay : StayFor script n j) where
  none_at : (i : ℕ) → 1 ≤ i → i < j → facts_changed_at script (n + i) ≡ []
  none_at zero low high = absurd (omega arith)
  none_at (suc i) low high =
      let next : n + suc i ≡ suc (n + i) = omega arith in
      let back : suc (n + i) ≡ n + suc i = omega arith in
      ap (facts_changed_at script) next
      ∙ ap (λ (fs : List Fact). changed script.decls (facts script (shown_machine script (n + i))) fs)
      (ap (λ (k : ℕ). facts script (shown_machine script k)) back ∙ stay (suc i) high ∙ sym (stay i (omega arith)))
      ∙ none_changed script.decls (facts script (shown_machine script (n + i)))

  no_facts : (i k : ℕ) → 1 ≤ i → i + k ≤ j → facts_told_from script (n + i) k ≡ []
  no_facts i zero low le = refl
  no_facts i (suc k) low le =
      let on : n + i + 1 ≡ n + (i + 1) = omega arith in
      ap (λ (fs : List ℕ). fs ++ facts_told_from script (n + i + 1) k) (ap (flat_map (timed_line script.decls (n + i))) (none_at i low (omega arith)))
      ∙ ap (λ (a : ℕ). facts_told_from script a k) on
      ∙ no_facts (i + 1) k (omega arith) (omega arith)

  -- so they are told once
  pub told_stays : 1 ≤ j → facts_told_from script n j ≡ facts_told script n
  told_stays some =
      let k = j - 1 in
      let all : j ≡ suc k = omega (arith, some) in
      ap (facts_told_from script n) all
      ∙ ap (λ (xs : List ℕ). facts_told script n ++ xs) (no_facts 1 k (omega arith) (omega (arith, some)))
      ∙ append-nil (facts_told script n)

  -- and are those before the instant so many ticks on
  pub facts_before : 1 ≤ j → facts script (machine_before script (n + j)) ≡ facts script (shown_machine script n)
  facts_before some =
      let back : n + j ≡ suc (n + (j - 1)) = omega (arith, some) in
      ap (λ (i : ℕ). facts script (machine_before script i)) back ∙ stay (j - 1) (omega (arith, some))

-- ---- from an instant that is no eventful one

none_of : (a b : Bool) → a ≡ false → b ≡ false → (a || b) ≡ false
none_of a b e f = grind arith

module _ (script : Script) (fits : IsWellFormed script) (n : ℕ) (after : IsAfterQuietTick script n) where
  abbrev q : Bodies Cursor
  q = flat_bodies (code_of script)

  abbrev before : ℕ
  before = after.before

  -- one tick before, and now
  abbrev then' : Machine Cursor
  then' = (ticks q before (opening script)).machine

  abbrev now : Machine Cursor
  now = (ticks q n (opening script)).machine

  on : before + 1 ≡ n
  on = (let is = after.is in omega (arith, is))

  pub there : (ticks q 1 then').machine ≡ now
  there = sym (ap (λ (r : Ran Cursor). r.machine) (ticks_add q before 1 (opening script))) ∙ ap (λ (i : ℕ). (ticks q i (opening script)).machine) on

  -- so it was no eventful one
  pub first_calm : next_item now ≡ None → is_eventful q then' 1 ≡ false
  first_calm none = none_of (has_item (ticks q 1 then').machine) (next_tick_matters q then') (ap has_item there ∙ ap is_some none) after.quiet

  module _ (none : next_item now ≡ None) (j : ℕ) (leap : IsLeap q j j now) where
    first : is_eventful q then' 1 ≡ false
    first = first_calm none

    quiet : IsQuiet q j then'
    quiet zero low high = absurd (omega arith)
    quiet (suc zero) low high = first
    quiet (suc (suc i)) low high =
        let more : suc (suc i) ≡ 1 + suc i = omega arith in
        ap (is_eventful q then') more
        ∙ eventful_later q 1 i then'
        ∙ ap (λ (m : Machine Cursor). is_eventful q m (suc i)) there
        ∙ leap.inside (suc i) (omega arith) (omega arith)

    ready : IsReady q then'
    ready = stays_ready q (flat_bodies_fit script fits.priorities) script fits before

    later : (i : ℕ) → facts script (shown_machine script (before + i)) ≡ facts script (shown_of q (ticks q i then').machine)
    later i = sym (shown_here script (before + i)) ∙ ap (λ (r : Ran Cursor). facts script (shown_of q r.machine)) (ticks_add q before i (opening script))

    pub stay_calm : StayFor script n j
    stay_calm i lt =
        let up : n + i ≡ before + suc i = (let is = after.is in omega (arith, is)) in
        ap (λ (k : ℕ). facts script (shown_machine script k)) up
        ∙ later (suc i)
        ∙ rests q then' ready.still ready.handled script j quiet (suc i) (omega arith) (omega arith)
        ∙ sym (later 1)
        ∙ ap (λ (k : ℕ). facts script (shown_machine script k)) on
