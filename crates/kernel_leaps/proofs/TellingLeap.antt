-- A leap of a run that is told: where it stops, and how far it goes.
use Rattle.std.proofs.Common.{◌≡◌, ◌≤◌, ◌+◌, ℕ, Bool, List, None, Option, Some, [], arith, false, true}
use Rattle.std.specs.Prelude.{◌-◌}
use Rattle.words_script.specs.declared.decl.Script.{Script}
use Rattle.rules_machine.specs.WellFormed.{IsWellFormed}
use Rattle.rules_flat_code.specs.FlatBodies.{flat_bodies}
use Rattle.rules_leaps.specs.Leap.{leap_length, leap_runs}
use Rattle.kernel_state.specs.Kernel.{Kernel, after}
use Rattle.kernel_settling.specs.Stood.{StoodRight}
use Rattle.kernel_leaps.specs.Detail.{AreBefore, GoesOn, HasGoneOn, IsAfterQuietTick, Stops}
use Rattle.kernel_leaps.specs.declared.detail.Reached.{Reached}
use Rattle.kernel_leaps.specs.declared.fact_texts.FactTexts.{FactTexts}
use Rattle.kernel_leaps.proofs.Telling.{items_state, l, leap_state, m, p, q, ready, to}

clash : (o : Option ℕ) (signal : ℕ) → o ≡ Some signal → o ≡ None → ⊥
clash o signal e f = cc

module _ {K : Type 0} (text : K → Option (List ℕ)) (faults : K → ℕ) (script : Script) (at : Reached) where
  -- a write failed on the way to the next instant
  pub stops_at_once : 1 ≤ at.left → (a b : K) → GoesOn text faults script at.done (at.done + 1) a b true → Stops text faults script at a b
  stops_at_once some a b on = record { later = at.done + 1; within = omega (arith, some); on = on }

  module _ (fits : IsWellFormed script) (alive : (m script fits at.done).killed ≡ None) where
    -- an item ended the process
    pub ends_at_item : 1 ≤ at.left → (signal : ℕ) → (ready script fits at.done).machine.killed ≡ Some signal → (handled : Kernel) → handled ≡ l script fits at.done → handled.direct ≡ [] → StoodRight handled.machine
        → handled.machine.killed ≡ Some signal → (t : FactTexts) (a b : K) → GoesOn text faults script at.done (at.done + 1) a b false
        → HasGoneOn text faults script at (record { done = at.done + 1; left = at.left - 1; is_quiet = false }) handled t a b
    ends_at_item some signal dead handled is quiet stood killed t a b on = record {
      later = omega arith;
      all = omega (arith, some);
      state = items_state script fits at.done alive signal dead handled is quiet;
      stood = stood;
      told = on;
      facts = λ living. absurd (clash handled.machine.killed signal killed living);
      quiet = λ e. absurd (cc);
    }

    -- it went on for so many ticks
    pub leaps_on : (runs : (ready script fits at.done).machine.killed ≡ None) (j : ℕ) (some : 1 ≤ j) (within : j ≤ at.left) (long : leap_length (q script fits at.done) j (m script fits at.done) ≡ j)
        (left : Kernel) → left ≡ after (leap_runs (flat_bodies (p script fits at.done).code) j (to script fits at.done)) (p script fits at.done) → left.direct ≡ [] → StoodRight left.machine
        → (is_quiet : Bool) (t : FactTexts) (a b : K) → GoesOn text faults script at.done (at.done + j) a b false → AreBefore script (at.done + j) t
        → (is_quiet ≡ true → IsAfterQuietTick script (at.done + j))
        → HasGoneOn text faults script at (record { done = at.done + j; left = at.left - j; is_quiet = is_quiet }) left t a b
    leaps_on runs j some within long left is quiet stood is_quiet t a b on before after_quiet = record {
      later = omega (arith, some);
      all = omega (arith, within);
      state = leap_state script fits at.done alive runs j some long left is quiet;
      stood = stood;
      told = on;
      facts = λ living. before;
      quiet = after_quiet;
    }
