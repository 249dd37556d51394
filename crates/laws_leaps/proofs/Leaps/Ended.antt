-- Once the process has ended, all later ticks leave it as it is.
use Rattle.std.proofs.Common.{Option, Some, [], ap, false, refl, suc, zero, ℕ, ◌≡◌}
use mathlib.Core.Path.{◌∙◌}
use Rattle.rules_machine.specs.Bodies.{Bodies}
use Rattle.rules_machine.specs.State.{Machine}
use Rattle.rules_machine.specs.Turns.{turn_of}
use Rattle.rules_machine.specs.DueItems.{instant, next_item}
use Rattle.rules_machine.specs.Runs.{ran, ticks}
use Rattle.rules_machine.specs.Eventful.{unless_ended}
use Rattle.rules_leaps.specs.Quiet.{charged_unless_killed, one_charge, told_with_dispatch}
use Rattle.laws_leaps.proofs.Quiet.Runs.{charges}
use Rattle.laws_leaps.proofs.Leaps.Calm.{Calm, Handled, calm_ticks}

module _ {P : Type 0} (bodies : Bodies P) where
  pub ended_stays : (k : ℕ) (m : Machine P) (signal : ℕ) → m.killed ≡ Some signal → charges bodies k m ≡ m
  ended_stays zero m signal e = refl
  ended_stays (suc k) m signal e = ap (one_charge bodies) (ended_stays k m signal e) ∙ ap (λ (o : Option ℕ). charged_unless_killed bodies o m) e

  ended_quiet : (i : ℕ) (m : Machine P) (signal : ℕ) → m.killed ≡ Some signal → unless_ended bodies (charges bodies i m).killed (charges bodies i m) ≡ false
  ended_quiet i m signal e = ap (λ (x : Machine P). unless_ended bodies x.killed x) (ended_stays i m signal e) ∙ ap (λ (o : Option ℕ). unless_ended bodies o m) e

  pub ended_calm : (j : ℕ) (m : Machine P) (signal : ℕ) → Handled bodies m → m.killed ≡ Some signal → Calm bodies j m
  ended_calm j m signal h e = record { quiet = λ i small. ended_quiet i m signal e; idle = λ i small. ap next_item (ended_stays (suc i) m signal e) ∙ h.nothing }

  -- where it ended in the items of an instant, so many ticks are these items
  pub ended_ticks : (j : ℕ) (m : Machine P) (signal : ℕ) → let s = instant bodies (turn_of m) in s.direct ≡ [] → Handled bodies s.machine → s.machine.killed ≡ Some signal → ticks bodies (suc j) m ≡ ran s
  ended_ticks j m signal none h e =
      let s = instant bodies (turn_of m) in
      calm_ticks bodies j m none h (ended_calm j s.machine signal h e) (ended_quiet j s.machine signal e)
      ∙ ap (λ (x : Machine P). record { machine = x; events = told_with_dispatch s.machine.killed s }) (ended_stays (suc j) s.machine signal e)
      ∙ ap (λ (o : Option ℕ). record { machine = s.machine; events = told_with_dispatch o s }) e
