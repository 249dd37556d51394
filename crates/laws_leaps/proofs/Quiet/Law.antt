-- The law of quiet ticks: where none of the instants a + 1 to a + k - 1 is eventful, and the items of a are handled, k ticks, the last
-- of them with its charge alone, are one charge of k ticks.
use Rattle.std.proofs.Common.{ap, arith, false, suc, sym, zero, ℕ, ◌+◌, ◌<◌, ◌≤◌, ◌≡◌}
use mathlib.Core.Path.{subst, ◌∙◌}
use Rattle.words_script.specs.declared.decl.Script.{Script}
use Rattle.rules_bodies.specs.Next.{Place}
use Rattle.rules_machine.specs.State.{Machine}
use Rattle.rules_machine.specs.Turns.{Turn, turn_of}
use Rattle.rules_machine.specs.Runs.{opening}
use Rattle.rules_machine.specs.Machine.{bodies_of, machine}
use Rattle.rules_machine.specs.Eventful.{has_item, is_eventful, next_tick_matters, unless_ended}
use Rattle.rules_machine.specs.WellFormed.{IsWellFormed}
use Rattle.laws_leaps.proofs.Quiet.Runs.{charges, handled_swept, first_of, handled, handled_nothing, handled_stands, last_charge, quiet_ticks, second_of}
use Rattle.rules_moves.proofs.Runs.Units.{bodies_fit}
use Rattle.rules_leaps.specs.Quiet.{IsQuietBetween, ticks_at_once, one_charge}
use Rattle.laws_leaps.proofs.Quiet.AnyMachine.{charged_at_once}
use Rattle.laws_leaps.proofs.Leaps.Calm.{Handled}
use Rattle.rules_machine.proofs.ItemsEnd.{instant_ends}

module _ (script : Script) (fits : IsWellFormed script) where
  abbrev now : ℕ → Machine Place
  now a = (handled script fits a).machine

  no_matter : (a k : ℕ) → IsQuietBetween script a (a + suc k) → (i : ℕ) → i < k → unless_ended (bodies_of script) (charges (bodies_of script) i (now a)).killed (charges (bodies_of script) i (now a)) ≡ false
  no_matter a k h zero small =
      let e : is_eventful (bodies_of script) (opening script) (suc a) ≡ false = h (suc a) (omega arith) (omega arith) in
      second_of (has_item (machine script (suc a))) (next_tick_matters (bodies_of script) (machine script a)) e
  no_matter a k h (suc i) small =
      let n = a + suc i in
      let same : machine script n ≡ charges (bodies_of script) (suc i) (now a) = quiet_ticks script fits a (suc k) h (suc i) (omega arith) (omega arith) in
      let none : has_item (machine script n) ≡ false = item_none n (h n (omega arith) (omega arith)) in
      let after : next_tick_matters (bodies_of script) (machine script n) ≡ false = second_of (has_item (machine script (suc n))) (next_tick_matters (bodies_of script) (machine script n)) (h (suc n) (omega arith) (omega arith)) in
      let here : unless_ended (bodies_of script) (machine script n).killed (machine script n) ≡ false = sym (ap (λ (s : Turn Place). unless_ended (bodies_of script) s.machine.killed s.machine) (handled_nothing script fits n none)) ∙ after in
      subst (λ (m : Machine Place). unless_ended (bodies_of script) m.killed m ≡ false) same here
    where
      item_none : (n : ℕ) → is_eventful (bodies_of script) (opening script) n ≡ false → has_item (machine script n) ≡ false
      item_none zero e = e
      item_none (suc n) e = first_of (has_item (machine script (suc n))) (next_tick_matters (bodies_of script) (machine script n)) e

  stands : (a : ℕ) → Handled (bodies_of script) (now a)
  stands a =
      let r = handled_stands (bodies_of script) (bodies_fit script fits.priorities) script fits a in
      record { nothing = instant_ends (bodies_of script) (turn_of (machine script a)); listed = r.listed; stand = r.rest.0.0.stand; swept = handled_swept (bodies_of script) (bodies_fit script fits.priorities) script fits a }

  -- so many charges, one after another, are one
  once : (a k : ℕ) → IsQuietBetween script a (a + suc k) → charges (bodies_of script) (suc k) (now a) ≡ ticks_at_once (bodies_of script) (suc k) (now a)
  once a k h = charged_at_once (bodies_of script) k (now a) (stands a) (no_matter a k h)

  fewer : (a b c : ℕ) → c ≤ b → IsQuietBetween script a b → IsQuietBetween script a c
  fewer a b c le h i low high = h i low (omega arith)

  -- at each of the instants between
  pub quiet_machine : (a k : ℕ) → IsQuietBetween script a (a + k) → (j : ℕ) → 1 ≤ j → j < k → machine script (a + j) ≡ ticks_at_once (bodies_of script) j (now a)
  quiet_machine a k h zero low high = absurd (omega arith)
  quiet_machine a k h (suc j) low high = quiet_ticks script fits a k h (suc j) low high ∙ once a j (fewer a (a + k) (a + suc j) (omega arith) h)

  -- and with the charge of the last tick
  pub quiet_charge : (a k : ℕ) → IsQuietBetween script a (a + k + 1) → 1 ≤ k → one_charge (bodies_of script) (machine script (a + k)) ≡ ticks_at_once (bodies_of script) (k + 1) (now a)
  quiet_charge a k h some =
      let more : suc k ≡ k + 1 = omega arith in
      let h' = fewer a (a + k + 1) (a + suc k) (omega arith) h in
      last_charge script fits a k h' some ∙ once a k h' ∙ ap (λ (n : ℕ). ticks_at_once (bodies_of script) n (now a)) more
