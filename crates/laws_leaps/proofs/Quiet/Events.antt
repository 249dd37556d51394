-- What quiet ticks tell: the items of the instant before them, and the dispatch that follows where it is a change.
use Rattle.std.proofs.Common.{List, None, Option, Some, [], ap, arith, false, refl, suc, sym, zero, ℕ, ◌+◌, ◌<◌, ◌≤◌, ◌∷◌, ◌++◌, ◌≡◌}
use mathlib.Core.Path.{◌∙◌}
use Rattle.words_script.specs.declared.decl.Script.{Script}
use Rattle.rules_bodies.specs.Next.{Place}
use Rattle.words_trace.specs.Text.{Entry}
use Rattle.rules_machine.specs.Bodies.{Bodies}
use Rattle.rules_machine.specs.State.{Machine}
use Rattle.rules_machine.specs.Turns.{Turn, turn_of}
use Rattle.rules_machine.specs.Dispatch.{head}
use Rattle.rules_machine.specs.Runs.{opening}
use Rattle.rules_machine.specs.Machine.{bodies_of, events, machine}
use Rattle.rules_machine.specs.Eventful.{has_item, is_eventful, next_tick_matters}
use Rattle.rules_machine.specs.WellFormed.{IsWellFormed}
use Rattle.rules_leaps.specs.Quiet.{IsQuietBetween, told_with_dispatch}
use Rattle.rules_leaps.specs.Quiet.{charged_head, charged_unless_killed, one_charge, told_with_dispatch}
use Rattle.laws_leaps.proofs.Quiet.Runs.{first_of, handled, handled_nothing, later_by, later_is, tick_charges, tick_quiet}
use Rattle.rules_lists.specs.Lists.{highest}
use Rattle.rules_machine.specs.Ticks.{prepares}
use Rattle.rules_machine.proofs.Parts.{prepares_unended}
use Rattle.rules_moves.proofs.Runs.Preparing.{prepared}
use Rattle.laws_leaps.proofs.Quiet.Prepared.{charged_begun, prepared_lists, prepares_nothing}

pub nothing_more : {X : Type 0} (xs : List X) → xs ++ [] ≡ xs
nothing_more [] = refl
nothing_more (x ∷ xs) = ap (λ ys. x ∷ ys) (nothing_more xs)

module _ {P : Type 0} (bodies : Bodies P) where
  pub charged_killed : (o : Option ℕ) (m : Machine P) → (charged_head bodies o m).killed ≡ m.killed
  charged_killed None m = refl
  charged_killed (Some t) m = refl

  pub charged_lists : (o : Option ℕ) (m : Machine P) → head (charged_head bodies o m) ≡ head m
  charged_lists None m = refl
  charged_lists (Some t) m = refl

  abbrev pub told : Turn P → List Entry
  told s = told_with_dispatch s.machine.killed s

  -- nothing is told in a tick from a machine that one charge left
  pub silent : (m : Machine P) → told (turn_of (one_charge bodies m)) ≡ []
  silent m = by_killed m.killed refl
    where
      by_head : (o : Option ℕ) → head m ≡ o → m.killed ≡ None → told (turn_of (charged_head bodies o (prepares o (turn_of m)).machine)) ≡ []
      by_head o first alive =
          let ready = prepares o (turn_of m) in
          let n = charged_head bodies o ready.machine in
          let begun = charged_begun bodies o ready.machine (prepared o (turn_of m)).closed in
          ap (λ (k : Option ℕ). told_with_dispatch k (turn_of n)) (charged_killed o ready.machine ∙ (prepares_unended o (turn_of m)).killed ∙ alive)
          ∙ ap (λ (to : Option ℕ). (prepares to (turn_of n)).events) (charged_lists o ready.machine ∙ ap highest (prepared_lists o m) ∙ first)
          ∙ ap (λ (s : Turn P). s.events) (prepares_nothing o n begun)

      by_killed : (k : Option ℕ) → m.killed ≡ k → told (turn_of (charged_unless_killed bodies k m)) ≡ []
      by_killed None alive = by_head (head m) refl alive
      by_killed (Some signal) dead = ap (λ (k : Option ℕ). told_with_dispatch k (turn_of m)) dead

module _ (script : Script) (fits : IsWellFormed script) where
  events_on : (a j : ℕ) → ((i : ℕ) → i ≤ j → is_eventful (bodies_of script) (opening script) (suc (later_by a i)) ≡ false) → events script (suc (later_by a j)) ≡ events script a ++ told (bodies_of script) (handled script fits a)
  events_on a zero h = ap (λ (es : List Entry). events script a ++ es) (tick_quiet script fits a (h 0 (omega arith))).events
  events_on a (suc j) h =
      let n = suc (later_by a j) in
      let none : has_item (machine script n) ≡ false = first_of (has_item (machine script n)) (next_tick_matters (bodies_of script) (machine script (later_by a j))) (h j (omega arith)) in
      ap (λ (es : List Entry). events script n ++ es) (tick_quiet script fits n (h (suc j) (omega arith))).events
      ∙ ap (λ (s : Turn Place). events script n ++ told (bodies_of script) s) (handled_nothing script fits n none)
      ∙ ap (λ (m : Machine Place). events script n ++ told (bodies_of script) (turn_of m)) (tick_charges script fits (later_by a j) (h j (omega arith)))
      ∙ ap (λ (es : List Entry). events script n ++ es) (silent (bodies_of script) (handled script fits (later_by a j)).machine)
      ∙ nothing_more (events script n)
      ∙ events_on a j (λ i le. h i (omega arith))

  -- at each of the instants between: what was told before, the items of a, and the dispatch that follows them where it is a change
  pub quiet_told : (a k : ℕ) → IsQuietBetween script a (a + k) → (j : ℕ) → 1 ≤ j → j < k → events script (a + j) ≡ events script a ++ told (bodies_of script) (handled script fits a)
  quiet_told a k h zero low high = absurd (omega arith)
  quiet_told a k h (suc j) low high = ap (events script) (sym (later_is a (suc j))) ∙ events_on a j (λ i le. (let e = later_is a i in h (suc (later_by a i)) (omega arith) (omega arith)))
