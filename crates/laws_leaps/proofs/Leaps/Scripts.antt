-- Every state of the run of a well formed script is one to leap from.
use Rattle.std.proofs.Common.{arith, ℕ, ◌+◌, ◌≤◌}
use Rattle.std.specs.Prelude.{◌-◌}
use Rattle.words_script.specs.declared.decl.Script.{Script}
use Rattle.rules_machine.specs.Turns.{turn_of}
use Rattle.rules_machine.specs.Runs.{opening, ticks}
use Rattle.rules_machine.specs.Machine.{bodies_of, machine}
use Rattle.rules_machine.specs.Promises.{busy_between}
use Rattle.rules_machine.specs.WellFormed.{IsWellFormed}
use Rattle.rules_machine.proofs.ItemsEnd.{instant_ends}
use Rattle.rules_leaps.specs.Leap.{AreLeaps, IsLeap, in_leaps, leap_length}
use Rattle.laws_leaps.proofs.Quiet.Runs.{handled_stands, handled_swept}
use Rattle.rules_machine.specs.Bodies.{Bodies}
use Rattle.rules_moves.specs.UnitRanges.{BodiesFit}
use Rattle.rules_moves.proofs.Runs.Units.{bodies_fit}
use Rattle.laws_leaps.proofs.Leaps.Lengths.{is_leap}
use Rattle.laws_leaps.proofs.Leaps.Counts.{StaysReady, are_leaps, busy_later, ready_on}

module _ {P : Type 0} (bodies : Bodies P) (ranges : BodiesFit bodies) (script : Script) (fits : IsWellFormed script) where
  -- over any bodies that keep their ranges
  pub stays_ready : StaysReady bodies (opening script)
  stays_ready n =
      let r = handled_stands bodies ranges script fits n in
      record {
        still = r.still;
        handled = record { nothing = instant_ends bodies (turn_of (ticks bodies n (opening script)).machine); listed = r.listed; stand = r.rest.0.0.stand; swept = handled_swept bodies ranges script fits n };
        slices = r.rest.0.1.each;
      }

module _ (script : Script) (fits : IsWellFormed script) where
  ready : StaysReady (bodies_of script) (opening script)
  ready = stays_ready (bodies_of script) (bodies_fit script fits.priorities) script fits

  pub run_leaps : (n most : ℕ) → 1 ≤ most → IsLeap (bodies_of script) most (leap_length (bodies_of script) most (machine script n)) (machine script n)
  run_leaps n most some = is_leap (bodies_of script) (machine script n) most some (ready n)

  pub run_in_leaps : (a most : ℕ) → AreLeaps (bodies_of script) most (machine script a) (in_leaps (bodies_of script) most (machine script a))
  run_in_leaps a most = are_leaps (bodies_of script) most most (machine script a) (omega arith) (ready_on (bodies_of script) a (opening script) ready)

  pub run_busy : (a b : ℕ) → a ≤ b → (in_leaps (bodies_of script) (b - a) (machine script a)).count ≤ busy_between script a b + 1
  run_busy a b le = let few = (run_in_leaps a (b - a)).few in let later = busy_later (bodies_of script) (opening script) a b in omega (arith, few, later)
