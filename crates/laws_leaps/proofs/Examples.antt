-- Worked examples. Runs of any length take as many leaps as they have eventful instants, and one more.
use Rattle.std.specs.Prelude.{[], ◌∷◌, ◌≡◌, Some, codes, refl, ◌^◌}
use Rattle.words_script.specs.declared.call.Call.TheVariants as call
use Rattle.words_script.specs.declared.policy.Policy.TheVariants as policy
use Rattle.words_script.specs.declared.decl.Decl.TheVariants as decl
use Rattle.words_script.specs.declared.decl.Kind.TheVariants as kind
use Rattle.words_script.specs.Block.{Nothing, Running, Making}
use Rattle.words_script.specs.declared.decl.Script.{Script}
use Rattle.rules_machine.specs.Priorities.{exec_in}
use Rattle.rules_machine.specs.Runs.{opening}
use Rattle.rules_machine.specs.Machine.{bodies_of}
use Rattle.rules_leaps.specs.Leap.{in_leaps}

-- Two threads sleep, and a third runs beside them: six instants are eventful.
abbrev two_sleepers_and_a_runner : Script
two_sleepers_and_a_runner = record {
  version = 1;
  quantum = 10;
  decls =
      decl.Named (codes "a") (kind.Thread (policy.Fifo 5) (Some 0) (Making (call.Nanosleep 60) Nothing))
      ∷ decl.Named (codes "b") (kind.Thread (policy.Fifo 6) (Some 0) (Making (call.Nanosleep 50) Nothing))
      ∷ decl.Named (codes "c") (kind.Thread (policy.Fifo 1) (Some 0) (Running 100 Nothing))
      ∷ [];
}

pub seven_leaps_to_a_hundred : (in_leaps (bodies_of two_sleepers_and_a_runner) 100 (opening two_sleepers_and_a_runner)).count ≡ 7
unfolding exec_in
seven_leaps_to_a_hundred = refl

-- The third comes to its end at 104 and ends at 105, and the last leap goes from there to the longest horizon.
pub nine_leaps_to_the_longest_horizon : (in_leaps (bodies_of two_sleepers_and_a_runner) (10 ^ 18) (opening two_sleepers_and_a_runner)).count ≡ 9
unfolding exec_in
nine_leaps_to_the_longest_horizon = refl
