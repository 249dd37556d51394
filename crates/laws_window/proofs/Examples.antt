-- The high ticks of a window, counted over the machine.
use Rattle.std.specs.Prelude.{[], ◌∷◌, ◌≡◌, Some, codes, refl}
use Rattle.words_script.specs.declared.policy.Policy.TheVariants as policy
use Rattle.words_script.specs.declared.decl.Decl.TheVariants as decl
use Rattle.words_script.specs.declared.decl.Kind.TheVariants as kind
use Rattle.words_script.specs.Block.{Nothing, Running}
use Rattle.words_script.specs.declared.decl.Script.{Script}
use Rattle.rules_machine.specs.Priorities.{exec_in}
use Rattle.rules_machine.specs.Runs.{opening}
use Rattle.rules_machine.specs.Machine.{bodies_of}
use Rattle.laws_window.specs.Window.{high_count}

-- A strict server with budget 3 and period 10 that first runs at 9, and then on and on.
abbrev late_script : Script
late_script = record {
  version = 2;
  quantum = 10;
  decls =
      decl.Named (codes "s") (kind.Thread (policy.Strict (record { high = 8; low = 2; period = 10; budget = 3; max = 4 })) (Some 2) (Running 20 Nothing))
      ∷ decl.Named (codes "h") (kind.Thread (policy.Fifo 9) (Some 0) (Running 8 Nothing))
      ∷ [];
}

in_one_period : high_count (bodies_of late_script) 0 (opening late_script) 9 10 ≡ 3
unfolding exec_in
in_one_period = refl

in_more_than_one_period : high_count (bodies_of late_script) 0 (opening late_script) 9 11 ≡ 4
unfolding exec_in
in_more_than_one_period = refl
