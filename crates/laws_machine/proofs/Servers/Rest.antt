-- Servers rest where they are right.
use Rattle.std.proofs.Common.{Bool, arith, false, suc, true, zero, ℕ, ◌≡◌, ◌≤◌}
use Rattle.words_script.specs.declared.decl.Script.{Script}
use Rattle.rules_machine.specs.Bodies.{Bodies}
use Rattle.rules_machine.specs.State.{Machine}
use Rattle.rules_machine.specs.GoodState.{ServersAreRight}
use Rattle.rules_machine.specs.Runs.{opening}
use Rattle.rules_machine.specs.Throughout.{HoldsThroughout, after_items}
use Rattle.rules_machine.specs.WellFormed.{IsWellFormed}
use Rattle.rules_moves.specs.UnitRanges.{BodiesFit}
use Rattle.laws_machine.specs.Rest.{ServersRest}
use Rattle.laws_machine.proofs.Items.{servers_throughout}
use Rattle.laws_machine.proofs.Servers.Changed.{high_parts}

none_where : (n : ℕ) → (1 ≤ n → ⊥) → n ≡ 0
none_where zero h = omega arith
none_where (suc n) h = absurd (h (omega arith))

contra : {b : Bool} → b ≡ true → b ≡ false → ⊥
contra p q = grind arith

pub servers_rest : {P : Type 0} (m : Machine P) → ServersAreRight m → ServersRest m
servers_rest m right = record {
  idle = λ t s e off. none_where s.consumed (λ some. contra (((right.each t s e).consuming some).runnable) off);
  low = λ t s e low. none_where s.consumed (λ some. contra (((right.each t s e).consuming some).high) low);
  room = λ t s e some. (high_parts s (((right.each t s e).consuming some).high)).1;
}

module _ {P : Type 0} (bodies : Bodies P) (ranges : BodiesFit bodies) (script : Script) (fits : IsWellFormed script) where
  pub rest_throughout : HoldsThroughout bodies (opening script) ServersRest
  rest_throughout = record { each = λ n k. servers_rest (after_items bodies (opening script) n k) ((servers_throughout bodies ranges script fits).each n k) }
