-- How a script pushes and pops cleanup handlers: by its guarded blocks alone, in the bodies of its threads alone, and at most eight
-- deep. All of it is this project's own.
use Rattle.std.specs.Prelude.{List, [], length, ℕ, ◌≡◌, ◌≤◌, ◌∷◌}
use Rattle.words_script.specs.declared.call.Call.TheVariants as call
use Rattle.rules_bodies.specs.declared.unit.Unit as units
use Rattle.rules_bodies.specs.declared.unit.Unit.TheVariants as unit
use Rattle.rules_machine.specs.declared.frame.BodyOf.{BodyOf}
use Rattle.rules_machine.specs.declared.frame.BodyOf.TheVariants as body_of
use Rattle.rules_machine.specs.Bodies.{Bodies, Seen}

-- what a unit makes of the cleanup handlers that were pushed
abbrev pub Guards : units.Unit → List ℕ → List ℕ → Type 0
Guards (unit.Make (call.Push u)) before after = after ≡ u ∷ before
Guards (unit.Make (call.Pop runs)) before after = (u : ℕ) × (before ≡ u ∷ after)
Guards unit.Finish before after = (before ≡ []) × (after ≡ [])
Guards other before after = after ≡ before

abbrev pub most_of : BodyOf → ℕ
most_of (body_of.Thread t) = 8
most_of (body_of.Cleanup u) = 0
most_of (body_of.Handler h) = 0

-- bodies that go from guarded block to guarded block so
pub record BodiesGuarded {P : Type 0} (bodies : Bodies P) (guards : BodyOf → P → List ℕ) : Type 0 where
  pub start : (body : BodyOf) → guards body (bodies.start body) ≡ []
  pub next : (body : BodyOf) (place : P) (seen : Seen) → Guards (bodies.next body place seen).unit (guards body place) (guards body (bodies.next body place seen).place)
  pub few : (body : BodyOf) (place : P) → length (guards body place) ≤ most_of body
