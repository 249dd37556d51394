use Rattle.rules_bodies.specs.Stands.{IsPlaced}
use Rattle.test_scripts.proofs.bodies.units.Given as goal

abbrev pub invariant-loop : goal.invariant-loop
invariant-loop l = IsPlaced l.code l.cursor
