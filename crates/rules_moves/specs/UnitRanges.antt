-- That every unit of a body keeps its ranges: its priorities are from 1 to 255. All of it is this project's own.
use Rattle.rules_bodies.specs.declared.unit.Unit as units
use Rattle.rules_bodies.specs.declared.unit.Unit.TheVariants as unit
use Rattle.rules_machine.specs.declared.frame.BodyOf.{BodyOf}
use Rattle.rules_machine.specs.Bodies.{Bodies, Seen}
use Rattle.rules_machine.specs.WellFormed.{CallFits}

abbrev pub UnitFits : units.Unit → Type 0
UnitFits (unit.Make c) = CallFits c
UnitFits (unit.Run n) = Unit {0}
UnitFits unit.Jump = Unit {0}
UnitFits unit.Finish = Unit {0}

-- every unit that a body comes to
abbrev pub BodiesFit : {P : Type 0} → Bodies P → Type 0
BodiesFit {P} bodies = (body : BodyOf) (place : P) (seen : Seen) → UnitFits (bodies.next body place seen).unit
