-- How the machine walks a body: it knows where a body starts, and the next unit at a place, and nothing else of it.
-- Tasks as bodies of steps with a register are this project's own.
use Rattle.std.specs.Prelude.{ℕ}
use Rattle.words_numbers.specs.declared.res.Res.{Res}
use Rattle.rules_machine.specs.declared.frame.BodyOf.{BodyOf}
use Rattle.rules_bodies.specs.declared.unit.Unit.{Unit}
use Rattle.rules_machine.specs.State.{Frame}

-- what the steps that take no time see: the register, and the last call's result and value
pub record Seen : Type 0 where
  pub register : ℕ
  pub result : Res
  pub value : ℕ

-- a unit, and the place and the register behind it
pub record NextUnit (P : Type 0) : Type 0 where
  pub unit : Unit
  pub place : P
  pub register : ℕ

-- the bodies of a script: where each begins, and what comes next at a place
pub record Bodies (P : Type 0) : Type 0 where
  pub start : BodyOf → P
  pub next : BodyOf → P → Seen → NextUnit P

abbrev pub seen_by : {P : Type 0} → Frame P → Seen
seen_by f = record { register = f.register; result = f.result; value = f.value }
