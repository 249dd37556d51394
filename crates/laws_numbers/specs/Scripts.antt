-- How large the numbers of a script are. The ranges are those of the script language, which is this project's own.
use Rattle.std.specs.Prelude.{None, Option, Some, ℕ, ◌≤◌, ◌<◌}
use Rattle.words_script.specs.Block.{Adding, Block, Guarding, Looping, Making, Nothing, Running, Setting, Taking, Testing}
use Rattle.words_script.specs.declared.call.Call.{Call}
use Rattle.words_script.specs.declared.call.Call.TheVariants as call
use Rattle.words_script.specs.declared.decl.Decl.{Decl}
use Rattle.words_script.specs.declared.decl.Decl.TheVariants as decl
use Rattle.words_script.specs.declared.decl.Kind.{Kind}
use Rattle.words_script.specs.declared.decl.Kind.TheVariants as kind
use Rattle.words_script.specs.declared.decl.Script.{Script}
use Rattle.rules_bodies.specs.declared.unit.Unit as units
use Rattle.rules_bodies.specs.declared.unit.Unit.TheVariants as unit
use Rattle.rules_machine.specs.Bodies.{Bodies, NextUnit, Seen}
use Rattle.rules_machine.specs.declared.frame.BodyOf.{BodyOf}
use Rattle.rules_machine.specs.Semaphores.{semaphore_limit}
use Rattle.rules_flat_code.specs.KnownCalls.{KnowsObjects, Objects, objects_of}
use Rattle.laws_numbers.specs.Numbers.{Each, IsNumber, IsRegister, PolicySmall}

abbrev pub GivesSmall : Call → Type 0
GivesSmall (call.Setsched u new) = PolicySmall new
GivesSmall c = Unit {0}

pub record CallSmall (o : Objects) (c : Call) : Type 0 where
  pub known : KnowsObjects o c
  pub gives : GivesSmall c

abbrev pub BlockSmall : Objects → Block → Type 0
BlockSmall o Nothing = Unit {0}
BlockSmall o (Running n rest) = IsNumber n × BlockSmall o rest
BlockSmall o (Making c rest) = CallSmall o c × BlockSmall o rest
BlockSmall o (Setting n rest) = BlockSmall o rest
BlockSmall o (Adding n rest) = BlockSmall o rest
BlockSmall o (Taking rest) = BlockSmall o rest
BlockSmall o (Testing named equal inner rest) = BlockSmall o inner × BlockSmall o rest
BlockSmall o (Looping times inner rest) = BlockSmall o inner × BlockSmall o rest
BlockSmall o (Guarding cleanup run inner rest) = CallSmall o (call.Push cleanup) × CallSmall o (call.Pop run) × BlockSmall o inner × BlockSmall o rest

abbrev pub StartSmall : Option ℕ → Type 0
StartSmall None = Unit {0}
StartSmall (Some n) = IsNumber n

abbrev pub KindSmall : Objects → Kind → Type 0
KindSmall o (kind.Thread policy start body) = PolicySmall policy × StartSmall start × BlockSmall o body
KindSmall o (kind.Handler body) = BlockSmall o body
KindSmall o (kind.Cleanup body) = BlockSmall o body
KindSmall o (kind.Sem value) = value ≤ semaphore_limit
KindSmall o (kind.Queue depth longest nonblock) = (depth ≤ 64) × (longest ≤ 65536)
KindSmall o (kind.Timer signal value real) = (signal < 32) × IsNumber value
KindSmall o other = Unit {0}

abbrev pub DeclSmall : Objects → Decl → Type 0
DeclSmall o (decl.Named name k) = KindSmall o k
DeclSmall o (decl.Action signal handler) = Unit {0}

-- whatever the reader accepts has it
pub record IsInRange (script : Script) : Type 0 where
  pub quantum : IsNumber script.quantum
  pub decls : Each (DeclSmall (objects_of script)) script.decls

-- ---- bodies

abbrev pub UnitSmall : Objects → units.Unit → Type 0
UnitSmall o (unit.Run n) = IsNumber n
UnitSmall o (unit.Make c) = CallSmall o c
UnitSmall o unit.Jump = Unit {0}
UnitSmall o unit.Finish = Unit {0}

pub record NextSmall {P : Type 0} (o : Objects) (n : NextUnit P) : Type 0 where
  pub unit : UnitSmall o n.unit
  pub register : IsRegister n.register

-- a unit that is under way
abbrev pub UnitMade : Objects → units.Unit → Type 0
UnitMade o (unit.Run n) = Unit {0}
UnitMade o (unit.Make c) = CallSmall o c
UnitMade o unit.Jump = Unit {0}
UnitMade o unit.Finish = Unit {0}

-- every unit that a body comes to, with a small register
abbrev pub BodiesSmall : {P : Type 0} → Objects → Bodies P → Type 0
BodiesSmall {P} o bodies = (body : BodyOf) (place : P) (seen : Seen) → IsRegister seen.register → NextSmall o (bodies.next body place seen)
