-- Scripts without a setsched step. This project's own.
use Rattle.std.specs.Prelude.{List, [], ◌∷◌}
use Rattle.words_script.specs.Block.{Adding, Block, Guarding, Looping, Making, Nothing, Running, Setting, Taking, Testing}
use Rattle.words_script.specs.declared.call.Call.{Call}
use Rattle.words_script.specs.declared.call.Call.TheVariants as call
use Rattle.words_script.specs.declared.decl.Decl.{Decl}
use Rattle.words_script.specs.declared.decl.Decl.TheVariants as decl
use Rattle.words_script.specs.declared.decl.Kind.{Kind}
use Rattle.words_script.specs.declared.decl.Kind.TheVariants as kind
use Rattle.words_script.specs.declared.decl.Script.{Script}
use Rattle.rules_bodies.specs.declared.unit.Unit as units
use Rattle.rules_bodies.specs.declared.unit.Unit.TheVariants as unit
use Rattle.rules_machine.specs.declared.frame.BodyOf.{BodyOf}
use Rattle.rules_machine.specs.Bodies.{Bodies, Seen}

abbrev pub CallCalm : Call → Type 0
CallCalm (call.Setsched u new) = ⊥
CallCalm c = Unit {0}

abbrev pub UnitCalm : units.Unit → Type 0
UnitCalm (unit.Make c) = CallCalm c
UnitCalm other = Unit {0}

abbrev pub BodiesCalm : {P : Type 0} → Bodies P → Type 0
BodiesCalm {P} bodies = (body : BodyOf) (place : P) (seen : Seen) → UnitCalm (bodies.next body place seen).unit

abbrev pub BlockCalm : Block → Type 0
BlockCalm Nothing = Unit {0}
BlockCalm (Running n rest) = BlockCalm rest
BlockCalm (Making c rest) = CallCalm c × BlockCalm rest
BlockCalm (Setting n rest) = BlockCalm rest
BlockCalm (Adding n rest) = BlockCalm rest
BlockCalm (Taking rest) = BlockCalm rest
BlockCalm (Testing named equal inner rest) = BlockCalm inner × BlockCalm rest
BlockCalm (Looping times inner rest) = BlockCalm inner × BlockCalm rest
BlockCalm (Guarding cleanup run inner rest) = BlockCalm inner × BlockCalm rest

abbrev pub KindCalm : Kind → Type 0
KindCalm (kind.Thread policy start body) = BlockCalm body
KindCalm (kind.Handler body) = BlockCalm body
KindCalm (kind.Cleanup body) = BlockCalm body
KindCalm other = Unit {0}

abbrev pub DeclCalm : Decl → Type 0
DeclCalm (decl.Named name k) = KindCalm k
DeclCalm (decl.Action signal handler) = Unit {0}

abbrev pub DeclsCalm : List Decl → Type 0
DeclsCalm [] = Unit {0}
DeclsCalm (d ∷ ds) = DeclCalm d × DeclsCalm ds

-- no step of the script is a setsched
abbrev pub HasNoSetsched : Script → Type 0
HasNoSetsched script = DeclsCalm script.decls
