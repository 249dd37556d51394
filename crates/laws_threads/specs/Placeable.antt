-- What of a script keeps the frames of its threads at places of its flat code. Whatever the reader accepts has it.
use Rattle.std.specs.Prelude.{All, length}
use Rattle.words_script.specs.declared.decl.Script.{Script}
use Rattle.rules_bodies.specs.Flat.{IsFlattenable, bodies_of}
use Rattle.rules_machine.specs.Declarations.{handlers_of}
use Rattle.rules_machine.specs.WellFormed.{DeclsGuarded}
use Rattle.rules_flat_code.specs.EachCall.{EachCall}
use Rattle.rules_flat_code.specs.KnownCalls.{KnowsObjects, objects_of}
use Rattle.rules_flat_code.specs.Runnable.{ActionNames}

-- bodies that are not too long and not nested too deeply, calls that name what is declared, actions that name handlers that are
-- declared, and cleanup handlers that the bodies of threads alone push and pop
pub record IsPlaceable (script : Script) : Type 0 where
  pub flattenable : IsFlattenable (bodies_of script.decls).all
  pub calls : All (EachCall (KnowsObjects (objects_of script))) (bodies_of script.decls).all
  pub actions : All (ActionNames (length (handlers_of script))) script.decls
  pub guards : DeclsGuarded script.decls
