-- What is asked of a script and of the machine of its kernel, so that each object that is told has a number.
use Rattle.std.specs.Prelude.{length, ◌≤◌}
use Rattle.words_script.specs.declared.decl.Script.{Script}
use Rattle.words_script.specs.declared.name_kind.NameKind.TheVariants as kind
use Rattle.script_writer.specs.Names.{names_of}
use Rattle.rules_bodies.specs.declared.cursor.Cursor.{Cursor}
use Rattle.rules_machine.specs.State.{Machine}

-- at most 256 objects of each kind; a machine keeps nothing of its conditions, so the script says how many there are
pub record AreNumbered (script : Script) (m : Machine Cursor) : Type 0 where
  pub mutexes : length m.mutexes ≤ 256
  pub conditions : length (names_of kind.Cond script.decls) ≤ 256
  pub semaphores : length m.semaphores ≤ 256
  pub queues : length m.queues ≤ 256
