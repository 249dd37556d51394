-- What is asked of a kernel that is shown. All of it is this project's own.
use Rattle.std.specs.Prelude.{length, ℕ, ◌≡◌, ◌≤◌}
use Rattle.words_script.specs.declared.decl.Script.{Script}
use Rattle.words_script.specs.declared.name_kind.NameKind.TheVariants as kind
use Rattle.script_writer.specs.Names.{names_of}
use Rattle.rules_machine.specs.Declarations.{mutexes_of, semaphores_of}
use Rattle.kernel_state.specs.Kernel.{Kernel, opened}
use Rattle.kernel_leaps.specs.Ran.{ticked_by}

-- It was opened for the script, and has run for some ticks.
pub record IsInRun (script : Script) (k : Kernel) : Type 0 where
  pub ticks : ℕ
  pub is : k ≡ ticked_by ticks (opened script)

-- A script has at most 256 mutexes, conditions and semaphores each, so that each has a number.
pub record HasFewObjects (script : Script) : Type 0 where
  pub mutexes : length (mutexes_of script) ≤ 256
  pub conditions : length (names_of kind.Cond script.decls) ≤ 256
  pub semaphores : length (semaphores_of script) ≤ 256
