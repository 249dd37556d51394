-- How many steps a command takes.
use Rattle.std.specs.Prelude.{◌≡◌, ◌≤◌, ◌+◌, ◌*◌, ℕ, List, Ok, length}
use Rattle.words_script.specs.declared.decl.Script.{Script}
use Rattle.script_table.specs.Table.{patterns}
use Rattle.script_table.specs.Read.{read}
use Rattle.rules_machine.specs.Promises.{busy_between}
use Rattle.tool_times.specs.declared.task.Task.{Task}
use Rattle.tool_times.specs.Read as task_lines

-- of a text that is read as a script, at most one more than there are eventful instants before the horizon
abbrev pub StepsAreFew : ℕ → List ℕ → ℕ → ℕ → Type 0
StepsAreFew n bytes before after = (script : Script) → read patterns bytes ≡ Ok script → after ≤ before + busy_between script 0 n + 1

-- where each leap of the run takes two steps, at most twice as many
abbrev pub DoubleStepsAreFew : ℕ → List ℕ → ℕ → ℕ → Type 0
DoubleStepsAreFew n bytes before after = (script : Script) → read patterns bytes ≡ Ok script → after ≤ before + 2 * busy_between script 0 n + 2

-- of a text that is read as tasks, at most one more than the bound for each task
abbrev pub RoundsAreFew : ℕ → List ℕ → ℕ → ℕ → Type 0
RoundsAreFew bound bytes before after = (tasks : List Task) → task_lines.read bytes ≡ Ok tasks → after ≤ before + length tasks * (bound + 1)
