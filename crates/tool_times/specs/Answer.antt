-- What is answered to a bound and a text.
use Rattle.std.specs.Prelude.{ℕ, ◌+◌, List, [], ◌∷◌, ◌++◌, Option, None, Some, Result, Ok, Err, codes, decimal}
use Rattle.tool_times.specs.declared.task.Task.{Task}
use Rattle.tool_times.specs.Schedule.{finish_by}
use Rattle.tool_times.specs.Faults.{Fault, number_of, name_of}
use Rattle.tool_times.specs.Read.{read}

-- `task NAME response R`, or `task NAME none`
abbrev pub task_line : List ℕ → Option ℕ → List ℕ
task_line name None = codes "task " ++ name ++ codes " none\n"
task_line name (Some r) = codes "task " ++ name ++ codes " response " ++ decimal r ++ codes "\n"

-- the lines of these tasks, of which the first has the number k among all
abbrev pub task_lines : ℕ → List Task → ℕ → List Task → List ℕ
task_lines bound all k [] = []
task_lines bound all k (t ∷ tasks) = task_line t.name (finish_by bound all k) ++ task_lines bound all (k + 1) tasks

-- one line for each task, in the order of declaration
abbrev pub response_lines : ℕ → List Task → List ℕ
response_lines bound tasks = task_lines bound tasks 0 tasks

-- `refused LINE NUMBER NAME`
abbrev pub refusal : Fault → List ℕ
refusal f = codes "refused " ++ decimal f.line ++ codes " " ++ decimal (number_of f.kind) ++ codes " " ++ name_of f.kind ++ codes "\n"

abbrev pub answer_to : ℕ → Result (List Task) Fault → List ℕ
answer_to bound (Ok tasks) = response_lines bound tasks
answer_to bound (Err f) = refusal f

-- what is answered to the bound and the text
abbrev pub answer : ℕ → List ℕ → List ℕ
answer bound text = answer_to bound (read text)
