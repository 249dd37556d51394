-- Independent periodic tasks under fixed priorities, all of which release their first job at the instant 0.
use Rattle.std.specs.Prelude.{ℕ, ◌+◌, ◌≤◌, ◌^◌, ◌==◌, Bool, if◌then◌else◌, List, [], ◌∷◌, All, slice_index_or}
use Rattle.std.specs.List.{list_any}
use Rattle.tool_times.specs.declared.task.Task.{Task}

-- what a task may be
pub record IsTask (t : Task) : Type 0 where
  pub priority_some : 1 ≤ t.priority
  pub priority_most : t.priority ≤ 255
  pub cost_some : 1 ≤ t.cost
  pub cost_most : t.cost ≤ 10 ^ 6
  pub period_some : 1 ≤ t.period
  pub period_most : t.period ≤ 10 ^ 9
  pub blocking_most : t.blocking ≤ 10 ^ 6

-- how many tasks have the priority
abbrev pub count_at : ℕ → List Task → ℕ
count_at p [] = 0
count_at p (t ∷ tasks) = (if t.priority == p then 1 else 0) + count_at p tasks

-- whether a task has the priority
abbrev pub is_taken : ℕ → List Task → Bool
is_taken p tasks = list_any (λ t. t.priority == p) tasks

-- tasks of which no two have one priority
pub record AreTasks (tasks : List Task) : Type 0 where
  pub each : All IsTask tasks
  pub apart : (p : ℕ) → count_at p tasks ≤ 1

-- what stands for a task that there is not
abbrev pub no_task : Task
no_task = record { name = []; priority = 0; cost = 0; period = 0; blocking = 0 }

-- the task with that number, in the order of declaration
abbrev pub task_at : List Task → ℕ → Task
task_at tasks k = slice_index_or tasks k no_task
