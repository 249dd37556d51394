-- The equation of response times, R = C + B + sum of ceil(R / T) C over the tasks of higher priority.
use Rattle.std.specs.Prelude.{◌≡◌, ℕ, ◌+◌, ◌*◌, ◌/◌, ◌%◌, ◌≤◌, min, nat_lt, if◌then◌else◌, List, sum_by}
use Rattle.tool_times.specs.declared.task.Task.{Task}
use Rattle.tool_times.specs.Tasks.{task_at}

-- the quotient, rounded up
abbrev pub ceiling : ℕ → ℕ → ℕ
ceiling n t = n / t + min 1 (n % t)

-- the work that a task releases before the instant n
abbrev pub work_before : ℕ → Task → ℕ
work_before n t = ceiling n t.period * t.cost

-- the same where the task has a higher priority than p, and nothing otherwise
abbrev pub work_above : ℕ → ℕ → Task → ℕ
work_above p n t = if nat_lt p t.priority then work_before n t else 0

-- the work that all tasks of a higher priority release before the instant n
abbrev pub interference : ℕ → ℕ → List Task → ℕ
interference p n tasks = sum_by (work_above p n) tasks

-- what has to be served by the instant n before the first job of task k is finished, its own cost included
abbrev pub demand : List Task → ℕ → ℕ → ℕ
demand tasks k n = (task_at tasks k).cost + (task_at tasks k).blocking + interference (task_at tasks k).priority n tasks

-- n solves the equation of task k
abbrev pub Solves : List Task → ℕ → ℕ → Type 0
Solves tasks k n = (1 ≤ n) × (n ≡ demand tasks k n)

-- n is the least positive solution
pub record IsLeastSolution (tasks : List Task) (k n : ℕ) : Type 0 where
  pub solves : Solves tasks k n
  pub least : (m : ℕ) → Solves tasks k m → n ≤ m
