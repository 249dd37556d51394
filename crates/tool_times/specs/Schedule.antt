-- The schedule that serves the tasks tick by tick, always the most urgent work first.
use Rattle.std.specs.Prelude.{ℕ, zero, suc, ◌+◌, ◌-◌, ◌%◌, max, Bool, ◌&&◌, ◌==◌, nat_lt, nat_le, if◌then◌else◌, Option, Some, None, List, [], ◌∷◌, map, slice_index_or}
use Rattle.tool_times.specs.declared.task.Task.{Task}
use Rattle.tool_times.specs.Tasks.{no_task, task_at}

-- a task at an instant
pub record Load : Type 0 where
  pub task : Task
  -- the work that it has released and that is not yet served
  pub backlog : ℕ
  -- the ticks that it has been served
  pub served : ℕ

-- the processor at an instant
pub record Processor : Type 0 where
  -- the work above all tasks that is left
  pub above : ℕ
  pub loads : List Load

-- At the instant 0 there is so much work above all tasks, and nothing is released yet.
abbrev pub opening : ℕ → List Task → Processor
opening blocking tasks = record {
  above = blocking;
  loads = map (λ t. record { task = t; backlog = 0; served = 0 }) tasks;
}

-- Each task releases its cost at each multiple of its period.
abbrev pub release : ℕ → Load → Load
release now l = record l { backlog = if now % l.task.period == 0 then l.backlog + l.task.cost else l.backlog }

-- the highest priority of a task that has work left, and 0 where none has
abbrev pub highest : List Load → ℕ
highest [] = 0
highest (l ∷ loads) = if nat_lt 0 l.backlog then max l.task.priority (highest loads) else highest loads

-- one unit of a task's work is served
abbrev pub served_one : Load → Load
served_one l = record l { backlog = l.backlog - 1; served = l.served + 1 }

-- The task of highest priority that has work left is served one unit.
abbrev pub serve : List Load → List Load
serve [] = []
serve (l ∷ loads) = if nat_lt 0 l.backlog && nat_lt (highest loads) l.task.priority then served_one l ∷ loads else l ∷ serve loads

-- The tick from the instant `now` to the next: what is due is released, then one unit is served, of the work above all tasks
-- while there is such work.
abbrev pub tick : ℕ → Processor → Processor
tick now m =
    let released = map (release now) m.loads in
    record { above = m.above - 1; loads = if nat_lt 0 m.above then released else serve released }

-- the processor at the instant n
abbrev pub at_instant : ℕ → Processor → Processor
at_instant zero m = m
at_instant (suc n) m = tick n (at_instant n m)

abbrev pub no_load : Load
no_load = record { task = no_task; backlog = 0; served = 0 }

-- how many ticks task k has been served by the instant n, in the schedule with its own blocking
abbrev pub served_by : List Task → ℕ → ℕ → ℕ
served_by tasks k n = (slice_index_or (at_instant n (opening (task_at tasks k).blocking tasks)).loads k no_load).served

-- whether task k has finished its first job by the instant n
abbrev pub has_finished : List Task → ℕ → ℕ → Bool
has_finished tasks k n = nat_le (task_at tasks k).cost (served_by tasks k n)

-- the least number up to the bound that passes the test, if one does
abbrev pub least_up_to : ℕ → (ℕ → Bool) → Option ℕ
least_up_to zero test = if test 0 then Some 0 else None
least_up_to (suc bound) test = elim (least_up_to bound test) [
  | Some n ↦ Some n
  | None ↦ if test (suc bound) then Some (suc bound) else None
]

-- the instant at which task k finishes its first job, if it does so by the bound
abbrev pub finish_by : ℕ → List Task → ℕ → Option ℕ
finish_by bound tasks k = least_up_to bound (has_finished tasks k)
