-- Schedules, computed by their definitions.
use Rattle.std.proofs.Common.{◌≡◌, ℕ, [], ◌∷◌, List, refl}
use Rattle.std.specs.Prelude.{Some, None, codes}
use Rattle.tool_times.specs.declared.task.Task.{Task}
use Rattle.tool_times.specs.Schedule.{finish_by}
use Rattle.tool_times.specs.Equation.{demand}

abbrev task : List ℕ → ℕ → ℕ → ℕ → ℕ → Task
task name priority cost period blocking = record { name = name; priority = priority; cost = cost; period = period; blocking = blocking }

-- Three tasks fill every tick up to 10.
abbrev three : List Task
three = task (codes "a") 3 1 4 0 ∷ task (codes "b") 2 2 6 0 ∷ task (codes "c") 1 3 12 0 ∷ []

first_finishes : finish_by 12 three 0 ≡ Some 1
first_finishes = refl

second_finishes : finish_by 12 three 1 ≡ Some 3
second_finishes = refl

third_finishes : finish_by 12 three 2 ≡ Some 10
third_finishes = refl

third_is_late : finish_by 9 three 2 ≡ None
third_is_late = refl

solved : demand three 2 10 ≡ 10
solved = refl

-- A task that always has work leaves nothing for a lower one.
abbrev greedy : List Task
greedy = task (codes "x") 2 1 1 0 ∷ task (codes "y") 1 1 1 0 ∷ []

greedy_finishes : finish_by 50 greedy 0 ≡ Some 1
greedy_finishes = refl

starves : finish_by 50 greedy 1 ≡ None
starves = refl

-- Work above all tasks comes first.
blocked : finish_by 50 (task (codes "a") 3 1 4 2 ∷ []) 0 ≡ Some 3
blocked = refl

-- It is work above that one task alone, and does not count for another.
abbrev two_blocked : List Task
two_blocked = task (codes "a") 3 1 4 2 ∷ task (codes "b") 2 1 4 0 ∷ []

blocked_alone : finish_by 50 two_blocked 1 ≡ Some 2
blocked_alone = refl

-- A half, a third and a sixth of each period take every tick.
abbrev full : List Task
full = task (codes "c") 1 1 6 0 ∷ task (codes "b") 2 1 3 0 ∷ task (codes "a") 3 1 2 0 ∷ []

full_finishes : finish_by 6 full 0 ≡ Some 6
full_finishes = refl

-- Two tasks that ask for more than there is: the second finishes behind its own period, and a third never.
abbrev overloaded : List Task
overloaded = task (codes "a") 3 2 3 0 ∷ task (codes "b") 2 2 4 0 ∷ task (codes "c") 1 1 100 0 ∷ []

second_is_behind : finish_by 50 overloaded 1 ≡ Some 6
second_is_behind = refl

third_never : finish_by 50 overloaded 2 ≡ None
third_never = refl

-- Tasks of one period come one after another.
abbrev one_period : List Task
one_period = task (codes "a") 3 2 10 0 ∷ task (codes "b") 2 3 10 0 ∷ task (codes "c") 1 5 10 0 ∷ []

last_of_one_period : finish_by 10 one_period 2 ≡ Some 10
last_of_one_period = refl

nothing_by_zero : finish_by 0 one_period 0 ≡ None
nothing_by_zero = refl
