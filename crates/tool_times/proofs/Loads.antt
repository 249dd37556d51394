-- What a tick does to the loads.
use Rattle.std.proofs.Common.{◌≡◌, ℕ, suc, ◌+◌, ◌%◌, ◌<◌, ◌≤◌, List, [], ◌∷◌, refl, arith}
use Rattle.std.specs.Prelude.{◌==◌, nat_lt, if◌then◌else◌, map}
use Rattle.std.proofs.lemmas.Bool.Decides.{nat_tests}
use Rattle.std.proofs.Math.Nat.{add-mul}
use Rattle.tool_times.specs.declared.task.Task.{Task}
use Rattle.tool_times.specs.Schedule.{Load, release, highest, serve}
use Rattle.tool_times.specs.Equation.{ceiling, work_before}
use Rattle.tool_times.proofs.Ceilings.{ceiling_next}
use Rattle.tool_times.proofs.Levels.{level}

abbrev pub task_of : Load → Task
task_of l = l.task

abbrev pub urgency : Load → ℕ
urgency l = l.task.priority

abbrev pub backlog_from : ℕ → List Load → ℕ
backlog_from q loads = level urgency q (λ l. l.backlog) loads

abbrev pub served_from : ℕ → List Load → ℕ
served_from q loads = level urgency q (λ l. l.served) loads

-- what the tasks of priority q or more release before the instant n
abbrev pub due_from : ℕ → ℕ → List Task → ℕ
due_from q n tasks = level (λ t. t.priority) q (work_before n) tasks

-- a high level has no work where the highest with work is lower
no_work : (q : ℕ) (loads : List Load) → highest loads < q → backlog_from q loads ≡ 0
no_work q [] lower = refl
no_work q (l ∷ loads) lower = grind (arith, nat_tests, no_work q loads)

has_work : (q : ℕ) (loads : List Load) → 1 ≤ q → q ≤ highest loads → 0 < backlog_from q loads
has_work q [] some le = absurd (omega arith)
has_work q (l ∷ loads) some le = grind (arith, nat_tests, has_work q loads some)

-- serving is of a level where the level has work
pub serve_served : (q : ℕ) (loads : List Load) → 1 ≤ q →
    served_from q (serve loads) ≡ served_from q loads + (if nat_lt 0 (backlog_from q loads) then 1 else 0)
serve_served q [] some = refl
serve_served q (l ∷ loads) some =
    grind (arith, nat_tests, serve_served q loads some, no_work q loads, has_work q loads some)

-- all that was released before the instant n is served or still there
abbrev pub Kept : ℕ → List Load → Type 0
Kept n [] = Unit {0}
Kept n (l ∷ loads) = (l.backlog + l.served ≡ work_before n l.task) × (1 ≤ l.task.period) × Kept n loads

pub serve_kept : (n : ℕ) (loads : List Load) → Kept n loads → Kept n (serve loads)
serve_kept n [] kept = tt
serve_kept n (l ∷ loads) kept = grind (arith, nat_tests, serve_kept n loads kept.2)

work_next : (n : ℕ) (t : Task) → 1 ≤ t.period → work_before (suc n) t ≡ work_before n t + (if n % t.period == 0 then t.cost else 0)
work_next n t some =
    rw (ceiling_next n t.period some) (grind (arith, nat_tests, add-mul (ceiling n t.period) 1 t.cost))

pub release_kept : (n : ℕ) (loads : List Load) → Kept n loads → Kept (suc n) (map (release n) loads)
release_kept n [] kept = tt
release_kept n (l ∷ loads) kept =
    (grind (arith, nat_tests, work_next n l.task kept.1), kept.1, release_kept n loads kept.2)

-- the same tasks
pub serve_tasks : (loads : List Load) → map task_of (serve loads) ≡ map task_of loads
serve_tasks [] = refl
serve_tasks (l ∷ loads) = grind (arith, nat_tests, serve_tasks loads)

pub release_tasks : (n : ℕ) (loads : List Load) → map task_of (map (release n) loads) ≡ map task_of loads
release_tasks n [] = refl
release_tasks n (l ∷ loads) = rw (release_tasks n loads) refl

pub release_served : (q n : ℕ) (loads : List Load) → served_from q (map (release n) loads) ≡ served_from q loads
release_served q n [] = refl
release_served q n (l ∷ loads) = rw (release_served q n loads) refl

pub kept_sums : (q n : ℕ) (loads : List Load) → Kept n loads →
    backlog_from q loads + served_from q loads ≡ due_from q n (map task_of loads)
kept_sums q n [] kept = refl
kept_sums q n (l ∷ loads) kept = grind (arith, nat_tests, kept_sums q n loads kept.2)
