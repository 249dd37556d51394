-- A task's first job finishes at the least solution of its equation, and where there is none up to a bound, not by the bound.
use Rattle.std.proofs.Common.{◌≡◌, ℕ, zero, suc, ◌+◌, ◌*◌, ◌<◌, ◌≤◌, true, false, Bool, List, [], ◌∷◌, length, get_or, refl, arith, inl, inr, ◌∙◌, ap, subst}
use Rattle.std.specs.Prelude.{◌⊎◌, nat_lt, if◌then◌else◌, map, All, Option, Some, None, MatchOption}
use Rattle.std.proofs.lemmas.Bool.Decides.{nat_tests}
use Rattle.std.proofs.lemmas.List.Sums.{sum_by-cons}
use Rattle.std.proofs.lemmas.List.{length-map}
use Rattle.std.proofs.lemmas.Nat.{mul-le}
use Rattle.tool_times.specs.declared.task.Task.{Task}
use Rattle.tool_times.specs.Tasks.{IsTask, AreTasks, no_task, task_at, count_at}
use Rattle.tool_times.specs.Schedule.{Load, Processor, opening, release, serve, tick, at_instant, no_load, served_by, has_finished, least_up_to, finish_by}
use Rattle.tool_times.specs.Equation.{ceiling, work_before, work_above, interference, Solves, IsLeastSolution}
use Rattle.tool_times.proofs.Ceilings.{ceiling_zero, ceiling_some}
use Rattle.tool_times.proofs.Levels.{count, count-map, split_at}
use Rattle.tool_times.proofs.Loads.{task_of, urgency, backlog_from, served_from, due_from, Kept, serve_served, serve_kept, release_kept, serve_tasks, release_tasks, release_served, kept_sums}
use Rattle.tool_times.proofs.Course.{Step, Course, is_met, meets}

-- where the schedule of these tasks stands at the instant n
record Stands (tasks : List Task) (n : ℕ) (m : Processor) : Type 0 where
  tasks_are : map task_of m.loads ≡ tasks
  kept : Kept n m.loads

abbrev fresh : Task → Load
fresh t = record { task = t; backlog = 0; served = 0 }

fresh_kept : (tasks : List Task) → All IsTask tasks → Kept 0 (map fresh tasks)
fresh_kept [] each = tt
fresh_kept (t ∷ tasks) each =
    let task : IsTask t = each 0 t (omega arith) in
    (rw (ceiling_zero t.period task.period_some) (omega arith), task.period_some, fresh_kept tasks (λ k d lt. each (suc k) d (omega arith)))

fresh_tasks : (tasks : List Task) → map task_of (map fresh tasks) ≡ tasks
fresh_tasks [] = refl
fresh_tasks (t ∷ tasks) = rw (fresh_tasks tasks) refl

fresh_served : (q : ℕ) (tasks : List Task) → served_from q (map fresh tasks) ≡ 0
fresh_served q [] = refl
fresh_served q (t ∷ tasks) = grind (arith, nat_tests, fresh_served q tasks)

chosen_kept : (b : Bool) (n : ℕ) (loads : List Load) → Kept n loads → Kept n (if b then loads else serve loads)
chosen_kept true n loads kept = kept
chosen_kept false n loads kept = serve_kept n loads kept

chosen_tasks : (b : Bool) (loads : List Load) → map task_of (if b then loads else serve loads) ≡ map task_of loads
chosen_tasks true loads = refl
chosen_tasks false loads = serve_tasks loads

stands_next : (tasks : List Task) (n : ℕ) (m : Processor) → Stands tasks n m → Stands tasks (suc n) (tick n m)
stands_next tasks n m stands = record {
  tasks_are = rw (chosen_tasks (nat_lt 0 m.above) (map (release n) m.loads), release_tasks n m.loads) stands.tasks_are;
  kept = chosen_kept (nat_lt 0 m.above) (suc n) (map (release n) m.loads) (release_kept n m.loads stands.kept);
}

stands_at : (tasks : List Task) (b : ℕ) → All IsTask tasks → (n : ℕ) → Stands tasks n (at_instant n (opening b tasks))
stands_at tasks b each zero = record { tasks_are = fresh_tasks tasks; kept = fresh_kept tasks each }
stands_at tasks b each (suc n) = stands_next tasks n (at_instant n (opening b tasks)) (stands_at tasks b each n)

-- one unit of what is left, if any is
step_from : (a y x left d z : ℕ) → left + x ≡ d → z ≡ x + (if nat_lt 0 left then 1 else 0) → (0 < a → y ≡ x) → (a ≡ 0 → y ≡ z) → Step a x y d
step_from a y x left d z sums serves waits works = record {
  within = omega arith;
  waits = waits;
  idle = λ none all. grind (arith, nat_tests);
  serves = λ none some. grind (arith, nat_tests);
}

chosen_waits : (q a : ℕ) (rs : List Load) → 0 < a → served_from q (if nat_lt 0 a then rs else serve rs) ≡ served_from q rs
chosen_waits q a rs left = grind (arith, nat_tests)

chosen_works : (q a : ℕ) (rs : List Load) → a ≡ 0 → served_from q (if nat_lt 0 a then rs else serve rs) ≡ served_from q (serve rs)
chosen_works q a rs none = grind (arith, nat_tests)

-- one tick, as a level sees it
step_of : (tasks : List Task) (q n : ℕ) (m : Processor) → 1 ≤ q → Stands tasks n m →
    Step m.above (served_from q m.loads) (served_from q (tick n m).loads) (due_from q (suc n) tasks)
step_of tasks q n m some stands =
    let rs : List Load = map (release n) m.loads in
    let same : served_from q rs ≡ served_from q m.loads = release_served q n m.loads in
    let known : map task_of rs ≡ tasks = rw (release_tasks n m.loads) stands.tasks_are in
    let sums : backlog_from q rs + served_from q rs ≡ due_from q (suc n) (map task_of rs) =
    kept_sums q (suc n) rs (release_kept n m.loads stands.kept) in
    let due : backlog_from q rs + served_from q m.loads ≡ due_from q (suc n) tasks = rw (same, known) at sums in
    let served = serve_served q rs some in
    let serves : served_from q (serve rs) ≡ served_from q m.loads + (if nat_lt 0 (backlog_from q rs) then 1 else 0) = rw same at served in
    step_from m.above (served_from q (tick n m).loads) (served_from q m.loads) (backlog_from q rs) (due_from q (suc n) tasks)
    (served_from q (serve rs)) due serves (λ left. chosen_waits q m.above rs left ∙ same) (λ none. chosen_works q m.above rs none)

-- the number of a task is that of its load
urgency_at : (loads : List Load) (k : ℕ) → k < length loads → (get_or loads k no_load).task ≡ task_at (map task_of loads) k
urgency_at [] k lt = absurd (omega arith)
urgency_at (l ∷ loads) zero lt = refl
urgency_at (l ∷ loads) (suc k) lt = urgency_at loads k (omega arith)

count_is : (p : ℕ) (tasks : List Task) → count_at p tasks ≡ count (λ t. t.priority) p tasks
count_is p [] = refl
count_is p (t ∷ tasks) = rw (count_is p tasks) refl

-- task k is the one at its priority
split_loads : (loads : List Load) (k : ℕ) → k < length loads → AreTasks (map task_of loads) →
    served_from (urgency (get_or loads k no_load)) loads ≡ served_from (suc (urgency (get_or loads k no_load))) loads + (get_or loads k no_load).served
split_loads loads k lt ok =
    let p : ℕ = urgency (get_or loads k no_load) in
    split_at urgency (λ l. l.served) loads k no_load lt
    (omega (arith, ok.apart p, count_is p (map task_of loads), count-map task_of (λ t. t.priority) p loads))

split_tasks : (n : ℕ) (tasks : List Task) (k : ℕ) → k < length tasks → AreTasks tasks →
    due_from (task_at tasks k).priority n tasks ≡ due_from (suc (task_at tasks k).priority) n tasks + work_before n (task_at tasks k)
split_tasks n tasks k lt ok =
    split_at (λ t. t.priority) (work_before n) tasks k no_task lt
    (omega (arith, ok.apart (task_at tasks k).priority, count_is (task_at tasks k).priority tasks))

-- the same, of loads that are these tasks'
split_of : (tasks : List Task) (k : ℕ) → AreTasks tasks → k < length tasks → (loads : List Load) → map task_of loads ≡ tasks →
    served_from (task_at tasks k).priority loads ≡ served_from (suc (task_at tasks k).priority) loads + (get_or loads k no_load).served
split_of tasks k ok lt loads same =
    let long : length (map task_of loads) ≡ length loads = length-map loads task_of in
    let some : length tasks ≡ length loads = rw same at long in
    let within : k < length loads = omega arith in
    let known : (get_or loads k no_load).task ≡ task_at (map task_of loads) k = urgency_at loads k within in
    let e : (get_or loads k no_load).task ≡ task_at tasks k = rw same at known in
    subst (λ (p : ℕ). served_from p loads ≡ served_from (suc p) loads + (get_or loads k no_load).served) (ap (λ (t : Task). t.priority) e)
    (split_loads loads k within (rw same ok))

-- a task releases its cost at the instant 0
due_of : (n : ℕ) (tasks : List Task) (k : ℕ) → k < length tasks → AreTasks tasks → IsTask (task_at tasks k) →
    due_from (suc (task_at tasks k).priority) (suc n) tasks + (task_at tasks k).cost ≤ due_from (task_at tasks k).priority (suc n) tasks
due_of n tasks k lt ok task =
    let t : Task = task_at tasks k in
    let job : 1 * t.cost ≤ ceiling (suc n) t.period * t.cost =
    mul-le 1 t.cost (ceiling (suc n) t.period) t.cost (ceiling_some n t.period task.period_some) (omega arith) in
    omega (arith, split_tasks (suc n) tasks k lt ok, job)

-- the interference is what the tasks above release
interference_is : (p n : ℕ) (tasks : List Task) → interference p n tasks ≡ due_from (suc p) n tasks
interference_is p n [] = refl
interference_is p n (t ∷ tasks) =
    rw (sum_by-cons (work_above p n) t tasks) (rw (interference_is p n tasks) refl)

-- the schedule of task k, as it sees it
course : (tasks : List Task) (k : ℕ) → AreTasks tasks → k < length tasks →
    let t : Task = task_at tasks k in
    let m : ℕ → Processor = λ n. at_instant n (opening t.blocking tasks) in
    Course t.cost t.blocking (λ n. (m n).above) (λ n. served_from t.priority (m n).loads) (λ n. served_from (suc t.priority) (m n).loads)
    (served_by tasks k) (λ n. due_from t.priority n tasks) (λ n. due_from (suc t.priority) n tasks)
course tasks k ok lt =
    let t : Task = task_at tasks k in
    let task : IsTask t = ok.each k no_task lt in
    let stands : (n : ℕ) → Stands tasks n (at_instant n (opening t.blocking tasks)) = stands_at tasks t.blocking ok.each in
    record {
      some = task.cost_some;
      opens = refl;
      none = fresh_served t.priority tasks;
      above = λ n. refl;
      all = λ n. step_of tasks t.priority n (at_instant n (opening t.blocking tasks)) task.priority_some (stands n);
      higher = λ n. step_of tasks (suc t.priority) n (at_instant n (opening t.blocking tasks)) (omega arith) (stands n);
      split = λ n. split_of tasks k ok lt (at_instant n (opening t.blocking tasks)).loads (stands n).tasks_are;
      due = λ n. due_of n tasks k lt ok task;
    }

-- what the search for the least number up to a bound gives
record IsFirst (bound : ℕ) (test : ℕ → Bool) (n : ℕ) : Type 0 where
  within : n ≤ bound
  passes : test n ≡ true
  first : (m : ℕ) → m < n → test m ≡ false

abbrev NoneUpTo : ℕ → (ℕ → Bool) → Type 0
NoneUpTo bound test = (n : ℕ) → n ≤ bound → test n ≡ false

first_at : (test : ℕ → Bool) (b : Bool) → test 0 ≡ b → MatchOption (if b then Some 0 else None) (NoneUpTo 0 test) (IsFirst 0 test)
first_at test true here = record { within = omega arith; passes = here; first = λ m lt. absurd (omega arith) }
first_at test false here = λ n le. (let e : n ≡ 0 = omega arith in rw e here)

up_to_next : (bound : ℕ) (test : ℕ → Bool) → NoneUpTo bound test → test (suc bound) ≡ false → NoneUpTo (suc bound) test
up_to_next bound test before here n le =
    let cases : (n ≤ bound) ⊎ (n ≡ suc bound) = grind arith in
    elim cases [ inl less ↦ before n less | inr same ↦ rw same here ]

first_more : (bound : ℕ) (test : ℕ → Bool) (x : Option ℕ) → MatchOption x (NoneUpTo bound test) (IsFirst bound test) →
    (b : Bool) → test (suc bound) ≡ b →
    MatchOption (elim x [ Some n ↦ Some n | None ↦ if b then Some (suc bound) else None ]) (NoneUpTo (suc bound) test) (IsFirst (suc bound) test)
first_more bound test (Some n) known b here = record { within = omega (arith, known.within); passes = known.passes; first = known.first }
first_more bound test None known true here =
    record { within = omega arith; passes = here; first = λ m lt. known m (omega arith) }
first_more bound test None known false here = λ n le. up_to_next bound test known here n le

least : (bound : ℕ) (test : ℕ → Bool) → MatchOption (least_up_to bound test) (NoneUpTo bound test) (IsFirst bound test)
least zero test = first_at test (test 0) refl
least (suc bound) test = first_more bound test (least_up_to bound test) (least bound test) (test (suc bound)) refl

-- a task has not finished where it has been served less than its cost
unfinished : (tasks : List Task) (k n : ℕ) → has_finished tasks k n ≡ false → served_by tasks k n < (task_at tasks k).cost
unfinished tasks k n h = grind (arith, nat_tests)

finished : (tasks : List Task) (k n : ℕ) → has_finished tasks k n ≡ true → (task_at tasks k).cost ≤ served_by tasks k n
finished tasks k n h = grind (arith, nat_tests)

-- The instant at which the job finishes solves the equation.
finish_solves : (tasks : List Task) (k : ℕ) → AreTasks tasks → k < length tasks → (bound n : ℕ) → IsFirst bound (has_finished tasks k) n → Solves tasks k n
finish_solves tasks k ok lt bound n first =
    let met = meets _ _ _ _ _ _ _ _ (course tasks k ok lt) n (finished tasks k n first.passes)
    (λ m lower. unfinished tasks k m (first.first m lower)) in
    rw (interference_is (task_at tasks k).priority n tasks) met

-- Where n is a solution the job finishes by n.
solution_finishes : (tasks : List Task) (k : ℕ) → AreTasks tasks → k < length tasks → (n : ℕ) → Solves tasks k n → NoneUpTo n (has_finished tasks k) → ⊥
solution_finishes tasks k ok lt n solves none =
    let met : (task_at tasks k).cost + (task_at tasks k).blocking + due_from (suc (task_at tasks k).priority) n tasks ≤ n =
    omega (arith, solves.1, interference_is (task_at tasks k).priority n tasks) in
    is_met _ _ _ _ _ _ _ _ (course tasks k ok lt) n met (λ m le. unfinished tasks k m (none m le))

no_first : (tasks : List Task) (k bound : ℕ) → AreTasks tasks → k < length tasks → ((n : ℕ) → Solves tasks k n → bound < n) →
    (x : Option ℕ) → MatchOption x (NoneUpTo bound (has_finished tasks k)) (IsFirst bound (has_finished tasks k)) → x ≡ None
no_first tasks k bound ok lt late None none = refl
no_first tasks k bound ok lt late (Some n) first = absurd (omega (arith, first.within, late n (finish_solves tasks k ok lt bound n first)))

-- a first instant up to a bound is one up to itself, and there is none below
the_first : (tasks : List Task) (k bound n : ℕ) → AreTasks tasks → k < length tasks → n ≤ bound → IsLeastSolution tasks k n →
    (x : Option ℕ) → MatchOption x (NoneUpTo bound (has_finished tasks k)) (IsFirst bound (has_finished tasks k)) → x ≡ Some n
the_first tasks k bound n ok lt le solution None none =
    absurd (solution_finishes tasks k ok lt n solution.solves (λ m lower. none m (omega arith)))
the_first tasks k bound n ok lt le solution (Some f) first =
    let below : n ≤ f = solution.least f (finish_solves tasks k ok lt bound f first) in
    let cases : (n < f) ⊎ (f ≡ n) = grind arith in
    elim cases [
      | inl later ↦ absurd (solution_finishes tasks k ok lt n solution.solves (λ m lower. first.first m (omega arith)))
      | inr same ↦ ap Some same
    ]

-- Where the equation has no solution up to the bound, the job does not finish by the bound.
pub no_finish : (tasks : List Task) (k bound : ℕ) → AreTasks tasks → k < length tasks → ((n : ℕ) → Solves tasks k n → bound < n) →
    finish_by bound tasks k ≡ None
no_finish tasks k bound ok lt late = no_first tasks k bound ok lt late (finish_by bound tasks k) (least bound (has_finished tasks k))

-- Where the equation has a least solution up to the bound, the job finishes there.
pub finish : (tasks : List Task) (k bound n : ℕ) → AreTasks tasks → k < length tasks → n ≤ bound → IsLeastSolution tasks k n →
    finish_by bound tasks k ≡ Some n
finish tasks k bound n ok lt le solution = the_first tasks k bound n ok lt le solution (finish_by bound tasks k) (least bound (has_finished tasks k))
