-- The values that one comes through from 0, each the demand of the one before, rise to the least solution.
use Rattle.std.proofs.Common.{◌≡◌, ℕ, suc, ◌*◌, ◌<◌, ◌≤◌, ◌^◌, List, [], ◌∷◌, length, get_or, sym, arith, le_trans}
use Rattle.std.specs.Prelude.{All}
use Rattle.std.proofs.lemmas.Bool.Decides.{nat_tests}
use Rattle.std.proofs.lemmas.Nat.{mul-le}
use Rattle.std.proofs.lemmas.List.Sums.{sum_by-cons}
use Rattle.tool_times.specs.declared.task.Task.{Task}
use Rattle.tool_times.specs.Tasks.{IsTask, AreTasks, no_task, task_at}
use Rattle.tool_times.specs.Equation.{ceiling, work_before, work_above, interference, demand, Solves, IsLeastSolution}
use Rattle.tool_times.proofs.Ceilings.{ceiling_mono, ceiling_le}

work_mono : (n m : ℕ) (t : Task) → IsTask t → n ≤ m → work_before n t ≤ work_before m t
work_mono n m t task le =
    mul-le (ceiling n t.period) t.cost (ceiling m t.period) t.cost (ceiling_mono n m t.period task.period_some le) (omega arith)

interference_mono : (p n m : ℕ) (tasks : List Task) → All IsTask tasks → n ≤ m → interference p n tasks ≤ interference p m tasks
interference_mono p n m [] each le = omega arith
interference_mono p n m (t ∷ tasks) each le =
    let first : work_before n t ≤ work_before m t = work_mono n m t (each 0 t (omega arith)) le in
    let rest : interference p n tasks ≤ interference p m tasks = interference_mono p n m tasks (λ k d lt. each (suc k) d (omega arith)) le in
    rw (sum_by-cons (work_above p n) t tasks, sum_by-cons (work_above p m) t tasks)
    (grind (arith, nat_tests))

demand_mono : (tasks : List Task) (k n m : ℕ) → AreTasks tasks → n ≤ m → demand tasks k n ≤ demand tasks k m
demand_mono tasks k n m ok le = omega (arith, interference_mono (task_at tasks k).priority n m tasks ok.each le)

-- a value on the way up, below every solution
pub record Climbs (tasks : List Task) (k n : ℕ) : Type 0 where
  pub rises : n ≤ demand tasks k n
  pub below : (m : ℕ) → Solves tasks k m → n ≤ m

pub climbs_first : (tasks : List Task) (k : ℕ) → Climbs tasks k 0
climbs_first tasks k = record { rises = omega arith; below = λ m solves. omega arith }

pub climbs_next : (tasks : List Task) (k n next : ℕ) → AreTasks tasks → Climbs tasks k n → next ≡ demand tasks k n → Climbs tasks k next
climbs_next tasks k n next ok climbs e = rw e (record {
  rises = demand_mono tasks k n (demand tasks k n) ok climbs.rises;
  below = λ m solves. (let le : demand tasks k n ≤ demand tasks k m = demand_mono tasks k n m ok (climbs.below m solves) in
      rw (sym solves.1) at le);
})

-- where the demand is met the value is the least solution
pub found : (tasks : List Task) (k n : ℕ) → AreTasks tasks → k < length tasks → Climbs tasks k n → n ≡ demand tasks k n → IsLeastSolution tasks k n
found tasks k n ok lt climbs met =
    let task : IsTask (task_at tasks k) = ok.each k no_task lt in
    record { solves = (omega arith, met); least = climbs.below }

-- a task among them
pub task_in : (tasks : List Task) (i : ℕ) (t : Task) → AreTasks tasks → i < length tasks → t ≡ get_or tasks i t → IsTask t
task_in tasks i t ok lt e = rw e (ok.each i t lt)

-- The work of a task is small enough for a machine word.
pub work_small : (n : ℕ) (t : Task) → IsTask t → n ≤ 10 ^ 8 → work_before n t ≤ 10 ^ 8 * 10 ^ 6
work_small n t task small =
    mul-le (ceiling n t.period) t.cost (10 ^ 8) (10 ^ 6) (le_trans (ceiling_le n t.period task.period_some) small) task.cost_most
