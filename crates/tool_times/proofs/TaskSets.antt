-- Tasks of which no two have one priority: one more, and how many there are at most.
use Rattle.std.proofs.Common.{◌≡◌, ℕ, suc, ◌+◌, ◌<◌, ◌≤◌, true, false, ◌==◌, List, [], ◌∷◌, ◌++◌, length, map, eqb, refl, arith, inl, inr}
use Rattle.std.specs.Prelude.{All, if◌then◌else◌}
use Rattle.std.specs.List.{list_any, IsDistinct, AllByRecursion}
use Rattle.std.proofs.lemmas.Bool.Decides.{eqb_tells, nat_tests}
use Rattle.std.proofs.lemmas.List.{length-map}
use Rattle.std.proofs.lemmas.List.Elements.{All-append, All-cons}
use Rattle.std.proofs.lemmas.Map.Keys.{IsDistinct-cons}
use Rattle.std.proofs.lemmas.Map.Steps.{length-le_from_distinct_below}
use Rattle.tool_times.specs.declared.task.Task.{Task}
use Rattle.tool_times.specs.Tasks.{IsTask, AreTasks, count_at, is_taken}

free : (p : ℕ) (tasks : List Task) → is_taken p tasks ≡ false → count_at p tasks ≡ 0
free p [] none = refl
free p (t ∷ tasks) none = grind (arith, nat_tests, free p tasks)

count_push : (p : ℕ) (tasks : List Task) (t : Task) → count_at p (tasks ++ t ∷ []) ≡ count_at p tasks + (if t.priority == p then 1 else 0)
count_push p [] t = grind arith
count_push p (u ∷ tasks) t = grind (arith, count_push p tasks t)

-- one task more
pub more_tasks : (tasks new : List Task) (t : Task) → AreTasks tasks → IsTask t → is_taken t.priority tasks ≡ false →
    new ≡ tasks ++ t ∷ [] → AreTasks new
more_tasks tasks new t ok task none put = rw put (record {
  each = All-append IsTask tasks (t ∷ []) ok.each (All-cons IsTask t [] task (λ k d lt. absurd (omega arith)));
  apart = λ p. grind (arith, nat_tests, count_push p tasks t, free t.priority tasks none, ok.apart p);
})

apart_from : (p : ℕ) (tasks : List Task) → count_at p tasks ≡ 0 → AllByRecursion (λ q. eqb p q ≡ false) (map (λ (t : Task). t.priority) tasks)
apart_from p [] none = tt
apart_from p (t ∷ tasks) none = (grind (arith, nat_tests), apart_from p tasks (omega arith))

distinct : (tasks : List Task) → ((p : ℕ) → count_at p tasks ≤ 1) → IsDistinct eqb (map (λ (t : Task). t.priority) tasks)
unfolding IsDistinct
distinct [] apart = tt
distinct (t ∷ tasks) apart = IsDistinct-cons eqb t.priority (map (λ (t : Task). t.priority) tasks)
    (apart_from t.priority tasks (let h = apart t.priority in grind (arith, nat_tests)))
    (distinct tasks (λ p. let h = apart p in omega arith))

small : (p : ℕ) (tasks : List Task) → All IsTask tasks → list_any (eqb p) (map (λ (t : Task). t.priority) tasks) ≡ true → p < 256
small p [] each some = cc
small p (t ∷ tasks) each some =
    let task : IsTask t = each 0 t (omega arith) in
    elim (eqb_tells p t.priority) [
      | inl same ↦ omega arith
      | inr other ↦ small p tasks (λ k d lt. each (suc k) d (omega arith)) (grind (arith, nat_tests))
    ]

-- there are no more than priorities
pub few_tasks : (tasks : List Task) → AreTasks tasks → length tasks ≤ 256
few_tasks tasks ok =
    let most = length-le_from_distinct_below (map (λ (t : Task). t.priority) tasks) 256 (distinct tasks ok.apart) (λ p h. small p tasks ok.each h) in
    omega (arith, length-map tasks (λ (t : Task). t.priority))
