-- The steps of a settling's loops.
use Rattle.std.proofs.Common.{◌≡◌, ◌≢◌, ◌<◌, ◌≤◌, ◌⊎◌, inl, inr, ◌+◌, ◌-◌, ℕ, zero, suc, List, [], ◌∷◌, Bool, true, false, None, Option, Some, ap, arith, drop, drop-cons, add-one, length, refl, subst, sym, ◌∙◌}
use Rattle.std.specs.Prelude.{filter, if◌then◌else◌, map, not, slice_index, ◌==◌}
use Rattle.std.specs.List.{range_with_len}
use Rattle.std.proofs.lemmas.Bool.Decides.{eqb_tells}
use Rattle.rules_bodies.specs.declared.cursor.Cursor.{Cursor}
use Rattle.rules_lists.specs.Lists.{prio_of, without}
use Rattle.rules_machine.specs.State.{Machine}
use Rattle.rules_machine.specs.Threads.{can_run, thread_numbers}
use Rattle.rules_machine.specs.Priorities.{exec}
use Rattle.rules_machine.specs.Settling.{left_runnable, moved_all}
use Rattle.kernel_state.specs.Kernel.{Kernel, with_lists}
use Rattle.kernel_settling.specs.Settled.{left_one, moved, placed, placed_all, settled_now, shifted_from}
use Rattle.kernel_state.specs.Standing.{ComesNext, IsNext, StandFrom, StandsRight, table_in}
use Rattle.kernel_state.proofs.OnLists.{gone, gone_apart, stands_nowhere}
use Rattle.kernel_settling.proofs.SweepNothing.{all_pass}

module _ {P : Type 0} (m : Machine P) where
  pub moved_more : (direct : List ℕ) (i t : ℕ) (lists : List (List ℕ)) → i < length direct → t ≡ slice_index direct i →
      moved_all m (drop (i + 1) direct) (moved m t lists) ≡ moved_all m (drop i direct) lists
  moved_more direct i t lists lt is = rw (add-one, drop-cons direct i 0 lt, ← is) refl

  range_more : (k n : ℕ) → k < n → range_with_len k (n - k) ≡ k ∷ range_with_len (k + 1) (n - (k + 1))
  range_more k n lt = let e : n - k ≡ suc (n - (k + 1)) = omega arith in rw e refl

  pub placed_more : (k n : ℕ) (lists : List (List ℕ)) → k < n →
      placed_all m (range_with_len (k + 1) (n - (k + 1))) (placed m k lists) ≡ placed_all m (range_with_len k (n - k)) lists
  placed_more k n lists lt = rw (range_more k n lt) refl

-- ---- those that stand right are passed over

no_shift : (p : ℕ) (t : ℕ) (lists : List (List ℕ)) → shifted_from (Some p) t p lists ≡ lists
no_shift p t lists = grind arith

placed_at : (b : Bool) (o : Option ℕ) (t e : ℕ) (lists : List (List ℕ)) → ((p : ℕ) → o ≡ Some p → e ≡ p) → (if b then shifted_from o t e lists else lists) ≡ lists
placed_at false o t e lists there = refl
placed_at true None t e lists there = refl
placed_at true (Some p) t e lists there = let is = there p refl in rw is (no_shift p t lists)

placed_same : (m : Machine Cursor) (t : ℕ) (lists : List (List ℕ)) → StandsRight (table_in m) lists t → placed m t lists ≡ lists
placed_same m t lists right = placed_at (can_run m t) (prio_of t lists) t (exec m t) lists right.there

-- the first of them
pub placed_past : (m : Machine Cursor) (d k : ℕ) (n : ℕ) (lists : List (List ℕ)) → ((u : ℕ) → k ≤ u → u < k + d → StandsRight (table_in m) lists u) →
    placed_all m (range_with_len k (d + n)) lists ≡ placed_all m (range_with_len (k + d) n) lists
placed_past m zero k n lists right = let e : 0 + n ≡ n = omega arith in let f : k + 0 ≡ k = omega arith in rw (e, f) refl
placed_past m (suc d) k n lists right =
    let e : suc d + n ≡ suc (d + n) = omega arith in
    let one : placed_all m (range_with_len k (suc d + n)) lists ≡ placed_all m (range_with_len (k + 1) (d + n)) (placed m k lists) = ap (λ (j : ℕ). placed_all m (range_with_len k j) lists) e in
    let f : (k + 1) + d ≡ k + suc d = omega arith in
    let here = placed_same m k lists (right k (omega arith) (omega arith)) in
    let rest = placed_past m d (k + 1) n lists (λ u low small. right u (omega (arith, low)) (omega (arith, small))) in
    one ∙ ap (placed_all m (range_with_len (k + 1) (d + n))) here ∙ rest ∙ ap (λ (j : ℕ). placed_all m (range_with_len j n) lists) f

-- up to the one that comes next
pub placed_next : (m : Machine Cursor) (k t n : ℕ) (lists : List (List ℕ)) → k ≤ t → t < n → ((u : ℕ) → k ≤ u → u < t → StandsRight (table_in m) lists u) →
    placed_all m (range_with_len (t + 1) (n - (t + 1))) (placed m t lists) ≡ placed_all m (range_with_len k (n - k)) lists
placed_next m k t n lists low small right =
    let past = placed_past m (t - k) k (n - t) lists (λ u l s. right u l (omega (arith, s, low))) in
    let e : (t - k) + (n - t) ≡ n - k = omega (arith, low, small) in
    let f : k + (t - k) ≡ t = omega (arith, low) in
    placed_more m t n lists small ∙ sym (ap (λ (j : ℕ). placed_all m (range_with_len k j) lists) (sym e) ∙ past ∙ ap (λ (j : ℕ). placed_all m (range_with_len j (n - t)) lists) f)

-- and to the end
pub placed_last : (m : Machine Cursor) (k n : ℕ) (lists : List (List ℕ)) → ((u : ℕ) → k ≤ u → StandsRight (table_in m) lists u) →
    placed_all m (range_with_len k (n - k)) lists ≡ lists
placed_last m k n lists right =
    let e : (n - k) + 0 ≡ n - k = omega arith in
    ap (λ (j : ℕ). placed_all m (range_with_len k j) lists) (sym e) ∙ placed_past m (n - k) k 0 lists (λ u low small. right u low)

-- ---- those that are not runnable leave

filter_again : (p q : ℕ → Bool) → ((u : ℕ) → p u ≡ true → q u ≡ true) → (us : List ℕ) → filter p (filter q us) ≡ filter p us
filter_again p q h [] = refl
filter_again p q h (u ∷ us) = grind (arith, h u, filter_again p q h us)

maps_again : (p q : ℕ → Bool) → ((u : ℕ) → p u ≡ true → q u ≡ true) → (lists : List (List ℕ)) → map (filter p) (map (filter q) lists) ≡ map (filter p) lists
maps_again p q h [] = refl
maps_again p q h (us ∷ lists) = grind (arith, filter_again p q h us, maps_again p q h lists)

-- what stays in the end stays the same
pub left_same : (m : Machine Cursor) (t : ℕ) (lists : List (List ℕ)) → map (filter (can_run m)) (left_one m t lists) ≡ map (filter (can_run m)) lists
left_same m t lists = by_case (can_run m t) refl
  where
    apart : can_run m t ≡ false → (u : ℕ) → can_run m u ≡ true → not (u == t) ≡ true
    apart off u on = elim (eqb_tells u t) [
      | inl same ↦ absurd (let h : true ≡ false = sym on ∙ ap (can_run m) same.1 ∙ off in cc)
      | inr other ↦ (let e : (u == t) ≡ false = other.0 in rw e refl)
    ]

    by_case : (b : Bool) → can_run m t ≡ b → map (filter (can_run m)) (if b then lists else without t lists) ≡ map (filter (can_run m)) lists
    by_case true e = refl
    by_case false e = maps_again (can_run m) (λ u. not (u == t)) (apart e) lists

-- the threads below a number that are not runnable stand nowhere
abbrev pub OffBelow : Machine Cursor → ℕ → List (List ℕ) → Type 0
OffBelow m k lists = (u : ℕ) → u < k → can_run m u ≡ false → prio_of u lists ≡ None

-- a thread that stands right and is not runnable stands nowhere
pub off_nowhere : (m : Machine Cursor) (u : ℕ) (lists : List (List ℕ)) → StandsRight (table_in m) lists u → can_run m u ≡ false → prio_of u lists ≡ None
off_nowhere m u lists right off = by_case (prio_of u lists) refl
  where
    by_case : (o : Option ℕ) → prio_of u lists ≡ o → prio_of u lists ≡ None
    by_case None e = e
    by_case (Some p) e = absurd (let h : true ≡ false = sym (right.runs p e) ∙ off in cc)

left_other : (m : Machine Cursor) (t u : ℕ) (lists : List (List ℕ)) → prio_of u lists ≡ None → prio_of u (left_one m t lists) ≡ None
left_other m t u lists none = by_case (can_run m t)
  where
    by_case : (b : Bool) → prio_of u (if b then lists else without t lists) ≡ None
    by_case true = none
    by_case false = elim (eqb_tells u t) [ inl same ↦ rw same.1 (gone t lists) | inr other ↦ gone_apart t u lists other.1 ∙ none ]

left_itself : (m : Machine Cursor) (t : ℕ) (lists : List (List ℕ)) → can_run m t ≡ false → prio_of t (left_one m t lists) ≡ None
left_itself m t lists off = rw off (gone t lists)

pub off_more : (m : Machine Cursor) (k t : ℕ) (lists : List (List ℕ)) → OffBelow m k lists → ((u : ℕ) → k ≤ u → u < t → StandsRight (table_in m) lists u) →
    OffBelow m (t + 1) (left_one m t lists)
off_more m k t lists below right u lt off = elim (eqb_tells u t) [
  | inl same ↦ rw same.1 (left_itself m t lists (rw same.1 at off))
  | inr other ↦ left_other m t u lists (before other.1 (near_or_far u))
]
  where
    near_or_far : (u : ℕ) → (u < k) ⊎ (k ≤ u)
    near_or_far u = grind arith

    before : u ≢ t → (u < k) ⊎ (k ≤ u) → prio_of u lists ≡ None
    before other (inl near) = below u near off
    before other (inr far) = off_nowhere m u lists (right u far (omega (arith, lt, other))) off

-- and then all of them
pub left_all : (m : Machine Cursor) (k : ℕ) (lists : List (List ℕ)) → OffBelow m k lists → ((u : ℕ) → k ≤ u → StandsRight (table_in m) lists u) → map (filter (can_run m)) lists ≡ lists
left_all m k lists below right = all_pass (can_run m) lists (λ u i off. stands_nowhere 1 u i lists (at u off (near_or_far u)))
  where
    near_or_far : (u : ℕ) → (u < k) ⊎ (k ≤ u)
    near_or_far u = grind arith

    at : (u : ℕ) → can_run m u ≡ false → (u < k) ⊎ (k ≤ u) → prio_of u lists ≡ None
    at u off (inl near) = below u near off
    at u off (inr far) = off_nowhere m u lists (right u far) off

-- ---- the loops

-- how far the threads that are not runnable have left
pub record Leaving (first l : Kernel) (from : ℕ) : Type 0 where
  pub same : l ≡ with_lists (λ lists. l.machine.lists) first
  pub rest : map (filter (can_run first.machine)) l.machine.lists ≡ left_runnable first.machine
  pub off : OffBelow first.machine from l.machine.lists

pub leaving_on : (first l new : Kernel) (from t : ℕ) → Leaving first l from → IsNext l.machine from t → new ≡ with_lists (left_one l.machine t) l → Leaving first new (t + 1)
leaving_on first l new from t so_far next is =
    subst (λ (x : Kernel). IsNext x.machine from t → new ≡ with_lists (left_one x.machine t) x → Leaving first new (t + 1)) (sym so_far.same) at next is
  where
    at : ComesNext (table_in first.machine) l.machine.lists from t → new ≡ with_lists (λ lists. left_one first.machine t l.machine.lists) first → Leaving first new (t + 1)
    at next is = subst (λ (x : Kernel). Leaving first x (t + 1)) (sym is) (record {
      same = refl;
      rest = left_same first.machine t l.machine.lists ∙ so_far.rest;
      off = off_more first.machine from t l.machine.lists so_far.off next.between;
    })

pub left_in_the_end : (first l : Kernel) (from : ℕ) → Leaving first l from → StandFrom l.machine from → l ≡ with_lists (λ lists. left_runnable first.machine) first
left_in_the_end first l from so_far right = subst (λ (x : Kernel). StandFrom x.machine from → l ≡ with_lists (λ lists. left_runnable first.machine) first) (sym so_far.same) at right
  where
    at : ((u : ℕ) → from ≤ u → StandsRight (table_in first.machine) l.machine.lists u) → l ≡ with_lists (λ lists. left_runnable first.machine) first
    at right = so_far.same ∙ ap (λ (ls : List (List ℕ)). with_lists (λ lists. ls) first) (sym (left_all first.machine from l.machine.lists so_far.off right) ∙ so_far.rest)

-- how far those whose execution priority rose or fell have moved
pub record Placing (first l : Kernel) (from : ℕ) : Type 0 where
  pub same : l ≡ with_lists (λ lists. l.machine.lists) first
  pub rest : placed_all first.machine (range_with_len from (length first.machine.threads - from)) l.machine.lists ≡ placed_all first.machine (thread_numbers first.machine) first.machine.lists

pub placing_on : (first l new : Kernel) (from t : ℕ) → Placing first l from → IsNext l.machine from t → new ≡ with_lists (placed l.machine t) l → Placing first new (t + 1)
placing_on first l new from t so_far next is =
    subst (λ (x : Kernel). IsNext x.machine from t → new ≡ with_lists (placed x.machine t) x → Placing first new (t + 1)) (sym so_far.same) at next is
  where
    at : ComesNext (table_in first.machine) l.machine.lists from t → new ≡ with_lists (λ lists. placed first.machine t l.machine.lists) first → Placing first new (t + 1)
    at next is = subst (λ (x : Kernel). Placing first x (t + 1)) (sym is) (record {
      same = refl;
      rest = placed_next first.machine from t (length first.machine.threads) l.machine.lists next.low next.known next.between ∙ so_far.rest;
    })

pub placed_in_the_end : (first l : Kernel) (from : ℕ) → Placing first l from → StandFrom l.machine from → l ≡ with_lists (placed_all first.machine (thread_numbers first.machine)) first
placed_in_the_end first l from so_far right = subst (λ (x : Kernel). StandFrom x.machine from → l ≡ with_lists (placed_all first.machine (thread_numbers first.machine)) first) (sym so_far.same) at right
  where
    at : ((u : ℕ) → from ≤ u → StandsRight (table_in first.machine) l.machine.lists u) → l ≡ with_lists (placed_all first.machine (thread_numbers first.machine)) first
    at right = so_far.same ∙ ap (λ (ls : List (List ℕ)). with_lists (λ lists. ls) first) (sym (placed_last first.machine from (length first.machine.threads) l.machine.lists right) ∙ so_far.rest)

-- where nobody is named and nothing moves directly, a settling changes nothing
pub settles_nothing : (k : Kernel) → StandFrom k.machine 0 → k.direct ≡ [] → settled_now k ≡ k
settles_nothing k right none =
    let left = ap (λ (x : Kernel). x.machine.lists) (left_in_the_end k k 0 (record { same = refl; rest = refl; off = λ u below out. absurd (omega (arith, below)) }) right) in
    let whole : length k.machine.threads - 0 ≡ length k.machine.threads = omega arith in
    let put = ap (λ (x : Kernel). x.machine.lists) (placed_in_the_end k k 0 (record { same = refl; rest = rw whole refl }) right) in
    let lists : placed_all k.machine (thread_numbers k.machine) (moved_all k.machine k.direct (left_runnable k.machine)) ≡ k.machine.lists =
    ap (λ (ts : List ℕ). placed_all k.machine (thread_numbers k.machine) (moved_all k.machine ts (left_runnable k.machine))) none
    ∙ (ap (placed_all k.machine (thread_numbers k.machine)) (sym left) ∙ sym put) in
    ap (λ (ls : List (List ℕ)). record k { machine = record (k.machine) { lists = ls }; direct = [] }) lists ∙ ap (λ (d : List ℕ). record k { direct = d }) (sym none)
