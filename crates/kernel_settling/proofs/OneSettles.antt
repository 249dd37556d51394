-- A settling of one thread: one direct move where nobody is named, or one named thread where nothing moves directly.
use Rattle.std.proofs.Common.{◌≡◌, ◌≢◌, ◌<◌, ◌≤◌, ◌-◌, ◌+◌, ◌∙◌, inl, inr, ℕ, Bool, true, false, List, [], ◌∷◌, None, Option, Some, ap, arith, length, refl, sym}
use Rattle.std.specs.Prelude.{filter, if◌then◌else◌, map, slice_index}
use Rattle.std.proofs.lemmas.Bool.Decides.{eqb_tells, leb_tells}
use Rattle.rules_bodies.specs.declared.cursor.Cursor.{Cursor}
use Rattle.rules_lists.specs.Lists.{prio_of, to_tail, without}
use Rattle.rules_machine.specs.State.{Machine}
use Rattle.rules_machine.specs.Threads.{can_run, thread_numbers}
use Rattle.rules_machine.specs.Priorities.{exec}
use Rattle.rules_machine.specs.Settling.{fell, left_runnable, moved_all, rose, shift_between, shifted, stayed, Shift}
use Rattle.rules_machine.proofs.Standing.{without_length}
use Rattle.kernel_state.specs.Kernel.{Kernel, with_lists}
use Rattle.kernel_settling.specs.Settled.{HavePriorities, left_one, moved, placed, placed_all, settled_now, shifted_from}
use Rattle.kernel_state.specs.Standing.{IsNext, StandFrom, StandsRight, table_in}
use Rattle.kernel_state.proofs.OnLists.{gone_apart, head_apart, tail_apart, tail_there}
use Rattle.kernel_state.proofs.Waits.{runs_known}
use Rattle.kernel_settling.proofs.SettlingSteps.{left_in_the_end, left_same, leaving_on, placed_in_the_end, placing_on}

-- a thread that stands where it stood stands as right as before
as_before : (m : Machine Cursor) (u : ℕ) (lists new : List (List ℕ)) → prio_of u new ≡ prio_of u lists → StandsRight (table_in m) lists u → StandsRight (table_in m) new u
as_before m u lists new same was = record {
  runs = λ p e. was.runs p (sym same ∙ e);
  there = λ p e. was.there p (sym same ∙ e);
}

-- the list of an execution priority is one of the 255
within : (m : Machine Cursor) (t : ℕ) (lists : List (List ℕ)) → HavePriorities m → can_run m t ≡ true → length lists ≡ 255 → exec m t - 1 < length lists
within m t lists fits runs every =
    let some = fits.positive t (runs_known m.threads t runs) in let small = fits.small t in
    omega (arith, some, small, every)

same_some : (p q : ℕ) → Some p ≡ Some q → p ≡ q
same_some p q e = cc

-- ---- one direct move

moved_right : (m : Machine Cursor) (t u : ℕ) (lists : List (List ℕ)) → HavePriorities m → length lists ≡ 255 → StandsRight (table_in m) lists u → StandsRight (table_in m) (moved m t lists) u
moved_right m t u lists fits every right = by_case (can_run m t) refl
  where
    by_case : (b : Bool) → can_run m t ≡ b → StandsRight (table_in m) (if b then to_tail t (exec m t) lists else lists) u
    by_case false off = right
    by_case true runs =
        let small = within m t lists fits runs every in
        elim (eqb_tells u t) [
          | inl same ↦ (let there = tail_there t (exec m t) lists (fits.positive t (runs_known m.threads t runs)) small in rw same.1 (record {
            runs = λ p e. runs;
            there = λ p e. same_some (exec m t) p (sym there ∙ e);
          }))
          | inr other ↦ as_before m u lists (to_tail t (exec m t) lists) (tail_apart t u (exec m t) lists small other.1) right
        ]

-- the lists of a settling, from those that its three steps leave
lists_of : (k : Kernel) (left put : List (List ℕ)) → left_runnable k.machine ≡ left → placed_all k.machine (thread_numbers k.machine) (moved_all k.machine k.direct left) ≡ put →
    settled_now k ≡ record (with_lists (λ lists. put) k) { direct = [] }
lists_of k left put first last =
    ap (λ (ls : List (List ℕ)). record k { machine = record (k.machine) { lists = ls }; direct = [] })
    (ap (λ (ls : List (List ℕ)). placed_all k.machine (thread_numbers k.machine) (moved_all k.machine k.direct ls)) first ∙ last)

-- where all stand right, nobody leaves
none_leave : (k : Kernel) → StandFrom k.machine 0 → left_runnable k.machine ≡ k.machine.lists
none_leave k right =
    sym (ap (λ (x : Kernel). x.machine.lists) (left_in_the_end k k 0 (record { same = refl; rest = refl; off = λ u below out. absurd (omega (arith, below)) }) right))

-- and nobody moves
none_move : (k : Kernel) → StandFrom k.machine 0 → placed_all k.machine (thread_numbers k.machine) k.machine.lists ≡ k.machine.lists
none_move k right =
    let whole : length k.machine.threads - 0 ≡ length k.machine.threads = omega arith in
    sym (ap (λ (x : Kernel). x.machine.lists) (placed_in_the_end k k 0 (record { same = refl; rest = rw whole refl }) right))

pub one_item : (xs : List ℕ) (t : ℕ) → length xs ≡ 1 → t ≡ slice_index xs 0 → xs ≡ t ∷ []
one_item [] t one is = cc
one_item (x ∷ []) t one is = ap (λ (n : ℕ). n ∷ []) (sym is)
one_item (x ∷ y ∷ xs) t one is = absurd (omega (arith, one))

pub one_moves : (k : Kernel) (t : ℕ) → HavePriorities k.machine → StandFrom k.machine 0 → length k.machine.lists ≡ 255 → length k.direct ≡ 1 → t ≡ slice_index k.direct 0 →
    settled_now k ≡ with_lists (moved k.machine t) (record k { direct = [] })
one_moves k t fits right every one is =
    let lists = k.machine.lists in
    let direct : k.direct ≡ t ∷ [] = one_item k.direct t one is in
    let after = with_lists (moved k.machine t) k in
    let stays : placed_all k.machine (thread_numbers k.machine) (moved k.machine t lists) ≡ moved k.machine t lists =
    none_move after (λ u low. moved_right k.machine t u lists fits every (right u low)) in
    lists_of k lists (moved k.machine t lists) (none_leave k right) (ap (λ (ts : List ℕ). placed_all k.machine (thread_numbers k.machine) (moved_all k.machine ts lists)) direct ∙ stays)

-- ---- one named thread

-- another thread stands where it stood
left_apart : (m : Machine Cursor) (t u : ℕ) (lists : List (List ℕ)) → u ≢ t → prio_of u (left_one m t lists) ≡ prio_of u lists
left_apart m t u lists other = by_case (can_run m t)
  where
    by_case : (b : Bool) → prio_of u (if b then lists else without t lists) ≡ prio_of u lists
    by_case true = refl
    by_case false = gone_apart t u lists other

shifted_apart : (s : Shift) (t u p : ℕ) (lists : List (List ℕ)) → p - 1 < length lists → u ≢ t → prio_of u (shifted s t p lists) ≡ prio_of u lists
shifted_apart rose t u p lists small other = tail_apart t u p lists small other
shifted_apart fell t u p lists small other = head_apart t u p lists small other
shifted_apart stayed t u p lists small other = refl

from_apart : (o : Option ℕ) (t u p : ℕ) (lists : List (List ℕ)) → p - 1 < length lists → u ≢ t → prio_of u (shifted_from o t p lists) ≡ prio_of u lists
from_apart None t u p lists small other = refl
from_apart (Some before) t u p lists small other = shifted_apart (shift_between before p) t u p lists small other

placed_apart : (m : Machine Cursor) (t u : ℕ) (lists : List (List ℕ)) → HavePriorities m → length lists ≡ 255 → u ≢ t → prio_of u (placed m t lists) ≡ prio_of u lists
placed_apart m t u lists fits every other = by_case (can_run m t) refl
  where
    by_case : (b : Bool) → can_run m t ≡ b → prio_of u (if b then shifted_from (prio_of t lists) t (exec m t) lists else lists) ≡ prio_of u lists
    by_case false off = refl
    by_case true runs = from_apart (prio_of t lists) t u (exec m t) lists (within m t lists fits runs every) other

left_length : (m : Machine Cursor) (t : ℕ) (lists : List (List ℕ)) → length (left_one m t lists) ≡ length lists
left_length m t lists = by_case (can_run m t)
  where
    by_case : (b : Bool) → length (if b then lists else without t lists) ≡ length lists
    by_case true = refl
    by_case false = without_length t lists

later_other : (t u : ℕ) → t + 1 ≤ u → u ≢ t
later_other t u low same = omega (arith, low, same)

earlier_other : (t u : ℕ) → u < t → u ≢ t
earlier_other t u small same = omega (arith, small, same)

-- where it alone is named, no other leaves
one_leaves : (k : Kernel) (t : ℕ) → IsNext k.machine 0 t → StandFrom k.machine (t + 1) → left_runnable k.machine ≡ left_one k.machine t k.machine.lists
one_leaves k t next right =
    let m = k.machine in let lists = m.lists in let left = left_one m t lists in let x = with_lists (λ ls. left) k in
    let leaving = leaving_on k k x 0 t (record { same = refl; rest = refl; off = λ u below out. absurd (omega (arith, below)) }) next refl in
    let after : StandFrom x.machine (t + 1) = (λ u low. as_before m u lists left (left_apart m t u lists (later_other t u low)) (right u low)) in
    sym (ap (λ (z : Kernel). z.machine.lists) (left_in_the_end k x (t + 1) leaving after))

risen_right : (m : Machine Cursor) (t u : ℕ) (lists : List (List ℕ)) → HavePriorities m → length lists ≡ 255 → can_run m t ≡ true → (u ≢ t → StandsRight (table_in m) lists u) →
    StandsRight (table_in m) (to_tail t (exec m t) lists) u
risen_right m t u lists fits every runs right =
    let small = within m t lists fits runs every in
    elim (eqb_tells u t) [
      | inl same ↦ (let there = tail_there t (exec m t) lists (fits.positive t (runs_known m.threads t runs)) small in rw same.1 (record {
        runs = λ p e. runs;
        there = λ p e. same_some (exec m t) p (sym there ∙ e);
      }))
      | inr other ↦ as_before m u lists (to_tail t (exec m t) lists) (tail_apart t u (exec m t) lists small other.1) (right other.1)
    ]

others_right : (m : Machine Cursor) (t u : ℕ) → IsNext m 0 t → StandFrom m (t + 1) → u ≢ t → StandsRight (table_in m) m.lists u
others_right m t u next right other = elim (leb_tells (t + 1) u) [
  | inl later ↦ right u later.1
  | inr earlier ↦ next.between u (omega arith) (omega (arith, earlier.1, other))
]

-- it can run again, and it alone moves directly
pub one_rises : (k : Kernel) (t : ℕ) → HavePriorities k.machine → IsNext k.machine 0 t → StandFrom k.machine (t + 1) → length k.machine.lists ≡ 255 → k.direct ≡ t ∷ [] → can_run k.machine t ≡ true →
    settled_now k ≡ with_lists (to_tail t (exec k.machine t)) (record k { direct = [] })
one_rises k t fits next right every direct runs =
    let m = k.machine in let lists = m.lists in let put = to_tail t (exec m t) lists in
    let stays : left_runnable m ≡ lists = one_leaves k t next right ∙ ap (λ (b : Bool). if b then lists else without t lists) runs in
    let last : placed_all m (thread_numbers m) put ≡ put =
    none_move (with_lists (to_tail t (exec m t)) k) (λ u low. risen_right m t u lists fits every runs (others_right m t u next right)) in
    lists_of k lists put stays
    (ap (λ (ts : List ℕ). placed_all m (thread_numbers m) (moved_all m ts lists)) direct
    ∙ ap (λ (b : Bool). placed_all m (thread_numbers m) (if b then put else lists)) runs ∙ last)

pub one_settles : (k : Kernel) (t : ℕ) → HavePriorities k.machine → IsNext k.machine 0 t → StandFrom k.machine (t + 1) → length k.machine.lists ≡ 255 → k.direct ≡ [] →
    settled_now k ≡ with_lists (λ lists. placed k.machine t (left_one k.machine t lists)) k
one_settles k t fits next right every none =
    let m = k.machine in let lists = m.lists in
    let left = left_one m t lists in let put = placed m t left in
    let x = with_lists (λ ls. left) k in let y = with_lists (λ ls. put) k in
    let long : length left ≡ 255 = left_length m t lists ∙ every in
    let after : StandFrom x.machine (t + 1) = (λ u low. as_before m u lists left (left_apart m t u lists (later_other t u low)) (right u low)) in
    let all_left : left_runnable m ≡ left = one_leaves k t next right in
    let whole : length m.threads - 0 ≡ length m.threads = omega arith in
    let again : IsNext x.machine 0 t = record {
      low = next.low;
      known = next.known;
      between = λ u low small. as_before m u lists left (left_apart m t u lists (earlier_other t u small)) (next.between u low small);
    } in
    let placing = placing_on x x y 0 t (record { same = refl; rest = rw whole refl }) again refl in
    let last : StandFrom y.machine (t + 1) = (λ u low. as_before m u left put (placed_apart m t u left fits long (later_other t u low)) (after u low)) in
    let all_put : placed_all m (thread_numbers m) left ≡ put = sym (ap (λ (z : Kernel). z.machine.lists) (placed_in_the_end x y (t + 1) placing last)) in
    lists_of k left put all_left (ap (λ (ts : List ℕ). placed_all m (thread_numbers m) (moved_all m ts left)) none ∙ all_put)
    ∙ ap (λ (d : List ℕ). record y { direct = d }) (sym none)

pub no_items : (xs : List ℕ) → length xs ≡ 0 → xs ≡ []
no_items [] none = refl
no_items (x ∷ xs) none = absurd (omega (arith, none))

-- ---- one that leaves first

-- a thread that is not runnable may leave before the others are settled
pub still_settled : (k : Kernel) (t : ℕ) → can_run k.machine t ≡ false → settled_now (with_lists (without t) k) ≡ settled_now k
still_settled k t off =
    let m = k.machine in
    let gone : left_one m t m.lists ≡ without t m.lists = ap (λ (b : Bool). if b then m.lists else without t m.lists) off in
    let left : map (filter (can_run m)) (without t m.lists) ≡ left_runnable m = ap (λ (ls : List (List ℕ)). map (filter (can_run m)) ls) (sym gone) ∙ left_same m t m.lists in
    ap (λ (ls : List (List ℕ)). record k { machine = record m { lists = placed_all m (thread_numbers m) (moved_all m k.direct ls) }; direct = [] }) left
