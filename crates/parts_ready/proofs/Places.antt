-- Where threads stand after a change of the lists, and that the bitmap marks the lists that are not empty.
use Rattle.std.proofs.Common.{is_some, ◌≡◌, ℕ, zero, suc, ◌+◌, ◌<◌, ◌≤◌, Bool, true, false, ◌==◌, nat_lt, List, [], ◌∷◌, ◌++◌, length, get_or, set, refl, arith, sym, ◌∙◌, if◌then◌else◌, inl, inr}
use Rattle.std.specs.Option.{option_or}
use Rattle.std.specs.Prelude.{Some, None, slice_get, Option, IfSome}
use Rattle.std.proofs.Math.ListN.{length-set}
use Rattle.std.proofs.lemmas.List.{get_or-set_same, get_or-set_other}
use Rattle.std.proofs.lemmas.Grind.{common_steps}
use Rattle.std.proofs.lemmas.Bool.Decides.{nat_tests, eqb_tells}
use Rattle.rules_lists.specs.Threads.{times, stands_in, without_thread}
use Rattle.rules_lists.proofs.Standing.{times-append, times_gone, times_le, absent, present, without_absent}
use Rattle.parts_ready.specs.Bits.{is_set, ChangesBit, NoneIsSet}
use Rattle.rules_lists.specs.Lists.{ReadyLists, AreReadyLists, without, highest, prio_from, times_in_all}

-- ---- where a thread stands

pub times_gone_in_all : (t : ℕ) (lists : List (List ℕ)) → times_in_all t (without t lists) ≡ 0
times_gone_in_all t [] = refl
times_gone_in_all t (list ∷ lists) = grind (arith, times_gone t list, times_gone_in_all t lists)

times_in_all_le : (t u : ℕ) (lists : List (List ℕ)) → times_in_all u (without t lists) ≤ times_in_all u lists
times_in_all_le t u [] = omega arith
times_in_all_le t u (list ∷ lists) = omega (arith, times_le t u list, times_in_all_le t u lists)

times_in_all-set : (t : ℕ) (lists : List (List ℕ)) (i : ℕ) (list : List ℕ) → i < length lists →
    times_in_all t (set lists i list) + times t (get_or lists i []) ≡ times_in_all t lists + times t list
times_in_all-set t [] i list lt = absurd (omega arith)
times_in_all-set t (l ∷ ls) zero list lt = grind arith
times_in_all-set t (l ∷ ls) (suc i) list lt = grind (arith, times_in_all-set t ls i list (omega arith))

length-without : (t : ℕ) (lists : List (List ℕ)) → length (without t lists) ≡ length lists
length-without t lists = grind (arith, common_steps)

pub times_at_le : (t : ℕ) (lists : List (List ℕ)) (i : ℕ) → times t (get_or lists i []) ≤ times_in_all t lists
times_at_le t [] i = omega arith
times_at_le t (list ∷ lists) zero = omega arith
times_at_le t (list ∷ lists) (suc i) = omega (arith, times_at_le t lists i)

-- ---- the list on which a thread stands

-- the place of a list on which the thread stands, where the list of place 0 is that of the priority q
record Place (q t p : ℕ) (lists : List (List ℕ)) : Type 0 where
  at : ℕ
  is : p ≡ q + at
  within : at < length lists
  stands : 1 ≤ times t (get_or lists at [])

not_here : (here : Bool) (q : ℕ) (later : Option ℕ) → (if here then Some q else later) ≡ None → (here ≡ false) × (later ≡ None)
not_here true q later h = cc
not_here false q later h = (refl, h)

prio_from_none : (q t : ℕ) (lists : List (List ℕ)) → prio_from q t lists ≡ None → times_in_all t lists ≡ 0
prio_from_none q t [] h = refl
prio_from_none q t (list ∷ lists) h =
    let not = not_here (stands_in t list) q (prio_from (q + 1) t lists) h in
    omega (arith, absent t list not.0, prio_from_none (q + 1) t lists not.1)

here_or_later : (here : Bool) (q t p : ℕ) (list : List ℕ) (lists : List (List ℕ)) (later : Option ℕ) → stands_in t list ≡ here →
    (if here then Some q else later) ≡ Some p → (later ≡ Some p → Place (q + 1) t p lists) → Place q t p (list ∷ lists)
here_or_later true q t p list lists later stands h place = record {
  at = 0;
  is = (let e : q ≡ p = cc in omega arith);
  within = omega arith;
  stands = present t list stands;
}
here_or_later false q t p list lists later stands h place =
    let there = place h in
    record { at = suc there.at; is = omega arith; within = omega arith; stands = there.stands }

prio_from_some : (q t p : ℕ) (lists : List (List ℕ)) → prio_from q t lists ≡ Some p → Place q t p lists
prio_from_some q t p [] h = cc
prio_from_some q t p (list ∷ lists) h =
    here_or_later (stands_in t list) q t p list lists (prio_from (q + 1) t lists) refl h (prio_from_some (q + 1) t p lists)

-- a thread that stands nowhere is already gone
pub without_nowhere : (t : ℕ) (lists : List (List ℕ)) → times_in_all t lists ≡ 0 → without t lists ≡ lists
without_nowhere t [] none = refl
without_nowhere t (list ∷ lists) none =
    let first : without_thread t list ≡ list = without_absent t list (omega arith) in
    let others : without t lists ≡ lists = without_nowhere t lists (omega arith) in
    rw (first, others) refl

-- a thread that stands on one list is taken from there alone
pub without_at : (t : ℕ) (lists : List (List ℕ)) (i : ℕ) → times_in_all t lists ≤ 1 → 1 ≤ times t (get_or lists i []) → i < length lists →
    without t lists ≡ set lists i (without_thread t (get_or lists i []))
without_at t [] i once stands lt = absurd (omega arith)
without_at t (list ∷ lists) zero once stands lt =
    let others : without t lists ≡ lists = without_nowhere t lists (omega arith) in
    rw others refl
without_at t (list ∷ lists) (suc i) once stands lt =
    let first : without_thread t list ≡ list = without_absent t list (omega (arith, times_at_le t lists i)) in
    let others : without t lists ≡ set lists i (without_thread t (get_or lists i [])) =
    without_at t lists i (omega arith) stands (omega arith) in
    rw (first, others) refl

-- ---- the lists stay in order

pub without_ok : (r : ReadyLists) (t : ℕ) → AreReadyLists r → AreReadyLists (record r { lists = without t r.lists })
without_ok r t ok = record {
  few_threads = ok.few_threads;
  each_priority = length-without t r.lists ∙ ok.each_priority;
  once = λ u. omega (arith, times_in_all_le t u r.lists, ok.once u);
  known = λ u h. ok.known u (omega (arith, times_in_all_le t u r.lists));
}

-- a thread that stood nowhere now stands on one list
put_ok : (r : ReadyLists) (t i : ℕ) (list : List ℕ) → AreReadyLists r → t < r.threads → times_in_all t r.lists ≡ 0 → i < 255 →
    ((u : ℕ) → times u list ≡ times u (get_or r.lists i []) + (if u == t then 1 else 0)) → AreReadyLists (record r { lists = set r.lists i list })
put_ok r t i list ok known none within adds =
    let lt : i < length r.lists = omega arith in
    record {
      few_threads = ok.few_threads;
      each_priority = length-set r.lists i list ∙ ok.each_priority;
      once = λ u. grind (arith, nat_tests, times_in_all-set u r.lists i list lt, adds u, ok.once u, none);
      known = λ u h. grind (arith, nat_tests, times_in_all-set u r.lists i list lt, adds u, ok.known u, none);
    }

pub at_tail : (r : ReadyLists) (t i : ℕ) (old : List (List ℕ)) → AreReadyLists r → t < r.threads → r.lists ≡ without t old → i < 255 →
    AreReadyLists (record r { lists = set r.lists i (get_or r.lists i [] ++ t ∷ []) })
at_tail r t i old ok known removed within =
    let none : times_in_all t r.lists ≡ 0 = rw removed (times_gone_in_all t old) in
    put_ok r t i (get_or r.lists i [] ++ t ∷ []) ok known none within
    (λ u. grind (arith, nat_tests, times-append u (get_or r.lists i []) (t ∷ [])))

pub at_head : (r : ReadyLists) (t i : ℕ) (old : List (List ℕ)) → AreReadyLists r → t < r.threads → r.lists ≡ without t old → i < 255 →
    AreReadyLists (record r { lists = set r.lists i (t ∷ get_or r.lists i []) })
at_head r t i old ok known removed within =
    let none : times_in_all t r.lists ≡ 0 = rw removed (times_gone_in_all t old) in
    put_ok r t i (t ∷ get_or r.lists i []) ok known none within (λ u. grind (arith, nat_tests))

-- ---- the bitmap

pub tail_marks : (t : ℕ) (list : List ℕ) → true ≡ nat_lt 0 (length (list ++ t ∷ []))
tail_marks t list = grind (arith, nat_tests, common_steps)

pub head_marks : (t : ℕ) (list : List ℕ) → true ≡ nat_lt 0 (length (t ∷ list))
head_marks t list = grind (arith, nat_tests, common_steps)

pub first_marks : (list : List ℕ) → is_some (slice_get list 0) ≡ nat_lt 0 (length list)
first_marks [] = refl
first_marks (t ∷ list) = grind (arith, nat_tests, common_steps)

-- one list has changed, and its bit
pub marked_after : (lists : List (List ℕ)) (old new : List ℕ) (i : ℕ) (bit : Bool) (list : List ℕ) →
    ((k : ℕ) → is_set k old ≡ nat_lt 0 (length (get_or lists k []))) → ChangesBit i bit old new → i < length lists →
    bit ≡ nat_lt 0 (length list) → (k : ℕ) → is_set k new ≡ nat_lt 0 (length (get_or (set lists i list) k []))
marked_after lists old new i bit list marked changes lt is k =
    elim (eqb_tells k i) [
      | inl same ↦ (let e : k ≡ i = omega arith in rw (e, get_or-set_same lists i list [] lt) (changes.changed ∙ is))
      | inr other ↦ rw (get_or-set_other lists i k list [] other.1) (changes.others k other.1 ∙ marked k)
    ]

-- ---- the highest list

-- a list that is not empty is one of the lists
pub inside : (lists : List (List ℕ)) (i : ℕ) → 0 < length (get_or lists i []) → i < length lists
inside [] i some = absurd (omega arith)
inside (list ∷ lists) zero some = omega arith
inside (list ∷ lists) (suc i) some = omega (arith, inside lists i some)

highest_none : (lists : List (List ℕ)) → ((k : ℕ) → get_or lists k [] ≡ []) → highest lists ≡ None
highest_none [] empty = refl
highest_none (list ∷ lists) empty =
    let first : list ≡ [] = empty 0 in
    let higher : highest lists ≡ None = highest_none lists (λ k. empty (suc k)) in
    rw (first, higher) refl

first_or : (threads : List ℕ) (lower : Option ℕ) → 0 < length threads → option_or (slice_get threads 0) lower ≡ slice_get threads 0
first_or [] lower some = absurd (omega arith)
first_or (t ∷ threads) lower some = refl

pub highest_at : (lists : List (List ℕ)) (i : ℕ) → 0 < length (get_or lists i []) → ((k : ℕ) → i < k → get_or lists k [] ≡ []) →
    highest lists ≡ slice_get (get_or lists i []) 0
highest_at [] i some above = absurd (omega arith)
highest_at (list ∷ lists) zero some above =
    let higher : highest lists ≡ None = highest_none lists (λ k. above (suc k) (omega arith)) in
    rw higher refl
highest_at (list ∷ lists) (suc i) some above =
    let higher : highest lists ≡ slice_get (get_or lists i []) 0 = highest_at lists i some (λ k lt. above (suc k) (omega arith)) in
    rw higher (first_or (get_or lists i []) (slice_get list 0) some)

pub is_empty : (threads : List ℕ) → nat_lt 0 (length threads) ≡ false → threads ≡ []
is_empty [] h = refl
is_empty (t ∷ threads) h = absurd (grind (arith, nat_tests, h))

pub highest_unmarked : (lists : List (List ℕ)) (words : List ℕ) →
    ((k : ℕ) → is_set k words ≡ nat_lt 0 (length (get_or lists k []))) → NoneIsSet words → highest lists ≡ None
highest_unmarked lists words marked none =
    highest_none lists (λ k. is_empty (get_or lists k []) (sym (marked k) ∙ none k))

first_stands : (list : List ℕ) (t : ℕ) → slice_get list 0 ≡ Some t → 1 ≤ times t list
first_stands [] t e = cc
first_stands (u ∷ us) t e = grind (arith, nat_tests)

stands_or : (o : Option ℕ) (list : List ℕ) (t n : ℕ) → (o ≡ Some t → 1 ≤ n) → option_or o (slice_get list 0) ≡ Some t →
    1 ≤ times t list + n
stands_or None list t n above e = omega (arith, first_stands list t e)
stands_or (Some u) list t n above e = omega (arith, above e)

-- the head of the highest list stands there
highest_stands : (lists : List (List ℕ)) (t : ℕ) → highest lists ≡ Some t → 1 ≤ times_in_all t lists
highest_stands [] t e = cc
highest_stands (list ∷ lists) t e =
    stands_or (highest lists) list t (times_in_all t lists) (λ h. highest_stands lists t h) e

pub head_known : (r : ReadyLists) (head : Option ℕ) → AreReadyLists r → head ≡ highest r.lists → IfSome head (λ t. t < r.threads)
head_known r None ok e = tt
head_known r (Some t) ok e = ok.known t (highest_stands r.lists t (sym e))
