-- How often a thread stands in a list, and that a list of distinct threads has room for one more.
use Rattle.std.proofs.Common.{◌≡◌, ◌≢◌, ℕ, suc, ◌+◌, ◌<◌, ◌≤◌, true, false, not, ◌==◌, List, [], ◌∷◌, ◌++◌, length, eqb, refl, arith, inl, inr}
use Rattle.std.specs.List.{list_any, IsDistinct, AllByRecursion}
use Rattle.std.specs.Prelude.{All}
use Rattle.std.proofs.lemmas.Map.Keys.{IsDistinct-cons}
use Rattle.std.proofs.lemmas.List.Elements.{All-cons}
use Rattle.std.proofs.lemmas.Bool.Decides.{eqb_tells, nat_tests}
use Rattle.std.proofs.lemmas.Map.Steps.{length-le_from_distinct_below}
use Rattle.rules_lists.specs.Threads.{AreThreads, times, stands_in, without_thread}

pub times-append : (t : ℕ) (xs ys : List ℕ) → times t (xs ++ ys) ≡ times t xs + times t ys
times-append t [] ys = grind arith
times-append t (x ∷ xs) ys = grind (arith, times-append t xs ys)

-- the thread itself is gone
pub times_gone : (t : ℕ) (xs : List ℕ) → times t (without_thread t xs) ≡ 0
times_gone t [] = refl
times_gone t (x ∷ xs) = grind (arith, nat_tests, times_gone t xs)

-- the others are not
pub times_stays : (t u : ℕ) (xs : List ℕ) → u ≢ t → times u (without_thread t xs) ≡ times u xs
times_stays t u [] other = refl
times_stays t u (x ∷ xs) other = grind (arith, nat_tests, times_stays t u xs other)

-- a thread stands in a list where it stands there at least once
pub absent : (t : ℕ) (xs : List ℕ) → stands_in t xs ≡ false → times t xs ≡ 0
absent t [] h = refl
absent t (x ∷ xs) h = grind (arith, nat_tests, absent t xs)

pub present : (t : ℕ) (xs : List ℕ) → stands_in t xs ≡ true → 1 ≤ times t xs
present t [] h = cc
present t (x ∷ xs) h = grind (arith, nat_tests, present t xs)

-- a list without a thread in it stays as it is
pub without_absent : (t : ℕ) (xs : List ℕ) → times t xs ≡ 0 → without_thread t xs ≡ xs
without_absent t [] h = refl
without_absent t (x ∷ xs) h = grind (arith, nat_tests, without_absent t xs)

-- each of a list of numbers that stands there is as small as all of them
small_if_stands : (t : ℕ) (xs : List ℕ) → All (λ u. u < 256) xs → 1 ≤ times t xs → t < 256
small_if_stands t [] small some = absurd (omega arith)
small_if_stands t (x ∷ xs) small some =
    elim (eqb_tells x t) [
      | inl same ↦ (let s : x < 256 = small 0 x (omega arith) in omega arith)
      | inr other ↦ small_if_stands t xs (λ k d lt. small (suc k) d (omega arith)) (grind (arith, nat_tests))
    ]

apart : (t : ℕ) (us : List ℕ) → times t us ≡ 0 → AllByRecursion (λ u. eqb t u ≡ false) us
apart t [] none = tt
apart t (u ∷ us) none = (grind (arith, nat_tests), apart t us (omega arith))

distinct : (us : List ℕ) → ((t : ℕ) → times t us ≤ 1) → IsDistinct eqb us
unfolding IsDistinct
distinct [] once = tt
distinct (u ∷ us) once = IsDistinct-cons eqb u us
    (apart u us (let h = once u in grind (arith, nat_tests)))
    (distinct us (λ t. let h = once t in omega arith))

stands : (t : ℕ) (us : List ℕ) → list_any (eqb t) us ≡ true → 1 ≤ times t us
stands t [] h = cc
stands t (u ∷ us) h = grind (arith, nat_tests, stands t us)

-- a thread before a list in which it does not stand
pub front_ok : (t : ℕ) (us : List ℕ) → t < 256 → AreThreads us → stands_in t us ≡ false → AreThreads (t ∷ us)
front_ok t us known ok none = record {
  once = λ u. grind (arith, nat_tests, absent t us none, ok.once u);
  small = All-cons (λ u. u < 256) t us known ok.small;
}

-- such a list has room for the thread
pub has_room : (t : ℕ) (us : List ℕ) → t < 256 → AreThreads us → stands_in t us ≡ false → length us < 256
has_room t us known ok none =
    let all : AreThreads (t ∷ us) = front_ok t us known ok none in
    let most = length-le_from_distinct_below (t ∷ us) 256 (distinct (t ∷ us) all.once)
    (λ u h. small_if_stands u (t ∷ us) all.small (stands u (t ∷ us) h)) in
    omega arith

-- taking a thread out adds none
pub times_le : (t u : ℕ) (us : List ℕ) → times u (without_thread t us) ≤ times u us
times_le t u us =
    elim (eqb_tells u t) [ inl same ↦ grind (arith, times_gone t us) | inr other ↦ omega (arith, times_stays t u us other.1) ]
