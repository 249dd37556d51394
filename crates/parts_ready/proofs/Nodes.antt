-- Lists as links tell of them, and as threads are counted on them.
use Rattle.std.specs.Prelude.{MatchOption}
use Rattle.std.proofs.Common.{replicate, nat_lt, ◌≡◌, ℕ, zero, suc, ◌+◌, ◌<◌, ◌≤◌, true, false, Option, Some, None, List, [], ◌∷◌, length, map, set, get_or, refl, sym, ap, ◌∙◌, arith, get_or-set_same}
use Rattle.std.proofs.lemmas.Bool.Decides.{nat_tests}
use Rattle.parts_links.specs.Links.{on_a_list, stands_in as node_stands, without as without_node}
use Rattle.rules_lists.specs.Threads.{times, stands_in, without_thread}
use Rattle.rules_lists.proofs.Standing.{without_absent}
use Rattle.parts_ready.specs.Bits.{is_set, NoneIsSet}
use Rattle.rules_lists.specs.Lists.{AreReadyLists, without, prio_from, times_in_all}
use Rattle.parts_ready.proofs.Places.{without_at, times_at_le}

stands_same : (t : ℕ) (xs : List ℕ) → node_stands t xs ≡ stands_in t xs
stands_same t [] = refl
stands_same t (x ∷ xs) = grind (arith, nat_tests, stands_same t xs)

pub present_node : (t : ℕ) (xs : List ℕ) → node_stands t xs ≡ true → 1 ≤ times t xs
present_node t [] h = cc
present_node t (x ∷ xs) h = grind (arith, nat_tests, present_node t xs)

pub absent_node : (t : ℕ) (xs : List ℕ) → times t xs ≡ 0 → node_stands t xs ≡ false
absent_node t [] h = refl
absent_node t (x ∷ xs) h = grind (arith, nat_tests, absent_node t xs)

absent_times : (t : ℕ) (xs : List ℕ) → node_stands t xs ≡ false → times t xs ≡ 0
absent_times t [] h = refl
absent_times t (x ∷ xs) h = grind (arith, nat_tests, absent_times t xs)

-- a thread that is counted nowhere stands on no list, and the other way round
pub off_lists : (t : ℕ) (ls : List (List ℕ)) → times_in_all t ls ≡ 0 → on_a_list t ls ≡ false
off_lists t [] h = refl
off_lists t (xs ∷ ls) h = grind (arith, nat_tests, absent_node t xs, off_lists t ls)

pub times_off : (t : ℕ) (ls : List (List ℕ)) → on_a_list t ls ≡ false → times_in_all t ls ≡ 0
times_off t [] h = refl
times_off t (xs ∷ ls) h = grind (arith, nat_tests, absent_times t xs, times_off t ls)

pub on_at : (t k : ℕ) (ls : List (List ℕ)) → node_stands t (get_or ls k []) ≡ true → on_a_list t ls ≡ true
on_at t k [] h = cc
on_at t zero (xs ∷ ls) h = grind (arith, nat_tests)
on_at t (suc k) (xs ∷ ls) h = grind (arith, nat_tests, on_at t k ls)

-- where a thread stands at most once, links take out what threads are taken out
same_without : (t : ℕ) (xs : List ℕ) → times t xs ≤ 1 → without_node t xs ≡ without_thread t xs
same_without t [] once = refl
same_without t (x ∷ xs) once = grind (arith, nat_tests, without_absent t xs, same_without t xs)

pub all_without : (t : ℕ) (ls : List (List ℕ)) → times_in_all t ls ≤ 1 → map (without_node t) ls ≡ without t ls
all_without t [] once = refl
all_without t (xs ∷ ls) once = grind (arith, same_without t xs, all_without t ls)

-- the priority of a thread by the list on which it stands
pub prio_none : (q t : ℕ) (ls : List (List ℕ)) → on_a_list t ls ≡ false → prio_from q t ls ≡ None
prio_none q t [] h = refl
prio_none q t (xs ∷ ls) h = grind (arith, stands_same t xs, prio_none (q + 1) t ls)

pub prio_at : (q t k : ℕ) (ls : List (List ℕ)) → times_in_all t ls ≤ 1 → node_stands t (get_or ls k []) ≡ true → prio_from q t ls ≡ Some (q + k)
prio_at q t k [] once h = cc
prio_at q t zero (xs ∷ ls) once h = grind (arith, stands_same t xs)
prio_at q t (suc k) (xs ∷ ls) once h =
    let here = present_node t (get_or ls k []) h in
    grind (arith, stands_same t xs, absent_node t xs, times_at_le t ls k, prio_at (q + 1) t k ls)

-- one list alone changes where a thread is taken out
pub one_changes : (t k : ℕ) (ls : List (List ℕ)) → times_in_all t ls ≤ 1 → k < length ls → node_stands t (get_or ls k []) ≡ true →
    set ls k (get_or (without t ls) k []) ≡ without t ls
one_changes t k ls once lt h =
    let e = without_at t ls k once (present_node t (get_or ls k []) h) lt in
    let new = without_thread t (get_or ls k []) in
    let same : get_or (without t ls) k [] ≡ new = ap (λ (l : List (List ℕ)). get_or l k []) e ∙ get_or-set_same ls k new [] lt in
    ap (set ls k) same ∙ sym e

-- ---- lists without a thread

times_empty : (t n : ℕ) → times_in_all t (replicate n []) ≡ 0
times_empty t zero = refl
times_empty t (suc n) = omega (arith, times_empty t n)

get_empty : (n k : ℕ) → get_or {A = List ℕ} (replicate n []) k [] ≡ []
get_empty zero k = refl
get_empty (suc n) zero = refl
get_empty (suc n) (suc k) = get_empty n k

length_empty : (n : ℕ) → length {A = List ℕ} (replicate n []) ≡ n
length_empty zero = refl
length_empty (suc n) = ap suc (length_empty n)

pub empty_ok : (threads : ℕ) (lists : List (List ℕ)) → threads ≤ 256 → lists ≡ replicate 255 [] → AreReadyLists (record { threads = threads; lists = lists })
empty_ok threads lists few e = rw e (record {
  few_threads = few;
  each_priority = length_empty 255;
  once = λ t. omega (arith, times_empty t 255);
  known = λ t h. absurd (omega (arith, times_empty t 255, h));
})

pub empty_marks : (lists : List (List ℕ)) (words : List ℕ) → lists ≡ replicate 255 [] → NoneIsSet words → (k : ℕ) → is_set k words ≡ nat_lt 0 (length (get_or lists k []))
empty_marks lists words e none k = none k ∙ ap (λ (xs : List ℕ). nat_lt 0 (length xs)) (sym (ap (λ (ls : List (List ℕ)). get_or ls k []) e ∙ get_empty 255 k))

-- ---- numbers that are given back as threads and priorities

pub thread_given : (o : Option ℕ) (n : ℕ) → MatchOption o (256 ≤ n) (λ t. (t ≡ n) × (n < 256)) → n < 256 → o ≡ Some n
thread_given None n m l = absurd (omega (arith, m, l))
thread_given (Some t) n m l = ap Some m.0

pub prio_given : (o : Option ℕ) (n : ℕ) → MatchOption o (n + 1 ≡ 0) (λ p. (p ≡ n + 1) × (1 ≤ n + 1)) → o ≡ Some (1 + n)
prio_given None n m = absurd (omega (arith, m))
prio_given (Some p) n m = ap Some (omega (arith, m.0))
