-- A thread that is the tail of its list already.
use Rattle.std.proofs.Common.{◌≡◌, ℕ, zero, suc, ◌+◌, ◌-◌, ◌<◌, ◌≤◌, true, false, Option, None, Some, List, [], ◌∷◌, ◌++◌, length, get_or, set, refl, sym, ap, ◌∙◌, arith, get_or-set_same}
use Rattle.std.specs.Prelude.{is_some, slice_get}
use Rattle.std.proofs.lemmas.Bool.Decides.{nat_tests}
use Rattle.std.proofs.lemmas.List.{set-get_or}
use Rattle.parts_links.specs.Links.{follower, follower_on, stands_in as node_stands}
use Rattle.rules_lists.specs.Threads.{times, without_thread}
use Rattle.rules_lists.proofs.Standing.{without_absent}
use Rattle.rules_lists.specs.Lists.{without, to_tail, times_in_all}
use Rattle.parts_ready.proofs.Places.{without_at, times_at_le}
use Rattle.parts_ready.proofs.Nodes.{present_node, absent_node}

no_first : (xs : List ℕ) → slice_get xs 0 ≡ None → xs ≡ []
no_first [] h = refl
no_first (x ∷ xs) h = cc

-- a thread that nothing follows is the last
last_one : (t : ℕ) (xs : List ℕ) → times t xs ≤ 1 → node_stands t xs ≡ true → follower t xs ≡ None → without_thread t xs ++ t ∷ [] ≡ xs
last_one t [] once stands none = cc
last_one t (x ∷ xs) once stands none = grind (arith, nat_tests, no_first xs, last_one t xs, without_absent t xs)

-- what follows the thread on the one list on which it stands
pub follower_at : (t k : ℕ) (ls : List (List ℕ)) → times_in_all t ls ≤ 1 → node_stands t (get_or ls k []) ≡ true → follower_on t ls ≡ follower t (get_or ls k [])
follower_at t k [] once h = cc
follower_at t zero (xs ∷ ls) once h = grind (arith, nat_tests)
follower_at t (suc k) (xs ∷ ls) once h =
    let here = present_node t (get_or ls k []) h in
    grind (arith, nat_tests, absent_node t xs, times_at_le t ls k, follower_at t k ls)

pub set_again : (ls : List (List ℕ)) (k : ℕ) (a b : List ℕ) → set (set ls k a) k b ≡ set ls k b
set_again [] k a b = refl
set_again (l ∷ ls) zero a b = refl
set_again (l ∷ ls) (suc k) a b = ap (λ (r : List (List ℕ)). l ∷ r) (set_again ls k a b)

-- to make it the tail changes nothing
pub tail_stays : (t p k : ℕ) (ls : List (List ℕ)) → times_in_all t ls ≤ 1 → k + 1 ≡ p → k < length ls → node_stands t (get_or ls k []) ≡ true →
    follower_on t ls ≡ None → to_tail t p ls ≡ ls
tail_stays t p k ls once at lt stands none =
    let xs = get_or ls k [] in
    let place : p - 1 ≡ k = omega (arith, at) in
    let few : times t xs ≤ 1 = omega (arith, times_at_le t ls k, once) in
    let gone : without t ls ≡ set ls k (without_thread t xs) = without_at t ls k once (present_node t xs stands) lt in
    let last : without_thread t xs ++ t ∷ [] ≡ xs = last_one t xs few stands (sym (follower_at t k ls once stands) ∙ none) in
    let there : get_or (set ls k (without_thread t xs)) k [] ≡ without_thread t xs = get_or-set_same ls k (without_thread t xs) [] lt in
    rw (place, gone, there, last, set_again ls k (without_thread t xs) xs) (set-get_or ls k [])

pub none_of : (o : Option ℕ) → is_some o ≡ false → o ≡ None
none_of None h = refl
none_of (Some n) h = cc
