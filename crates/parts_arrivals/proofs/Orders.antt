-- Lists of nodes, and the orders that are seen of them.
use Rattle.std.specs.List.{AllByRecursion}
use Rattle.std.proofs.Common.{◌≡◌, ◌≢◌, ⊎_elim, ℕ, zero, suc, ◌+◌, ◌<◌, ◌==◌, true, false, List, [], ◌∷◌, ◌++◌, length, set, get_or, slice_get, if◌then◌else◌, refl, ap, ◌∙◌, arith}
use Rattle.std.proofs.lemmas.List.{get_or-set_same, get_or-set_other}
use Rattle.std.proofs.lemmas.Bool.Decides.{nat_tests}
use Rattle.parts_links.specs.Links.{stands_in, on_a_list, without, follower, IsApart, AreDistinct as AreApart}
use Rattle.parts_links.proofs.Standing.{of_back, absent_same}
use Rattle.parts_arrivals.specs.Arrivals.{Arrival, AreDistinct, IsArrival, first_of_rank, has_come, next_in_order, next_of_rank, of_rank, oldest, without_node}
use Rattle.parts_arrivals.specs.Held.{arrival, first_nodes, order_of}

-- ---- the free nodes at the start

pub length_back : (n : ℕ) (xs : List ℕ) → length (xs ++ n ∷ []) ≡ suc (length xs)
length_back n [] = refl
length_back n (x ∷ xs) = ap suc (length_back n xs)

pub length_first : (n : ℕ) → length (first_nodes n) ≡ n
length_first zero = refl
length_first (suc n) = length_back n (first_nodes n) ∙ ap suc (length_first n)

pub below_first : (m n : ℕ) → stands_in m (first_nodes n) ≡ true → m < n
below_first m zero h = cc
below_first m (suc n) h = ⊎_elim (λ t. omega (arith, below_first m n t)) (λ e. omega (arith, e)) (of_back n m (first_nodes n) h)

pub no_if : (b : _) → (b ≡ true → ⊥) → b ≡ false
no_if true h = absurd (h refl)
no_if false h = refl

pub off_first : (n : ℕ) → on_a_list n ([] ∷ first_nodes n ∷ []) ≡ false
off_first n =
    let no : stands_in n (first_nodes n) ≡ false = no_if (stands_in n (first_nodes n)) (λ t. let l = below_first n n t in omega (arith, l)) in
    ap (λ b. if b then true else false) no

-- ---- the order of a list of nodes

pub come_is : (ranks : List ℕ) (n : ℕ) (ns : List ℕ) → has_come n (order_of ranks ns) ≡ stands_in n ns
come_is ranks n [] = refl
come_is ranks n (x ∷ ns) = ap (λ b. if x == n then true else b) (come_is ranks n ns)

pub without_is : (ranks : List ℕ) (n : ℕ) (ns : List ℕ) → without_node n (order_of ranks ns) ≡ order_of ranks (without n ns)
without_is ranks n [] = refl
without_is ranks n (x ∷ ns) = let e : without_node n (order_of ranks ns) ≡ order_of ranks (without n ns) = without_is ranks n ns in grind (arith, nat_tests, e)

kept_rank : (ranks : List ℕ) (n r : ℕ) (ns : List ℕ) → stands_in n ns ≡ false → order_of (set ranks n r) ns ≡ order_of ranks ns
kept_rank ranks n r [] h = refl
kept_rank ranks n r (x ∷ ns) h =
    let other : x ≢ n = grind (arith, nat_tests, h) in
    let later : stands_in n ns ≡ false = grind (arith, nat_tests, h) in
    let here : get_or (set ranks n r) x 0 ≡ get_or ranks x 0 = get_or-set_other ranks n x r 0 other in
    let rest : order_of (set ranks n r) ns ≡ order_of ranks ns = kept_rank ranks n r ns later in
    rw (here, rest) refl

order_back : (ranks : List ℕ) (n : ℕ) (ns : List ℕ) → order_of ranks (ns ++ n ∷ []) ≡ order_of ranks ns ++ arrival ranks n ∷ []
order_back ranks n [] = refl
order_back ranks n (x ∷ ns) = ap (λ order. arrival ranks x ∷ order) (order_back ranks n ns)

-- a node comes as the youngest
pub order_with : (ranks : List ℕ) (n r : ℕ) (ns : List ℕ) → n < length ranks → stands_in n ns ≡ false →
    order_of (set ranks n r) (ns ++ n ∷ []) ≡ order_of ranks ns ++ record { node = n; rank = r } ∷ []
order_with ranks n r ns known fresh =
    let here : get_or (set ranks n r) n 0 ≡ r = get_or-set_same ranks n r 0 known in
    let rest : order_of (set ranks n r) ns ≡ order_of ranks ns = kept_rank ranks n r ns fresh in
    order_back (set ranks n r) n ns ∙ rw (here, rest) refl

pub length_order : (ranks ns : List ℕ) → length (order_of ranks ns) ≡ length ns
length_order ranks [] = refl
length_order ranks (x ∷ ns) = ap suc (length_order ranks ns)

-- ---- what is read of an order by age

pub oldest_is : (ranks ns : List ℕ) → oldest (order_of ranks ns) ≡ slice_get ns 0
oldest_is ranks [] = refl
oldest_is ranks (x ∷ ns) = refl

pub after_is : (ranks : List ℕ) (n : ℕ) (ns : List ℕ) → next_in_order n (order_of ranks ns) ≡ follower n ns
after_is ranks n [] = refl
after_is ranks n (x ∷ ns) =
    let first = oldest_is ranks ns in let later = after_is ranks n ns in
    ap (λ o. if x == n then o else next_in_order n (order_of ranks ns)) first ∙ ap (λ o. if x == n then slice_get ns 0 else o) later

apart_not : (n : ℕ) (ns : List ℕ) → IsApart n ns → stands_in n ns ≡ false
apart_not n [] h = refl
apart_not n (x ∷ ns) h =
    let other : n ≢ x = h.0 in let later : stands_in n ns ≡ false = apart_not n ns h.1 in
    grind (arith, nat_tests, other, later)

pub distinct_order : (ranks ns : List ℕ) → AreApart ns → AreDistinct (order_of ranks ns)
distinct_order ranks [] h = tt
distinct_order ranks (x ∷ ns) h = (come_is ranks x ns ∙ apart_not x ns h.0, distinct_order ranks ns h.1)

pub each_arrival : (ranks : List ℕ) (nodes : ℕ) (ns : List ℕ) → ((n : ℕ) → stands_in n ns ≡ true → n < nodes) → ((n : ℕ) → get_or ranks n 0 < 32) →
    AllByRecursion (IsArrival nodes) (order_of ranks ns)
each_arrival ranks nodes [] below small = tt
each_arrival ranks nodes (x ∷ ns) below small = (
  record { node = below x (grind (arith, nat_tests)); rank = small x },
  each_arrival ranks nodes ns (λ n h. below n (grind (arith, nat_tests, h))) small,
)

-- ---- what is read of it by rank

pub first_is : (rank : ℕ) (order : List Arrival) → first_of_rank rank order ≡ slice_get (of_rank rank order) 0
first_is rank [] = refl
first_is rank (a ∷ order) = let e : first_of_rank rank order ≡ slice_get (of_rank rank order) 0 = first_is rank order in grind (arith, nat_tests, e)

-- a node that has come stands among those of its rank alone
pub in_rank : (ranks : List ℕ) (n rank : ℕ) (ns : List ℕ) → stands_in n ns ≡ true → get_or ranks n 0 ≡ rank → stands_in n (of_rank rank (order_of ranks ns)) ≡ true
in_rank ranks n rank [] h e = cc
in_rank ranks n rank (x ∷ ns) h e = grind (arith, nat_tests, in_rank ranks n rank ns)

pub of_its_rank : (ranks : List ℕ) (n rank : ℕ) (ns : List ℕ) → stands_in n (of_rank rank (order_of ranks ns)) ≡ true → (stands_in n ns ≡ true) × (get_or ranks n 0 ≡ rank)
of_its_rank ranks n rank [] h = cc
of_its_rank ranks n rank (x ∷ ns) h = grind (arith, nat_tests, of_its_rank ranks n rank ns)

pub not_in_rank : (ranks : List ℕ) (n rank : ℕ) (ns : List ℕ) → stands_in n ns ≡ false → stands_in n (of_rank rank (order_of ranks ns)) ≡ false
not_in_rank ranks n rank ns h = no_if (stands_in n (of_rank rank (order_of ranks ns))) (λ t. let e = (of_its_rank ranks n rank ns t).0 in cc)

pub rank_back : (rank : ℕ) (order : List Arrival) (a : Arrival) → of_rank rank (order ++ a ∷ []) ≡ (if a.rank == rank then of_rank rank order ++ a.node ∷ [] else of_rank rank order)
rank_back rank [] a = refl
rank_back rank (b ∷ order) a = let e = rank_back rank order a in grind (arith, nat_tests, e)

pub rank_without : (ranks : List ℕ) (n rank : ℕ) (ns : List ℕ) → AreApart ns → of_rank rank (order_of ranks (without n ns)) ≡ without n (of_rank rank (order_of ranks ns))
rank_without ranks n rank [] h = refl
rank_without ranks n rank (x ∷ ns) h =
    let later : of_rank rank (order_of ranks (without n ns)) ≡ without n (of_rank rank (order_of ranks ns)) = rank_without ranks n rank ns h.1 in
    let gone : without x (of_rank rank (order_of ranks ns)) ≡ of_rank rank (order_of ranks ns) =
    absent_same x (of_rank rank (order_of ranks ns)) (not_in_rank ranks x rank ns (apart_not x ns h.0)) in
    grind (arith, nat_tests, later, gone)

pub next_is : (ranks : List ℕ) (n : ℕ) (ns : List ℕ) → AreApart ns → stands_in n ns ≡ true →
    next_of_rank n (order_of ranks ns) ≡ follower n (of_rank (get_or ranks n 0) (order_of ranks ns))
next_is ranks n [] h t = cc
next_is ranks n (x ∷ ns) h t =
    let first = first_is (get_or ranks x 0) (order_of ranks ns) in
    grind (arith, nat_tests, first, next_is ranks n ns h.1)

pub length_gone : (n : ℕ) (xs : List ℕ) → stands_in n xs ≡ true → length (without n xs) + 1 ≡ length xs
length_gone n [] h = cc
length_gone n (x ∷ xs) h = grind (arith, nat_tests, length_gone n xs)

pub rank_back_same : (rank : ℕ) (order : List Arrival) (a : Arrival) → a.rank ≡ rank → of_rank rank (order ++ a ∷ []) ≡ of_rank rank order ++ a.node ∷ []
rank_back_same rank order a same = let e = rank_back rank order a in grind (arith, nat_tests, same, e)

pub rank_back_other : (rank : ℕ) (order : List Arrival) (a : Arrival) → a.rank ≢ rank → of_rank rank (order ++ a ∷ []) ≡ of_rank rank order
rank_back_other rank order a other = let e = rank_back rank order a in grind (arith, nat_tests, other, e)

-- a rank is read
pub read_rank : (ranks : List ℕ) (n v : ℕ) → v ≡ get_or ranks n v → n < length ranks → v ≡ get_or ranks n 0
read_rank [] n v e l = absurd (omega (arith, l))
read_rank (x ∷ ranks) zero v e l = e
read_rank (x ∷ ranks) (suc n) v e l = read_rank ranks n v e (omega (arith, l))
