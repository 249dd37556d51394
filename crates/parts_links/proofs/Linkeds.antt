-- The lists of a block when one node leaves its list, or comes into one.
use Rattle.std.proofs.Common.{◌≡◌, ◌≢◌, ◌==◌, if◌then◌else◌, ◌⊎◌, inl, inr, ⊎_elim, Bool, true, false, ◌||◌, ℕ, zero, suc, ◌+◌, ◌<◌, ◌≤◌, List, [], ◌∷◌, ◌++◌, map, replicate, length, get_or, set, refl, sym, ap, ap₂, subst, ◌∙◌, arith, get_or-set_same, get_or-set_other, length-set, ltb, ltb-true, ltb-false, eqb, eqb-true}
use borrow.Author.Tests.{clash, apart_eqb}
use Rattle.std.specs.List.{IsDistinct, list_any, AllByRecursion}
use Rattle.std.proofs.lemmas.Map.Steps.{length-le_from_distinct_below}
use lib.ListN.{length-replicate}
use Rattle.parts_links.specs.Rings.{Rings, alone, counted, joined, with_list}
use Rattle.parts_links.specs.Links.{list_at, stands_in, on_a_list, without, placed, IsApart, AreDistinct, Chain, AreMarked, IsRing, AreLinked, read_from, read_lists}
use Rattle.parts_links.proofs.Chains.{on_if, decide, equal, past, apart_append, unlinked, others_kept, linked, beside_kept, without_apart, distinct_without, distinct_placed, stands_without, stands_placed, stands_new, mark_of, apart_of, apart_above, marks_kept, marks_without, marks_placed}

pub list_at_map : (f : List ℕ → List ℕ) → f [] ≡ [] → (ls : List (List ℕ)) (k : ℕ) → list_at (map f ls) k ≡ f (list_at ls k)
list_at_map f e [] k = sym e
list_at_map f e (xs ∷ ls) zero = refl
list_at_map f e (xs ∷ ls) (suc k) = list_at_map f e ls k

pub length_map : (f : List ℕ → List ℕ) (ls : List (List ℕ)) → length (map f ls) ≡ length ls
length_map f [] = refl
length_map f (x ∷ ls) = ap suc (length_map f ls)

-- a node that stands on a list stands on one with a number
on_one : (n : ℕ) (ls : List (List ℕ)) → on_a_list n ls ≡ true → (k : ℕ) × (k < length ls) × (stands_in n (list_at ls k) ≡ true)
on_one n [] h = absurd (clash h)
on_one n (xs ∷ ls) h = ⊎_elim (λ t. (0, omega arith, t)) (λ t. let rest = on_one n ls (past t h) in let l : rest.0 < length ls = rest.1 in (suc rest.0, omega (arith, l), rest.2)) (decide (stands_in n xs))

rest_false : {b t : Bool} → (if b then true else t) ≡ false → (b ≡ false) × (t ≡ false)
rest_false {b = true} h = absurd (clash (sym h))
rest_false {b = false} h = (refl, h)

pub on_none : (n : ℕ) (ls : List (List ℕ)) (k : ℕ) → on_a_list n ls ≡ false → stands_in n (list_at ls k) ≡ false
on_none n [] k h = refl
on_none n (xs ∷ ls) zero h = (rest_false h).0
on_none n (xs ∷ ls) (suc k) h = on_none n ls k (rest_false h).1

suc_same : {m n : ℕ} → suc m ≡ suc n → m ≡ n
suc_same {m} {n} e = let f : suc m ≡ suc n = e in omega (arith, f)

-- the neighbours of n
pub record Round (f g : List ℕ) (total n : ℕ) : Type 0 where
  pub out : get_or f (get_or g n 0) 0 ≡ n
  pub back : get_or g (get_or f n 0) 0 ≡ n
  pub left : get_or g n 0 < total
  pub right : get_or f n 0 < total

module _ (nodes total k : ℕ) (f g m : List ℕ) (room : nodes ≤ total) where
  after_first : (x : ℕ) (xs : List ℕ) (e : ℕ) → Chain f g x (xs ++ e ∷ []) → AreMarked nodes m k xs → e < total → (get_or g (get_or f x 0) 0 ≡ x) × (get_or f x 0 < total)
  after_first x [] e c a le = (ap (λ j. get_or g j 0) c.0.0 ∙ c.0.1, subst (λ j. j < total) (sym c.0.0) le)
  after_first x (z ∷ zs) e c a le = (ap (λ j. get_or g j 0) c.0.0 ∙ c.0.1, subst (λ j. j < total) (sym c.0.0) (let l : z < nodes = a.0 in omega (arith, l)))

  round : (n a : ℕ) (xs : List ℕ) (e : ℕ) → Chain f g a (xs ++ e ∷ []) → AreMarked nodes m k xs → a < total → e < total → stands_in n xs ≡ true → Round f g total n
  round n a [] e c mk la le h = absurd (clash h)
  round n a (x ∷ xs) e c mk la le h = ⊎_elim
      (λ t. subst (Round f g total) (eqb-true x n t) (let next = after_first x xs e c.1 mk.2 le in
      record { out = ap (λ j. get_or f j 0) c.0.1 ∙ c.0.0; back = next.0; left = subst (λ j. j < total) (sym c.0.1) la; right = next.1 }))
      (λ t. round n x xs e c.1 mk.2 (let l : x < nodes = mk.0 in omega (arith, l)) le (past t h)) (decide (x == n))

  -- what stands before the cell q, which n is not
  pub comes_from : (n q a : ℕ) (xs : List ℕ) (e : ℕ) → Chain f g a (xs ++ e ∷ []) → AreMarked nodes m k xs → a < total → n ≢ a → IsApart n xs → (q ≡ e) ⊎ (stands_in q xs ≡ true)
      → (get_or f (get_or g q 0) 0 ≡ q) × (get_or g q 0 < total) × (n ≢ get_or g q 0)
  comes_from n q a [] e c mk la na nx at = ⊎_elim
      (λ qe. subst (λ j. (get_or f (get_or g j 0) 0 ≡ j) × (get_or g j 0 < total) × (n ≢ get_or g j 0)) (sym qe)
      (ap (λ j. get_or f j 0) c.0.1 ∙ c.0.0, subst (λ j. j < total) (sym c.0.1) la, λ h. na (h ∙ c.0.1)))
      (λ h. absurd (clash h)) at
  comes_from n q a (x ∷ xs) e c mk la na nx at = ⊎_elim
      (λ t. subst (λ j. (get_or f (get_or g j 0) 0 ≡ j) × (get_or g j 0 < total) × (n ≢ get_or g j 0)) (eqb-true x q t)
      (ap (λ j. get_or f j 0) c.0.1 ∙ c.0.0, subst (λ j. j < total) (sym c.0.1) la, λ h. na (h ∙ c.0.1)))
      (λ t. comes_from n q x xs e c.1 mk.2 (let l : x < nodes = mk.0 in omega (arith, l)) nx.0 nx.1 (⊎_elim inl (λ h. inr (past t h)) at))
      (decide (x == q))

module _ (nodes count : ℕ) (r : Rings) (ls : List (List ℕ)) (is : AreLinked nodes count r ls) where
  -- the mark of a node that stands on a list
  pub marked_on : (n : ℕ) → on_a_list n ls ≡ true → (k : ℕ) × (k < count) × (stands_in n (list_at ls k) ≡ true) × (n < nodes) × (get_or r.list n 0 ≡ suc k)
  marked_on n h =
      let one = on_one n ls h in let inside : one.0 < count = (let l : one.0 < length ls = one.1 in omega (arith, l, is.counted)) in
      let mark = mark_of nodes r.list one.0 n (list_at ls one.0) (is.ring one.0 inside).marked one.2 in
      (one.0, inside, one.2, mark.0, mark.1)

  -- a node on no list has no list's mark
  pub unmarked : (n k : ℕ) → n < nodes → on_a_list n ls ≡ false → get_or r.list n 0 ≢ suc k
  unmarked n k small h e = clash (sym (on_none n ls k h) ∙ (is.found n k small e).1)

  module _ (n : ℕ) (h : on_a_list n ls ≡ true) where
    abbrev p : ℕ
    p = get_or r.before n 0

    abbrev q : ℕ
    q = get_or r.after n 0

    abbrev gone : Rings
    gone = with_list n 0 (joined p q r)

    pub neighbours : Round r.after r.before (nodes + count) n
    neighbours =
        let on = marked_on n h in let l : on.0 < count = on.1 in let ring = is.ring on.0 on.1 in
        round nodes (nodes + count) on.0 r.after r.before r.list (omega arith) n (nodes + on.0) (list_at ls on.0) (nodes + on.0) ring.chain ring.marked (omega (arith, l)) (omega (arith, l)) on.2

    small : n < nodes
    small = (marked_on n h).3

    ring_without : (k : ℕ) → k < count → IsRing nodes k gone (without n (list_at ls k))
    ring_without k inside =
        let ring = is.ring k inside in let xs = list_at ls k in let e = nodes + k in let round = neighbours in
        let ne : n ≢ e = λ same. let s : n < nodes = small in absurd (omega (arith, same, s)) in
        let lp : p < length r.after = (let l : p < nodes + count = round.left in omega (arith, l, is.afters)) in
        let lq : q < length r.before = (let l : q < nodes + count = round.right in omega (arith, l, is.befores)) in
        record {
          chain = ⊎_elim
              (λ t. unlinked r.after r.before n p q round.out round.back lp lq refl refl e xs e ring.chain ne ne ring.distinct t)
              (λ t. let apart : IsApart n xs = apart_of nodes r.list k n xs ring.marked (λ m. clash (sym t ∙ (is.found n k small m).1)) in
              subst (λ ys. Chain gone.after gone.before e (ys ++ e ∷ [])) (sym (without_apart n xs apart))
              (others_kept r.after r.before n p q round.out round.back lp lq e (xs ++ e ∷ []) ne (apart_append n xs e apart ne) ring.chain))
              (decide (stands_in n xs));
          distinct = distinct_without n xs ring.distinct;
          marked = marks_without nodes r.list k n 0 xs ring.marked ring.distinct;
        }

    pub linked_without : AreLinked nodes count gone (map (without n) ls)
    linked_without = record {
      afters = length-set r.after p q ∙ is.afters;
      befores = length-set r.before q p ∙ is.befores;
      marks = length-set r.list n 0 ∙ is.marks;
      counted = length_map (without n) ls ∙ is.counted;
      ring = λ k inside. subst (IsRing nodes k gone) (sym (list_at_map (without n) refl ls k)) (ring_without k inside);
      found = λ x k lx mark. ⊎_elim
          (λ same. let none : get_or (set r.list n 0) n 0 ≡ 0 = get_or-set_same r.list n 0 0 (let s : n < nodes = small in omega (arith, s, is.marks)) in
          let no : 0 ≡ suc k = sym none ∙ ap (λ y. get_or (set r.list n 0) y 0) (sym same) ∙ mark in absurd (omega (arith, no)))
          (λ other. let old = is.found x k lx (sym (get_or-set_other r.list n x 0 0 other) ∙ mark) in
          (old.0, subst (λ ys. stands_in x ys ≡ true) (sym (list_at_map (without n) refl ls k)) (stands_without x n (list_at ls k) other old.1)))
          (equal x n);
    }

  module _ (k q n : ℕ) (inside : k < count) (small : n < nodes) (free : on_a_list n ls ≡ false) (at : (q ≡ nodes + k) ⊎ (stands_in q (list_at ls k) ≡ true)) where
    abbrev left : ℕ
    left = get_or r.before q 0

    abbrev come : Rings
    come = with_list n (k + 1) (joined n q (joined left n r))

    apart_at : (j : ℕ) → j < count → IsApart n (list_at ls j)
    apart_at j ij = apart_of nodes r.list j n (list_at ls j) (is.ring j ij).marked (unmarked n j small free)

    no_end : (j : ℕ) → n ≢ nodes + j
    no_end j same = absurd (omega (arith, same, small))

    from : (get_or r.after left 0 ≡ q) × (left < nodes + count) × (n ≢ left)
    from = comes_from nodes (nodes + count) k r.after r.before r.list (omega arith) n q (nodes + k) (list_at ls k) (nodes + k) (is.ring k inside).chain (is.ring k inside).marked (omega (arith, inside)) (no_end k) (apart_at k inside) at

    pub cell_inside : (left < nodes + count) × (q < nodes + count)
    cell_inside = (from.1, ⊎_elim (λ e. omega (arith, e, inside)) (λ h. let l : q < nodes = (mark_of nodes r.list k q (list_at ls k) (is.ring k inside).marked h).0 in omega (arith, l)) at)

    nq : n ≢ q
    nq same = ⊎_elim (λ e. no_end k (same ∙ e)) (λ h. clash (sym (on_none n ls k free) ∙ ap (λ y. stands_in y (list_at ls k)) same ∙ h)) at

    -- q stands on no other ring
    q_apart : (j : ℕ) → j < count → j ≢ k → IsApart q (list_at ls j) × (q ≢ nodes + j)
    q_apart j ij other = ⊎_elim
        (λ e. (apart_above nodes r.list j q (list_at ls j) (is.ring j ij).marked (omega (arith, e)), λ h. let same : nodes + k ≡ nodes + j = sym e ∙ h in other (omega (arith, same))))
        (λ h. let mark = mark_of nodes r.list k q (list_at ls k) (is.ring k inside).marked h in let l : q < nodes = mark.0 in
        (apart_of nodes r.list j q (list_at ls j) (is.ring j ij).marked (λ m. other (suc_same (sym m ∙ mark.1))), λ e. absurd (omega (arith, e, l))))
        at

    step : (j : ℕ) → suc j ≡ j + 1
    step j = omega arith

    ring_with : (j : ℕ) → j < count → IsRing nodes j come (list_at (set ls k (placed q n (list_at ls k))) j)
    ring_with j ij =
        let ring = is.ring j ij in let e = nodes + j in let xs = list_at ls j in
        let lp : left < length r.after = (let l : left < nodes + count = from.1 in omega (arith, l, is.afters)) in
        let lq : q < length r.before = (let l : q < nodes + count = cell_inside.1 in omega (arith, l, is.befores)) in
        let lnf : n < length r.after = omega (arith, small, is.afters) in
        let lng : n < length r.before = omega (arith, small, is.befores) in
        ⊎_elim
        (λ same. subst (λ i. IsRing nodes i come (list_at (set ls k (placed q n (list_at ls k))) i)) (sym same)
        (let ring = is.ring k inside in let e = nodes + k in let xs = list_at ls k in
        subst (IsRing nodes k come) (sym (get_or-set_same ls k (placed q n xs) [] (omega (arith, inside, is.counted)))) (record {
          chain = linked r.after r.before n left q from.0 refl from.2 nq lp lnf lng lq e xs e ring.chain (no_end k) (apart_at k inside) (no_end k) ring.distinct (apart_above nodes r.list k e xs ring.marked (omega arith)) at;
          distinct = distinct_placed q n xs ring.distinct (apart_at k inside);
          marked = subst (λ v. AreMarked nodes (set r.list n v) k (placed q n xs)) (step k) (marks_placed nodes r.list k q n xs ring.marked (apart_at k inside) small (omega (arith, small, is.marks)));
        })))
        (λ other. subst (IsRing nodes j come) (sym (get_or-set_other ls k j (placed q n (list_at ls k)) [] other)) (record {
          chain = beside_kept r.after r.before n left q from.0 refl from.2 nq lp lnf lng lq e (xs ++ e ∷ []) (no_end j) (apart_append n xs e (apart_at j ij) (no_end j)) (apart_append q xs e (q_apart j ij other).0 (q_apart j ij other).1) ring.chain;
          distinct = ring.distinct;
          marked = marks_kept nodes r.list j n (k + 1) xs ring.marked (apart_at j ij);
        }))
        (equal j k)

    pub linked_with : AreLinked nodes count come (set ls k (placed q n (list_at ls k)))
    linked_with = record {
      afters = length-set (set r.after left n) n q ∙ length-set r.after left n ∙ is.afters;
      befores = length-set (set r.before n left) q n ∙ length-set r.before n left ∙ is.befores;
      marks = length-set r.list n (k + 1) ∙ is.marks;
      counted = length-set ls k (placed q n (list_at ls k)) ∙ is.counted;
      ring = ring_with;
      found = λ x j lx mark. ⊎_elim
          (λ same. let now : get_or (set r.list n (k + 1)) x 0 ≡ k + 1 = ap (λ y. get_or (set r.list n (k + 1)) y 0) same ∙ get_or-set_same r.list n (k + 1) 0 (omega (arith, small, is.marks)) in
          let jk : j ≡ k = (let e : k + 1 ≡ suc j = sym now ∙ mark in omega (arith, e)) in (
            omega (arith, jk, inside),
            subst (λ i. stands_in x (list_at (set ls k (placed q n (list_at ls k))) i) ≡ true) (sym jk)
                (subst (λ ys. stands_in x ys ≡ true) (sym (get_or-set_same ls k (placed q n (list_at ls k)) [] (omega (arith, inside, is.counted))))
                (subst (λ y. stands_in y (placed q n (list_at ls k)) ≡ true) (sym same) (stands_new q n (list_at ls k)))),
          ))
          (λ other. let old = is.found x j lx (sym (get_or-set_other r.list n x (k + 1) 0 other) ∙ mark) in (
            old.0,
            ⊎_elim
                (λ jk. subst (λ i. stands_in x (list_at (set ls k (placed q n (list_at ls k))) i) ≡ true) (sym jk)
                (subst (λ ys. stands_in x ys ≡ true) (sym (get_or-set_same ls k (placed q n (list_at ls k)) [] (omega (arith, inside, is.counted))))
                (stands_placed x q n (list_at ls k) (subst (λ i. stands_in x (list_at ls i) ≡ true) jk old.1))))
                (λ jo. subst (λ ys. stands_in x ys ≡ true) (sym (get_or-set_other ls k j (placed q n (list_at ls k)) [] jo)) old.1)
                (equal j k),
          ))
          (equal x n);
    }

-- the lists are what is read from the cells
all_apart : (x : ℕ) (xs : List ℕ) → IsApart x xs → AllByRecursion (λ y. eqb x y ≡ false) xs
all_apart x [] a = tt
all_apart x (y ∷ ys) a = (apart_eqb x y a.0, all_apart x ys a.1)

distinct_told : (xs : List ℕ) → AreDistinct xs → IsDistinct eqb xs
unfolding IsDistinct
distinct_told [] d = tt
distinct_told (x ∷ xs) d = (all_apart x xs d.0, distinct_told xs d.1)

below : (nodes : ℕ) (m : List ℕ) (k : ℕ) (xs : List ℕ) (q : ℕ) → AreMarked nodes m k xs → list_any (eqb q) xs ≡ true → q < nodes
below nodes m k [] q a h = absurd (clash h)
below nodes m k (x ∷ xs) q a h = ⊎_elim
    (λ t. subst (λ y. y < nodes) (sym (eqb-true q x t)) a.0)
    (λ t. below nodes m k xs q a.2 (ap (λ b. b || list_any (eqb q) xs) (sym t) ∙ h)) (decide (eqb q x))

pub short : (nodes k : ℕ) (r : Rings) (xs : List ℕ) → IsRing nodes k r xs → length xs ≤ nodes
short nodes k r xs ring = length-le_from_distinct_below xs nodes (distinct_told xs ring.distinct) (λ q h. below nodes r.list k xs q ring.marked h)

read_ring : (nodes k : ℕ) (r : Rings) (a : ℕ) (xs : List ℕ) (e fuel : ℕ) → Chain r.after r.before a (xs ++ e ∷ []) → AreMarked nodes r.list k xs → nodes ≤ e → length xs ≤ fuel → read_from r nodes fuel (get_or r.after a 0) ≡ xs
read_ring nodes k r a [] e zero c mk le l = refl
read_ring nodes k r a [] e (suc fuel) c mk le l = on_if (λ ys. ys ≡ []) (ltb (get_or r.after a 0) nodes) (get_or r.after a 0 ∷ read_from r nodes fuel (get_or r.after (get_or r.after a 0) 0)) []
    (λ t. let s : get_or r.after a 0 < nodes = ltb-true (get_or r.after a 0) nodes t in let here : get_or r.after a 0 ≡ e = c.0.0 in absurd (omega (arith, s, here, le)))
    (λ t. refl)
read_ring nodes k r a (x ∷ xs) e zero c mk le l = absurd (omega arith)
read_ring nodes k r a (x ∷ xs) e (suc fuel) c mk le l = on_if (λ ys. ys ≡ x ∷ xs) (ltb (get_or r.after a 0) nodes) (get_or r.after a 0 ∷ read_from r nodes fuel (get_or r.after (get_or r.after a 0) 0)) []
    (λ t. ap₂ (λ y ys. y ∷ ys) c.0.0 (ap (λ y. read_from r nodes fuel (get_or r.after y 0)) c.0.0 ∙ read_ring nodes k r x xs e fuel c.1 mk.2 le (omega arith)))
    (λ t. let s : nodes ≤ get_or r.after a 0 = ltb-false (get_or r.after a 0) nodes t in let here : get_or r.after a 0 ≡ x = c.0.0 in let small : x < nodes = mk.0 in absurd (omega (arith, s, here, small)))

read_all : (nodes : ℕ) (r : Rings) (k : ℕ) (ls : List (List ℕ)) → ((i : ℕ) → i < length ls → IsRing nodes (k + i) r (list_at ls i)) → read_lists r nodes k (length ls) ≡ ls
read_all nodes r k [] each = refl
read_all nodes r k (xs ∷ ls) each =
    let first : IsRing nodes k r xs = subst (λ j. IsRing nodes j r xs) (let e : k + 0 ≡ k = omega arith in e) (each 0 (omega arith)) in
    ap₂ (λ ys rest. ys ∷ rest) (read_ring nodes k r (nodes + k) xs (nodes + k) nodes first.chain first.marked (omega arith) (short nodes k r xs first))
    (read_all nodes r (suc k) ls (λ i l. subst (λ j. IsRing nodes j r (list_at ls i)) (let e : k + suc i ≡ suc k + i = omega arith in e) (each (suc i) (omega arith))))

pub read_is : (nodes count : ℕ) (r : Rings) (ls : List (List ℕ)) → AreLinked nodes count r ls → read_lists r nodes 0 count ≡ ls
read_is nodes count r ls is = subst (λ n. read_lists r nodes 0 n ≡ ls) is.counted (read_all nodes r 0 ls (λ i l. subst (λ j. IsRing nodes j r (list_at ls i)) (let e : i ≡ 0 + i = omega arith in e) (is.ring i (omega (arith, l, is.counted)))))

-- a block that was just opened
length_counted : (from n : ℕ) → length (counted from n) ≡ n
length_counted i zero = refl
length_counted i (suc n) = ap suc (length_counted (suc i) n)

counted_at : (from n i : ℕ) → i < n → get_or (counted from n) i 0 ≡ from + i
counted_at from zero i l = absurd (omega arith)
counted_at from (suc n) zero l = omega arith
counted_at from (suc n) (suc i) l = let e : get_or (counted (suc from) n) i 0 ≡ suc from + i = counted_at (suc from) n i (omega arith) in omega (arith, e)

same_always : {X : Type 0} (n i : ℕ) (x : X) → get_or (replicate n x) i x ≡ x
same_always zero i x = refl
same_always (suc n) zero x = refl
same_always (suc n) (suc i) x = same_always n i x

pub linked_alone : (nodes count : ℕ) → AreLinked nodes count (alone (nodes + count)) (replicate count [])
linked_alone nodes count = record {
  afters = length_counted 0 (nodes + count);
  befores = length_counted 0 (nodes + count);
  marks = length-replicate (nodes + count) 0;
  counted = length-replicate count [];
  ring = λ k inside. let e : get_or (counted 0 (nodes + count)) (nodes + k) 0 ≡ nodes + k = (let f : get_or (counted 0 (nodes + count)) (nodes + k) 0 ≡ 0 + (nodes + k) = counted_at 0 (nodes + count) (nodes + k) (omega arith) in omega (arith, f)) in
      subst (IsRing nodes k (alone (nodes + count))) (sym (same_always count k [])) (record { chain = ((e, e), tt); distinct = tt; marked = tt });
  found = λ n k l mark. let no : 0 ≡ suc k = sym (same_always (nodes + count) n 0) ∙ mark in absurd (omega (arith, no));
}

-- what is read from linked cells is linked
pub linked_read : (nodes count : ℕ) (r : Rings) (ls : List (List ℕ)) → AreLinked nodes count r ls → AreLinked nodes count r (read_lists r nodes 0 count)
linked_read nodes count r ls is = subst (AreLinked nodes count r) (sym (read_is nodes count r ls is)) is
