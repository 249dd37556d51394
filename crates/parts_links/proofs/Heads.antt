-- What is read of the lists through their cells, and where a call puts a node.
use Rattle.std.proofs.Common.{◌≡◌, ◌==◌, ◌⊎◌, inl, inr, ⊎_elim, true, false, ℕ, zero, suc, ◌+◌, ◌<◌, ◌≤◌, List, [], ◌∷◌, ◌++◌, map, length, get_or, set, Some, None, slice_get, refl, sym, ap, ap₂, subst, ◌∙◌, arith, get_or-set_same, get_or-set_other, length-set, eqb-true}
use borrow.Author.Tests.{clash, eqb-false}
use Rattle.parts_links.specs.Rings.{Rings}
use Rattle.parts_links.specs.Links.{list_at, stands_in, on_a_list, placed, placed_before, follower, follower_on, IsApart, Chain, AreMarked, AreLinked, StandOnce}
use Rattle.parts_links.proofs.Chains.{stands_later, on_if, decide, equal, past, apart_of, apart_above, mark_of, stands_first}
use Rattle.parts_links.proofs.Linkeds.{marked_on, list_at_map, length_map}

module _ (nodes : ℕ) (f g : List ℕ) where
  pub head_some : (a : ℕ) (xs : List ℕ) (e : ℕ) → Chain f g a (xs ++ e ∷ []) → nodes ≤ e → get_or f a 0 < nodes → Some (get_or f a 0) ≡ slice_get xs 0
  head_some a [] e c le l = let here : get_or f a 0 ≡ e = c.0.0 in absurd (omega (arith, here, le, l))
  head_some a (x ∷ xs) e c le l = ap Some c.0.0

  pub head_none : (k : ℕ) (m : List ℕ) (a : ℕ) (xs : List ℕ) (e : ℕ) → Chain f g a (xs ++ e ∷ []) → AreMarked nodes m k xs → nodes ≤ get_or f a 0 → None ≡ slice_get xs 0
  head_none k m a [] e c mk l = refl
  head_none k m a (x ∷ xs) e c mk l = let here : get_or f a 0 ≡ x = c.0.0 in let s : x < nodes = mk.0 in absurd (omega (arith, here, s, l))

  follows_some : (n a : ℕ) (xs : List ℕ) (e : ℕ) → Chain f g a (xs ++ e ∷ []) → nodes ≤ e → stands_in n xs ≡ true → get_or f n 0 < nodes → Some (get_or f n 0) ≡ follower n xs
  follows_some n a [] e c le h l = absurd (clash h)
  follows_some n a (x ∷ xs) e c le h l = on_if (λ o. Some (get_or f n 0) ≡ o) (x == n) (slice_get xs 0) (follower n xs)
      (λ t. subst (λ y. get_or f y 0 < nodes → Some (get_or f y 0) ≡ slice_get xs 0) (eqb-true x n t) (head_some x xs e c.1 le) l)
      (λ t. follows_some n x xs e c.1 le (past t h) l)

  follows_none : (k : ℕ) (m : List ℕ) (n a : ℕ) (xs : List ℕ) (e : ℕ) → Chain f g a (xs ++ e ∷ []) → AreMarked nodes m k xs → stands_in n xs ≡ true → nodes ≤ get_or f n 0 → None ≡ follower n xs
  follows_none k m n a [] e c mk h l = absurd (clash h)
  follows_none k m n a (x ∷ xs) e c mk h l = on_if (λ o. None ≡ o) (x == n) (slice_get xs 0) (follower n xs)
      (λ t. subst (λ y. nodes ≤ get_or f y 0 → None ≡ slice_get xs 0) (eqb-true x n t) (head_none k m x xs e c.1 mk.2) l)
      (λ t. follows_none k m n x xs e c.1 mk.2 (past t h) l)

-- the first list on which n stands
pub first_on : (n : ℕ) (ls : List (List ℕ)) → on_a_list n ls ≡ true → (k : ℕ) × (k < length ls) × (stands_in n (list_at ls k) ≡ true) × (follower_on n ls ≡ follower n (list_at ls k))
first_on n [] h = absurd (clash h)
first_on n (xs ∷ ls) h = ⊎_elim
    (λ t. (0, omega arith, t, on_if (λ o. o ≡ follower n xs) (stands_in n xs) (follower n xs) (follower_on n ls) (λ s. refl) (λ s. absurd (clash (sym s ∙ t)))))
    (λ t. let rest = first_on n ls (past t h) in let l : rest.0 < length ls = rest.1 in
    (suc rest.0, omega (arith, l), rest.2, on_if (λ o. o ≡ follower n (list_at ls rest.0)) (stands_in n xs) (follower n xs) (follower_on n ls) (λ s. absurd (clash (sym t ∙ s))) (λ s. rest.3)))
    (decide (stands_in n xs))

pub placed_end : (e n : ℕ) (xs : List ℕ) → IsApart e xs → placed e n xs ≡ xs ++ n ∷ []
placed_end e n [] a = refl
placed_end e n (x ∷ xs) a = on_if (λ ys. ys ≡ x ∷ xs ++ n ∷ []) (x == e) (n ∷ x ∷ xs) (x ∷ placed e n xs) (λ t. absurd (a.0 (sym (eqb-true x e t)))) (λ t. ap (λ ys. x ∷ ys) (placed_end e n xs a.1))

placed_first : (f g : List ℕ) (n a : ℕ) (xs : List ℕ) (e : ℕ) → Chain f g a (xs ++ e ∷ []) → placed (get_or f a 0) n xs ≡ n ∷ xs
placed_first f g n a [] e c = refl
placed_first f g n a (x ∷ xs) e c = on_if (λ ys. ys ≡ n ∷ x ∷ xs) (x == get_or f a 0) (n ∷ x ∷ xs) (x ∷ placed (get_or f a 0) n xs) (λ t. refl) (λ t. absurd (eqb-false x (get_or f a 0) t (sym c.0.0)))

first_stands : (f g : List ℕ) (a : ℕ) (xs : List ℕ) (e : ℕ) → Chain f g a (xs ++ e ∷ []) → (get_or f a 0 ≡ e) ⊎ (stands_in (get_or f a 0) xs ≡ true)
first_stands f g a [] e c = inl c.0.0
first_stands f g a (x ∷ xs) e c = inr (subst (λ y. stands_in y (x ∷ xs) ≡ true) (sym c.0.0) (stands_first x xs))

next_stands : (f g : List ℕ) (n a : ℕ) (xs : List ℕ) (e : ℕ) → Chain f g a (xs ++ e ∷ []) → stands_in n xs ≡ true → (get_or f n 0 ≡ e) ⊎ (stands_in (get_or f n 0) xs ≡ true)
next_stands f g n a [] e c h = absurd (clash h)
next_stands f g n a (x ∷ xs) e c h = ⊎_elim
    (λ t. subst (λ y. (get_or f y 0 ≡ e) ⊎ (stands_in (get_or f y 0) (x ∷ xs) ≡ true)) (eqb-true x n t) (⊎_elim inl (λ s. inr (stands_later (get_or f x 0) x xs s)) (first_stands f g x xs e c.1)))
    (λ t. ⊎_elim inl (λ s. inr (stands_later (get_or f n 0) x xs s)) (next_stands f g n x xs e c.1 (past t h)))
    (decide (x == n))

on_from : (n : ℕ) (ls : List (List ℕ)) (k : ℕ) → stands_in n (list_at ls k) ≡ true → on_a_list n ls ≡ true
on_from n [] k h = absurd (clash h)
on_from n (xs ∷ ls) zero h = on_if (λ b. b ≡ true) (stands_in n xs) true (on_a_list n ls) (λ s. refl) (λ s. absurd (clash (sym s ∙ h)))
on_from n (xs ∷ ls) (suc k) h = on_if (λ b. b ≡ true) (stands_in n xs) true (on_a_list n ls) (λ s. refl) (λ s. on_from n ls k h)

placed_before_apart : (q n : ℕ) (xs : List ℕ) → IsApart q xs → placed_before q n xs ≡ xs
placed_before_apart q n [] a = refl
placed_before_apart q n (x ∷ xs) a = on_if (λ ys. ys ≡ x ∷ xs) (x == q) (n ∷ x ∷ xs) (x ∷ placed_before q n xs) (λ t. absurd (a.0 (sym (eqb-true x q t)))) (λ t. ap (λ ys. x ∷ ys) (placed_before_apart q n xs a.1))

placed_before_there : (q n : ℕ) (xs : List ℕ) → stands_in q xs ≡ true → placed_before q n xs ≡ placed q n xs
placed_before_there q n [] h = absurd (clash h)
placed_before_there q n (x ∷ xs) h = on_if (λ ys. ys ≡ placed q n (x ∷ xs)) (x == q) (n ∷ x ∷ xs) (x ∷ placed_before q n xs)
    (λ t. on_if (λ ys. n ∷ x ∷ xs ≡ ys) (x == q) (n ∷ x ∷ xs) (x ∷ placed q n xs) (λ s. refl) (λ s. absurd (clash (sym s ∙ t))))
    (λ t. on_if (λ ys. x ∷ placed_before q n xs ≡ ys) (x == q) (n ∷ x ∷ xs) (x ∷ placed q n xs) (λ s. absurd (clash (sym t ∙ s))) (λ s. ap (λ ys. x ∷ ys) (placed_before_there q n xs (past t h))))

lists_same : (xss yss : List (List ℕ)) → length xss ≡ length yss → ((i : ℕ) → i < length xss → list_at xss i ≡ list_at yss i) → xss ≡ yss
lists_same [] [] e each = refl
lists_same [] (b ∷ yss) e each = let f : 0 ≡ suc (length yss) = e in absurd (omega (arith, f))
lists_same (a ∷ xss) [] e each = let f : suc (length xss) ≡ 0 = e in absurd (omega (arith, f))
lists_same (a ∷ xss) (b ∷ yss) e each = ap₂ (λ x xs. x ∷ xs) (each 0 (omega arith)) (lists_same xss yss (let f : suc (length xss) ≡ suc (length yss) = e in omega (arith, f)) (λ i l. each (suc i) (omega arith)))

module _ (nodes count : ℕ) (r : Rings) (ls : List (List ℕ)) (is : AreLinked nodes count r ls) where
  pub front_some : (k : ℕ) → k < count → get_or r.after (nodes + k) 0 < nodes → Some (get_or r.after (nodes + k) 0) ≡ slice_get (list_at ls k) 0
  front_some k l s = head_some nodes r.after r.before (nodes + k) (list_at ls k) (nodes + k) (is.ring k l).chain (omega arith) s

  pub front_none : (k : ℕ) → k < count → nodes ≤ get_or r.after (nodes + k) 0 → None ≡ slice_get (list_at ls k) 0
  front_none k l s = head_none nodes r.after r.before k r.list (nodes + k) (list_at ls k) (nodes + k) (is.ring k l).chain (is.ring k l).marked s

  pub next_some : (n : ℕ) → on_a_list n ls ≡ true → get_or r.after n 0 < nodes → Some (get_or r.after n 0) ≡ follower_on n ls
  next_some n h s = let on = first_on n ls h in let ring = is.ring on.0 (let l : on.0 < length ls = on.1 in omega (arith, l, is.counted)) in
      follows_some nodes r.after r.before n (nodes + on.0) (list_at ls on.0) (nodes + on.0) ring.chain (omega arith) on.2 s ∙ sym on.3

  pub next_none : (n : ℕ) → on_a_list n ls ≡ true → nodes ≤ get_or r.after n 0 → None ≡ follower_on n ls
  next_none n h s = let on = first_on n ls h in let ring = is.ring on.0 (let l : on.0 < length ls = on.1 in omega (arith, l, is.counted)) in
      follows_none nodes r.after r.before on.0 r.list n (nodes + on.0) (list_at ls on.0) (nodes + on.0) ring.chain ring.marked on.2 s ∙ sym on.3

  pub front_on : (k : ℕ) → k < count → get_or r.after (nodes + k) 0 < nodes → on_a_list (get_or r.after (nodes + k) 0) ls ≡ true
  front_on k l s = ⊎_elim (λ e. absurd (omega (arith, e, s))) (λ h. on_from (get_or r.after (nodes + k) 0) ls k h) (first_stands r.after r.before (nodes + k) (list_at ls k) (nodes + k) (is.ring k l).chain)

  pub next_on : (n : ℕ) → on_a_list n ls ≡ true → get_or r.after n 0 < nodes → on_a_list (get_or r.after n 0) ls ≡ true
  next_on n h s = let on = first_on n ls h in let l : on.0 < length ls = on.1 in let ring = is.ring on.0 (omega (arith, l, is.counted)) in
      ⊎_elim (λ e. absurd (omega (arith, e, s))) (λ t. on_from (get_or r.after n 0) ls on.0 t) (next_stands r.after r.before n (nodes + on.0) (list_at ls on.0) (nodes + on.0) ring.chain on.2)

  pub none_marked : (n : ℕ) → get_or r.list n 0 ≡ 0 → on_a_list n ls ≡ false
  none_marked n e = ⊎_elim (λ t. let no : 0 ≡ suc (marked_on nodes count r ls is n t).0 = sym e ∙ (marked_on nodes count r ls is n t).4 in absurd (omega (arith, no))) (λ t. t) (decide (on_a_list n ls))

  pub put_back : (k n : ℕ) → k < count → placed (nodes + k) n (list_at ls k) ≡ list_at ls k ++ n ∷ []
  put_back k n l = placed_end (nodes + k) n (list_at ls k) (apart_above nodes r.list k (nodes + k) (list_at ls k) (is.ring k l).marked (omega arith))

  pub put_front : (k n : ℕ) → k < count → placed (get_or r.after (nodes + k) 0) n (list_at ls k) ≡ n ∷ list_at ls k
  put_front k n l = placed_first r.after r.before n (nodes + k) (list_at ls k) (nodes + k) (is.ring k l).chain

  pub front_stands : (k : ℕ) → k < count → (get_or r.after (nodes + k) 0 ≡ nodes + k) ⊎ (stands_in (get_or r.after (nodes + k) 0) (list_at ls k) ≡ true)
  front_stands k l = first_stands r.after r.before (nodes + k) (list_at ls k) (nodes + k) (is.ring k l).chain

  pub put_before : (q k n : ℕ) → q < nodes → k < count → get_or r.list q 0 ≡ suc k → map (placed_before q n) ls ≡ set ls k (placed q n (list_at ls k))
  put_before q k n small inside mark = lists_same (map (placed_before q n) ls) (set ls k (placed q n (list_at ls k))) (length_map (placed_before q n) ls ∙ sym (length-set ls k (placed q n (list_at ls k))))
      (λ i l. list_at_map (placed_before q n) refl ls i ∙ ⊎_elim
      (λ same. subst (λ j. placed_before q n (list_at ls j) ≡ list_at (set ls k (placed q n (list_at ls k))) j) (sym same)
      (placed_before_there q n (list_at ls k) (is.found q k small mark).1 ∙ sym (get_or-set_same ls k (placed q n (list_at ls k)) [] (omega (arith, inside, is.counted)))))
      (λ other. let ii : i < count = (let l' : i < length (map (placed_before q n) ls) = l in omega (arith, l', length_map (placed_before q n) ls, is.counted)) in
      placed_before_apart q n (list_at ls i) (apart_of nodes r.list i q (list_at ls i) (is.ring i ii).marked (λ m. other (let e : suc k ≡ suc i = sym mark ∙ m in omega (arith, e))))
      ∙ sym (get_or-set_other ls k i (placed q n (list_at ls k)) [] other))
      (equal i k))

pub stand_once : (nodes count : ℕ) (r : Rings) (ls : List (List ℕ)) → AreLinked nodes count r ls → StandOnce (record { nodes = nodes; lists = ls })
stand_once nodes count r ls is =
    let inside = λ (k : ℕ) (l : k < length ls). let i : k < count = omega (arith, l, is.counted) in i in
    let mark = λ (n k : ℕ) (l : k < length ls) (h : stands_in n (list_at ls k) ≡ true). mark_of nodes r.list k n (list_at ls k) (is.ring k (inside k l)).marked h in
    record {
      distinct = λ k l. (is.ring k (inside k l)).distinct;
      one_list = λ n j k lj lk hj hk. let e : suc j ≡ suc k = sym (mark n j lj hj).1 ∙ (mark n k lk hk).1 in omega (arith, e);
      small = λ n k l h. (mark n k l h).0;
    }
