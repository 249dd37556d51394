-- A chain when one node leaves it or comes into it.
use Rattle.std.proofs.Common.{◌≡◌, ◌≢◌, ◌==◌, if◌then◌else◌, ◌⊎◌, inl, inr, ⊎_elim, Bool, true, false, ℕ, suc, ◌<◌, ◌≤◌, List, [], ◌∷◌, ◌++◌, length, get_or, set, refl, sym, ap, subst, ◌∙◌, arith, get_or-set_same, get_or-set_other, lt-length-set, eqb-true}
use borrow.Author.Tests.{eqb-false, clash}
use Rattle.parts_links.specs.Links.{stands_in, without, placed, IsApart, AreDistinct, Edge, Chain, AreMarked}

pub on_if : {X : Type 0} (P : X → Type 0) (b : Bool) (x y : X) → (b ≡ true → P x) → (b ≡ false → P y) → P (if b then x else y)
on_if P true x y f g = f refl
on_if P false x y f g = g refl

pub decide : (b : Bool) → (b ≡ true) ⊎ (b ≡ false)
decide true = inl refl
decide false = inr refl

pub equal : (m n : ℕ) → (m ≡ n) ⊎ (m ≢ n)
equal m n = ⊎_elim (λ e. inl (eqb-true m n e)) (λ e. inr (eqb-false m n e)) (decide (m == n))

pub past : {b t : Bool} → b ≡ false → (if b then true else t) ≡ true → t ≡ true
past {t = t} e h = ap (λ c. if c then true else t) (sym e) ∙ h

pub apart_append : (n : ℕ) (xs : List ℕ) (e : ℕ) → IsApart n xs → n ≢ e → IsApart n (xs ++ e ∷ [])
apart_append n [] e a ne = (ne, tt)
apart_append n (x ∷ xs) e a ne = (a.0, apart_append n xs e a.1 ne)

-- n goes: p stood before it and q after it, and they become neighbours
module _ (f g : List ℕ) (n p q : ℕ) (out : get_or f p 0 ≡ n) (back : get_or g q 0 ≡ n) (lp : p < length f) (lq : q < length g) where
  left_kept : (a b : ℕ) → n ≢ a → n ≢ b → Edge f g a b → Edge (set f p q) (set g q p) a b
  left_kept a b na nb e = (
    get_or-set_other f p a q 0 (λ h. nb (sym out ∙ ap (λ k. get_or f k 0) (sym h) ∙ e.0)) ∙ e.0,
    get_or-set_other g q b p 0 (λ h. na (sym back ∙ ap (λ k. get_or g k 0) (sym h) ∙ e.1)) ∙ e.1,
  )

  pub others_kept : (a : ℕ) (xs : List ℕ) → n ≢ a → IsApart n xs → Chain f g a xs → Chain (set f p q) (set g q p) a xs
  others_kept a [] na nx c = tt
  others_kept a (x ∷ xs) na nx c = (left_kept a x na nx.0 c.0, others_kept x xs nx.0 nx.1 c.1)

  bridged : (a b : ℕ) → p ≡ a → q ≡ b → Edge (set f p q) (set g q p) a b
  bridged a b pa qb = subst (λ u. Edge (set f p q) (set g q p) u b) pa (subst (λ v. Edge (set f p q) (set g q p) p v) qb (get_or-set_same f p q 0 lp, get_or-set_same g q p 0 lq))

  module _ (before : get_or g n 0 ≡ p) (after : get_or f n 0 ≡ q) where
    bridge : (a x : ℕ) (xs : List ℕ) (e : ℕ) → Chain f g a (x ∷ xs ++ e ∷ []) → x ≡ n → n ≢ e → IsApart x xs → Chain (set f p q) (set g q p) a (xs ++ e ∷ [])
    bridge a x [] e c is ne d = (bridged a e (sym before ∙ ap (λ k. get_or g k 0) (sym is) ∙ c.0.1) (sym after ∙ ap (λ k. get_or f k 0) (sym is) ∙ c.1.0.0), tt)
    bridge a x (z ∷ zs) e c is ne d = (
      bridged a z (sym before ∙ ap (λ k. get_or g k 0) (sym is) ∙ c.0.1) (sym after ∙ ap (λ k. get_or f k 0) (sym is) ∙ c.1.0.0),
      others_kept z (zs ++ e ∷ []) (λ h. d.0 (is ∙ h)) (apart_append n zs e (subst (λ k. IsApart k zs) is d.1) ne) c.1.1,
    )

    pub unlinked : (a : ℕ) (xs : List ℕ) (e : ℕ) → Chain f g a (xs ++ e ∷ []) → n ≢ a → n ≢ e → AreDistinct xs → stands_in n xs ≡ true → Chain (set f p q) (set g q p) a (without n xs ++ e ∷ [])
    unlinked a [] e c na ne d there = absurd (clash there)
    unlinked a (x ∷ xs) e c na ne d there =
        on_if (λ ys. Chain (set f p q) (set g q p) a (ys ++ e ∷ [])) (x == n) xs (x ∷ without n xs)
        (λ t. bridge a x xs e c (eqb-true x n t) ne d.0)
        (λ t. let nx : n ≢ x = λ h. eqb-false x n t (sym h) in (left_kept a x na nx c.0, unlinked x xs e c.1 nx ne d.1 (past t there)))

-- n comes between p and q
module _ (f g : List ℕ) (n p q : ℕ) (pq : get_or f p 0 ≡ q) (qp : get_or g q 0 ≡ p) (np : n ≢ p) (nq : n ≢ q) (lp : p < length f) (lnf : n < length f) (lng : n < length g) (lq : q < length g) where
  abbrev f' : List ℕ
  f' = set (set f p n) n q

  abbrev g' : List ℕ
  g' = set (set g n p) q n

  away_kept : (a b : ℕ) → n ≢ a → n ≢ b → q ≢ b → Edge f g a b → Edge f' g' a b
  away_kept a b na nb qb e = (
    get_or-set_other (set f p n) n a q 0 (λ h. na (sym h)) ∙ get_or-set_other f p a n 0 (λ h. qb (sym pq ∙ ap (λ k. get_or f k 0) (sym h) ∙ e.0)) ∙ e.0,
    get_or-set_other (set g n p) q b n 0 (λ h. qb (sym h)) ∙ get_or-set_other g n b p 0 (λ h. nb (sym h)) ∙ e.1,
  )

  pub beside_kept : (a : ℕ) (xs : List ℕ) → n ≢ a → IsApart n xs → IsApart q xs → Chain f g a xs → Chain f' g' a xs
  beside_kept a [] na nx qx c = tt
  beside_kept a (x ∷ xs) na nx qx c = (away_kept a x na nx.0 qx.0 c.0, beside_kept x xs nx.0 nx.1 qx.1 c.1)

  before_new : (a : ℕ) → p ≡ a → Edge f' g' a n
  before_new a pa = subst (λ u. Edge f' g' u n) pa (
    get_or-set_other (set f p n) n p q 0 (λ h. np (sym h)) ∙ get_or-set_same f p n 0 lp,
    get_or-set_other (set g n p) q n n 0 nq ∙ get_or-set_same g n p 0 lng,
  )

  after_new : (b : ℕ) → q ≡ b → Edge f' g' n b
  after_new b qb = subst (λ v. Edge f' g' n v) qb (get_or-set_same (set f p n) n q 0 (lt-length-set f p n lnf), get_or-set_same (set g n p) q n 0 (lt-length-set g n p lq))

  pub linked : (a : ℕ) (xs : List ℕ) (e : ℕ) → Chain f g a (xs ++ e ∷ []) → n ≢ a → IsApart n xs → n ≢ e → AreDistinct xs → IsApart e xs → (q ≡ e) ⊎ (stands_in q xs ≡ true) → Chain f' g' a (placed q n xs ++ e ∷ [])
  linked a [] e c na nx ne d ex at = ⊎_elim
      (λ qe. (before_new a (sym qp ∙ ap (λ k. get_or g k 0) qe ∙ c.0.1), (after_new e qe, tt)))
      (λ h. absurd (clash h)) at
  linked a (x ∷ xs) e c na nx ne d ex at =
      on_if (λ ys. Chain f' g' a (ys ++ e ∷ [])) (x == q) (n ∷ x ∷ xs) (x ∷ placed q n xs)
      (λ t. let is : x ≡ q = eqb-true x q t in (
        before_new a (sym qp ∙ ap (λ k. get_or g k 0) (sym is) ∙ c.0.1),
        (
          after_new x (sym is),
          beside_kept x (xs ++ e ∷ []) nx.0 (apart_append n xs e nx.1 ne) (apart_append q xs e (subst (λ k. IsApart k xs) is d.0) (λ h. ex.0 (sym h ∙ sym is))) c.1,
        ),
      ))
      (λ t. let qx : q ≢ x = λ h. eqb-false x q t (sym h) in
      (away_kept a x na nx.0 qx c.0, linked x xs e c.1 nx.0 nx.1 ne d.1 ex.1 (⊎_elim inl (λ h. inr (past t h)) at)))

-- what of a list stays
pub without_apart : (n : ℕ) (xs : List ℕ) → IsApart n xs → without n xs ≡ xs
without_apart n [] a = refl
without_apart n (x ∷ xs) a = on_if (λ ys. ys ≡ x ∷ xs) (x == n) xs (x ∷ without n xs) (λ t. absurd (a.0 (sym (eqb-true x n t)))) (λ t. ap (λ ys. x ∷ ys) (without_apart n xs a.1))

pub apart_without : (y n : ℕ) (xs : List ℕ) → IsApart y xs → IsApart y (without n xs)
apart_without y n [] a = tt
apart_without y n (x ∷ xs) a = on_if (IsApart y) (x == n) xs (x ∷ without n xs) (λ t. a.1) (λ t. (a.0, apart_without y n xs a.1))

pub distinct_without : (n : ℕ) (xs : List ℕ) → AreDistinct xs → AreDistinct (without n xs)
distinct_without n [] d = tt
distinct_without n (x ∷ xs) d = on_if AreDistinct (x == n) xs (x ∷ without n xs) (λ t. d.1) (λ t. (apart_without x n xs d.0, distinct_without n xs d.1))

pub apart_placed : (y q n : ℕ) (xs : List ℕ) → IsApart y xs → y ≢ n → IsApart y (placed q n xs)
apart_placed y q n [] a yn = (yn, tt)
apart_placed y q n (x ∷ xs) a yn = on_if (IsApart y) (x == q) (n ∷ x ∷ xs) (x ∷ placed q n xs) (λ t. (yn, a)) (λ t. (a.0, apart_placed y q n xs a.1 yn))

pub distinct_placed : (q n : ℕ) (xs : List ℕ) → AreDistinct xs → IsApart n xs → AreDistinct (placed q n xs)
distinct_placed q n [] d a = (tt, tt)
distinct_placed q n (x ∷ xs) d a = on_if AreDistinct (x == q) (n ∷ x ∷ xs) (x ∷ placed q n xs) (λ t. (a, d)) (λ t. (apart_placed x q n xs d.0 (λ h. a.0 (sym h)), distinct_placed q n xs d.1 a.1))

pub stands_without : (y n : ℕ) (xs : List ℕ) → y ≢ n → stands_in y xs ≡ true → stands_in y (without n xs) ≡ true
stands_without y n [] yn h = h
stands_without y n (x ∷ xs) yn h =
    on_if (λ ys. stands_in y ys ≡ true) (x == n) xs (x ∷ without n xs)
    (λ t. ⊎_elim (λ s. absurd (yn (sym (eqb-true x y s) ∙ eqb-true x n t))) (λ s. past s h) (decide (x == y)))
    (λ t. on_if (λ b. b ≡ true) (x == y) true (stands_in y (without n xs)) (λ s. refl) (λ s. stands_without y n xs yn (past s h)))

pub stands_first : (n : ℕ) (xs : List ℕ) → stands_in n (n ∷ xs) ≡ true
stands_first n xs = on_if (λ b. b ≡ true) (n == n) true (stands_in n xs) (λ s. refl) (λ s. absurd (eqb-false n n s refl))

pub stands_later : (y x : ℕ) (xs : List ℕ) → stands_in y xs ≡ true → stands_in y (x ∷ xs) ≡ true
stands_later y x xs h = on_if (λ b. b ≡ true) (x == y) true (stands_in y xs) (λ s. refl) (λ s. h)

pub stands_placed : (y q n : ℕ) (xs : List ℕ) → stands_in y xs ≡ true → stands_in y (placed q n xs) ≡ true
stands_placed y q n [] h = absurd (clash h)
stands_placed y q n (x ∷ xs) h =
    on_if (λ ys. stands_in y ys ≡ true) (x == q) (n ∷ x ∷ xs) (x ∷ placed q n xs) (λ t. stands_later y n (x ∷ xs) h)
    (λ t. on_if (λ b. b ≡ true) (x == y) true (stands_in y (placed q n xs)) (λ s. refl) (λ s. stands_placed y q n xs (past s h)))

pub stands_new : (q n : ℕ) (xs : List ℕ) → stands_in n (placed q n xs) ≡ true
stands_new q n [] = stands_first n []
stands_new q n (x ∷ xs) = on_if (λ ys. stands_in n ys ≡ true) (x == q) (n ∷ x ∷ xs) (x ∷ placed q n xs) (λ t. stands_first n (x ∷ xs)) (λ t. stands_later n x (placed q n xs) (stands_new q n xs))

-- marks
module _ (nodes : ℕ) (m : List ℕ) (k : ℕ) where
  pub mark_of : (n : ℕ) (xs : List ℕ) → AreMarked nodes m k xs → stands_in n xs ≡ true → (n < nodes) × (get_or m n 0 ≡ suc k)
  mark_of n [] a h = absurd (clash h)
  mark_of n (x ∷ xs) a h = ⊎_elim
      (λ t. let is : x ≡ n = eqb-true x n t in (subst (λ y. y < nodes) is a.0, ap (λ y. get_or m y 0) (sym is) ∙ a.1))
      (λ t. mark_of n xs a.2 (past t h)) (decide (x == n))

  pub apart_of : (n : ℕ) (xs : List ℕ) → AreMarked nodes m k xs → get_or m n 0 ≢ suc k → IsApart n xs
  apart_of n [] a h = tt
  apart_of n (x ∷ xs) a h = ((λ e. h (ap (λ y. get_or m y 0) e ∙ a.1)), apart_of n xs a.2 h)

  pub apart_above : (n : ℕ) (xs : List ℕ) → AreMarked nodes m k xs → nodes ≤ n → IsApart n xs
  apart_above n [] a h = tt
  apart_above n (x ∷ xs) a h = ((λ e. let l : x < nodes = a.0 in absurd (omega (arith, e, l, h))), apart_above n xs a.2 h)

  pub marks_kept : (n v : ℕ) (xs : List ℕ) → AreMarked nodes m k xs → IsApart n xs → AreMarked nodes (set m n v) k xs
  marks_kept n v [] a h = tt
  marks_kept n v (x ∷ xs) a h = (a.0, get_or-set_other m n x v 0 (λ e. h.0 (sym e)) ∙ a.1, marks_kept n v xs a.2 h.1)

  pub marks_without : (n v : ℕ) (xs : List ℕ) → AreMarked nodes m k xs → AreDistinct xs → AreMarked nodes (set m n v) k (without n xs)
  marks_without n v [] a d = tt
  marks_without n v (x ∷ xs) a d = on_if (AreMarked nodes (set m n v) k) (x == n) xs (x ∷ without n xs)
      (λ t. marks_kept n v xs a.2 (subst (λ y. IsApart y xs) (eqb-true x n t) d.0))
      (λ t. (a.0, get_or-set_other m n x v 0 (eqb-false x n t) ∙ a.1, marks_without n v xs a.2 d.1))

  pub marks_placed : (q n : ℕ) (xs : List ℕ) → AreMarked nodes m k xs → IsApart n xs → n < nodes → n < length m → AreMarked nodes (set m n (suc k)) k (placed q n xs)
  marks_placed q n [] a h small l = (small, get_or-set_same m n (suc k) 0 l, tt)
  marks_placed q n (x ∷ xs) a h small l = on_if (AreMarked nodes (set m n (suc k)) k) (x == q) (n ∷ x ∷ xs) (x ∷ placed q n xs)
      (λ t. (small, get_or-set_same m n (suc k) 0 l, marks_kept n (suc k) (x ∷ xs) a h))
      (λ t. (a.0, get_or-set_other m n x (suc k) 0 (λ e. h.0 (sym e)) ∙ a.1, marks_placed q n xs a.2 h.1 small l))
