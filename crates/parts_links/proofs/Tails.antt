-- What is read at the end of a list through its cells.
use Rattle.std.proofs.Common.{◌≡◌, ◌<◌, ◌≤◌, ◌+◌, ◌++◌, ◌∷◌, ℕ, List, [], None, Option, Some, get_or, refl, sym, ap, subst, ◌∙◌, arith}
use Rattle.std.specs.List.{last_or}
use Rattle.parts_links.specs.Rings.{Rings}
use Rattle.parts_links.specs.Links.{list_at, Chain, AreMarked, AreLinked}

module _ (nodes : ℕ) (f g : List ℕ) where
  -- the cell before the end is the last of the list, or the one that the list begins behind
  before_end : (a : ℕ) (xs : List ℕ) (e : ℕ) → Chain f g a (xs ++ e ∷ []) → Some (get_or g e 0) ≡ last_or (Some a) xs
  before_end a [] e c = ap Some c.0.1
  before_end a (x ∷ xs) e c = before_end x xs e c.1

  last_some : (a : ℕ) (xs : List ℕ) (e : ℕ) → Chain f g a (xs ++ e ∷ []) → nodes ≤ a → get_or g e 0 < nodes → Some (get_or g e 0) ≡ last_or None xs
  last_some a [] e c le l = let here : get_or g e 0 ≡ a = c.0.1 in absurd (omega (arith, here, le, l))
  last_some a (x ∷ xs) e c le l = before_end x xs e c.1

  -- a cell that is marked is a node
  last_marked : (k : ℕ) (m : List ℕ) (x : ℕ) (xs : List ℕ) (n : ℕ) → x < nodes → AreMarked nodes m k xs → last_or (Some x) xs ≡ Some n → n < nodes
  last_marked k m x [] n l mk e = let same : x ≡ n = cc in omega (arith, same, l)
  last_marked k m x (y ∷ ys) n l mk e = last_marked k m y ys n mk.0 mk.2 e

  last_none : (k : ℕ) (m : List ℕ) (a : ℕ) (xs : List ℕ) (e : ℕ) → Chain f g a (xs ++ e ∷ []) → AreMarked nodes m k xs → nodes ≤ get_or g e 0 → None ≡ last_or None xs
  last_none k m a [] e c mk l = refl
  last_none k m a (x ∷ xs) e c mk l = let low : get_or g e 0 < nodes = last_marked k m x xs (get_or g e 0) mk.0 mk.2 (sym (before_end x xs e c.1)) in absurd (omega (arith, low, l))

module _ (nodes count : ℕ) (r : Rings) (ls : List (List ℕ)) (is : AreLinked nodes count r ls) where
  pub back_some : (k : ℕ) → k < count → get_or r.before (nodes + k) 0 < nodes → Some (get_or r.before (nodes + k) 0) ≡ last_or None (list_at ls k)
  back_some k l s = last_some nodes r.after r.before (nodes + k) (list_at ls k) (nodes + k) (is.ring k l).chain (omega arith) s

  pub back_none : (k : ℕ) → k < count → nodes ≤ get_or r.before (nodes + k) 0 → None ≡ last_or None (list_at ls k)
  back_none k l s = last_none nodes r.after r.before k r.list (nodes + k) (list_at ls k) (nodes + k) (is.ring k l).chain (is.ring k l).marked s
