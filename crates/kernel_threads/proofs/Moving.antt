-- Frames that are moved by one place.
use Rattle.std.proofs.Common.{◌≡◌, ◌∙◌, ◌<◌, ◌≤◌, ◌+◌, ◌-◌, ◌++◌, ℕ, zero, suc, List, [], ◌∷◌, ap, arith, drop, get_or, length, refl, set, subst, take}

module _ {A : Type 0} where
  -- the last item of the front that is written at the start of the back
  pub copied_down : (front back : List A) (at j : ℕ) (f x : A) → length front ≡ j → j ≡ at + 1 → 0 < length back → x ≡ get_or front at x →
      front ++ set back 0 x ≡ set (front ++ back) j (get_or (front ++ back) at f)
  copied_down [] back at j f x len next some is = absurd (omega arith)
  copied_down (y ∷ ys) [] at j f x len next some is = absurd (omega arith)
  copied_down (y ∷ ys) (b ∷ bs) at zero f x len next some is = absurd (omega arith)
  copied_down (y ∷ []) (b ∷ bs) zero (suc zero) f x len next some is = subst (λ z. y ∷ x ∷ bs ≡ y ∷ z ∷ bs) is refl
  copied_down (y ∷ []) (b ∷ bs) (suc n) (suc m) f x len next some is = absurd (omega arith)
  copied_down (y ∷ []) (b ∷ bs) zero (suc (suc m)) f x len next some is = absurd (omega arith)
  copied_down (y ∷ z ∷ ys) (b ∷ bs) zero (suc m) f x len next some is = absurd (omega arith)
  copied_down (y ∷ z ∷ ys) (b ∷ bs) (suc n) (suc m) f x len next some is = ap (λ zs. y ∷ zs) (copied_down (z ∷ ys) (b ∷ bs) n m f x (omega arith) (omega arith) some is)

  -- the start of the back that is written as the last item of the front
  pub copied_up : (front back : List A) (at j : ℕ) (f x : A) → length front ≡ j → j ≡ at + 1 → 0 < length back → x ≡ get_or back 0 x →
      set front at x ++ back ≡ set (front ++ back) at (get_or (front ++ back) j f)
  copied_up [] back at j f x len next some is = absurd (omega arith)
  copied_up (y ∷ ys) [] at j f x len next some is = absurd (omega arith)
  copied_up (y ∷ ys) (b ∷ bs) at zero f x len next some is = absurd (omega arith)
  copied_up (y ∷ []) (b ∷ bs) zero (suc zero) f x len next some is = subst (λ z. x ∷ b ∷ bs ≡ z ∷ b ∷ bs) is refl
  copied_up (y ∷ []) (b ∷ bs) (suc n) (suc m) f x len next some is = absurd (omega arith)
  copied_up (y ∷ []) (b ∷ bs) zero (suc (suc m)) f x len next some is = absurd (omega arith)
  copied_up (y ∷ z ∷ ys) (b ∷ bs) zero (suc m) f x len next some is = absurd (omega arith)
  copied_up (y ∷ z ∷ ys) (b ∷ bs) (suc n) (suc m) f x len next some is = ap (λ zs. y ∷ zs) (copied_up (z ∷ ys) (b ∷ bs) n m f x (omega arith) (omega arith) some is)

  -- of three items the second is written over the third, and then the first over the second
  pub moved_down_two : (count : ℕ) (xs ys zs : List A) → length xs ≡ 3 → 1 < count → count ≤ 2 →
      ((f : A) → ys ≡ set xs 2 (get_or xs 1 f)) → ((f : A) → zs ≡ set ys 1 (get_or ys 0 f)) → take count (drop 1 zs) ≡ take count xs
  moved_down_two count [] ys zs len more few one two = absurd (omega arith)
  moved_down_two count (a ∷ []) ys zs len more few one two = absurd (omega arith)
  moved_down_two count (a ∷ b ∷ []) ys zs len more few one two = absurd (omega arith)
  moved_down_two count (a ∷ b ∷ c ∷ d ∷ xs) ys zs len more few one two = absurd (omega arith)
  moved_down_two count (a ∷ b ∷ c ∷ []) ys zs len more few one two =
      let is : count ≡ 2 = omega arith in
      let now : zs ≡ a ∷ a ∷ b ∷ [] = two a ∙ ap (λ l. set l 1 (get_or l 0 a)) (one a) in
      rw (is, now) refl

  -- or only the first over the second
  pub moved_down_one : (count : ℕ) (xs ys : List A) → length xs ≡ 3 → count ≡ 1 →
      ((f : A) → ys ≡ set xs 1 (get_or xs 0 f)) → take count (drop 1 ys) ≡ take count xs
  moved_down_one count [] ys len is one = absurd (omega arith)
  moved_down_one count (a ∷ []) ys len is one = absurd (omega arith)
  moved_down_one count (a ∷ b ∷ []) ys len is one = absurd (omega arith)
  moved_down_one count (a ∷ b ∷ c ∷ d ∷ xs) ys len is one = absurd (omega arith)
  moved_down_one count (a ∷ b ∷ c ∷ []) ys len is one = rw (is, one a) refl

  -- the second is written over the first, and then the third over the second
  pub moved_up_two : (count : ℕ) (xs ys zs : List A) → length xs ≡ 3 → 2 < count → count ≤ 3 →
      ((f : A) → ys ≡ set xs 0 (get_or xs 1 f)) → ((f : A) → zs ≡ set ys 1 (get_or ys 2 f)) → take (count - 1) zs ≡ drop 1 (take count xs)
  moved_up_two count [] ys zs len more few one two = absurd (omega arith)
  moved_up_two count (a ∷ []) ys zs len more few one two = absurd (omega arith)
  moved_up_two count (a ∷ b ∷ []) ys zs len more few one two = absurd (omega arith)
  moved_up_two count (a ∷ b ∷ c ∷ d ∷ xs) ys zs len more few one two = absurd (omega arith)
  moved_up_two count (a ∷ b ∷ c ∷ []) ys zs len more few one two =
      let is : count ≡ 3 = omega arith in
      let now : zs ≡ b ∷ c ∷ c ∷ [] = two a ∙ ap (λ l. set l 1 (get_or l 2 a)) (one a) in
      rw (is, now) refl

  -- or only the second over the first
  pub moved_up_one : (count : ℕ) (xs ys : List A) → length xs ≡ 3 → count ≡ 2 →
      ((f : A) → ys ≡ set xs 0 (get_or xs 1 f)) → take (count - 1) ys ≡ drop 1 (take count xs)
  moved_up_one count [] ys len is one = absurd (omega arith)
  moved_up_one count (a ∷ []) ys len is one = absurd (omega arith)
  moved_up_one count (a ∷ b ∷ []) ys len is one = absurd (omega arith)
  moved_up_one count (a ∷ b ∷ c ∷ d ∷ xs) ys len is one = absurd (omega arith)
  moved_up_one count (a ∷ b ∷ c ∷ []) ys len is one = rw (is, one a) refl
