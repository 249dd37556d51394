-- A walk along one list by `front` and `next`.
use Rattle.std.proofs.Common.{◌≡◌, ◌≢◌, ◌==◌, if◌then◌else◌, ⊎_elim, true, ℕ, ◌<◌, List, [], ◌∷◌, length, suc, ap₂, Option, Some, None, slice_get, refl, sym, ap, subst, unwrap_or, ◌∙◌, arith, eqb-true}
use borrow.Author.Tests.{clash, eqb-false}
use Rattle.parts_links.specs.Links.{Lists, stands_in, stands_at, list_at, follower, follower_on, IsApart, AreDistinct, StandOnce}
use Rattle.parts_links.specs.Walks.{since, rest_of}
use Rattle.parts_links.proofs.Chains.{on_if, decide, past, stands_first, stands_later}
use Rattle.parts_links.proofs.Heads.{first_on}
use Rattle.parts_links.proofs.Standing.{on_at}

since_first : (n : ℕ) (xs : List ℕ) → since n (n ∷ xs) ≡ n ∷ xs
since_first n xs = on_if (λ ys. ys ≡ n ∷ xs) (n == n) (n ∷ xs) (since n xs) (λ t. refl) (λ t. absurd (eqb-false n n t refl))

since_past : (n x : ℕ) (xs : List ℕ) → n ≢ x → since n (x ∷ xs) ≡ since n xs
since_past n x xs ne = on_if (λ ys. ys ≡ since n xs) (x == n) (x ∷ xs) (since n xs) (λ t. absurd (ne (sym (eqb-true x n t)))) (λ t. refl)

-- a walk begins with the whole list
pub rest_first : (xs : List ℕ) → rest_of (slice_get xs 0) xs ≡ xs
rest_first [] = refl
rest_first (x ∷ xs) = since_first x xs

pub apart_stands : (x n : ℕ) (xs : List ℕ) → IsApart x xs → stands_in n xs ≡ true → n ≢ x
apart_stands x n [] a h same = clash h
apart_stands x n (y ∷ ys) a h same = ⊎_elim (λ t. a.0 (sym same ∙ sym (eqb-true y n t))) (λ t. apart_stands x n ys a.1 (past t h) same) (decide (y == n))

-- past x nothing of a later list changes
rest_past : (o : Option ℕ) (x : ℕ) (xs : List ℕ) → ((n : ℕ) → o ≡ Some n → n ≢ x) → rest_of o (x ∷ xs) ≡ rest_of o xs
rest_past None x xs ne = refl
rest_past (Some n) x xs ne = since_past n x xs (ne n refl)

abbrev is_it : {X : Type 0} → Option X → Type 0
is_it (Some x) = Unit {0}
is_it None = ⊥

none_some : {X : Type 0} {x : X} → None ≡ Some x → ⊥
none_some {X = X} e = subst (λ (o : Option X). is_it o) (sym e) tt

some_same : {X : Type 0} {x y : X} → Some x ≡ Some y → x ≡ y
some_same {x = x} e = ap (λ o. unwrap_or o x) e

pub head_stands : (m : ℕ) (xs : List ℕ) → slice_get xs 0 ≡ Some m → stands_in m xs ≡ true
head_stands m [] e = absurd (none_some e)
head_stands m (x ∷ xs) e = subst (λ y. stands_in m (y ∷ xs) ≡ true) (sym (some_same e)) (stands_first m xs)

pub follower_stands : (n m : ℕ) (xs : List ℕ) → follower n xs ≡ Some m → stands_in m xs ≡ true
follower_stands n m [] e = absurd (none_some e)
follower_stands n m (x ∷ xs) e = ⊎_elim
    (λ t. stands_later m x xs (head_stands m xs (ap (λ c. if c then slice_get xs 0 else follower n xs) (sym t) ∙ e)))
    (λ t. stands_later m x xs (follower_stands n m xs (ap (λ c. if c then slice_get xs 0 else follower n xs) (sym t) ∙ e)))
    (decide (x == n))

-- from n on stand n and then what follows
pub step : (n : ℕ) (xs : List ℕ) → AreDistinct xs → stands_in n xs ≡ true → since n xs ≡ n ∷ rest_of (follower n xs) xs
step n [] d h = absurd (clash h)
step n (x ∷ xs) d h = on_if (λ ys. ys ≡ n ∷ rest_of (follower n (x ∷ xs)) (x ∷ xs)) (x == n) (x ∷ xs) (since n xs)
    (λ t. on_if (λ o. x ∷ xs ≡ n ∷ rest_of o (x ∷ xs)) (x == n) (slice_get xs 0) (follower n xs)
    (λ s. ap₂ (λ y ys. y ∷ ys) (eqb-true x n t) (sym (rest_first xs) ∙ sym (rest_past (slice_get xs 0) x xs (λ m e. apart_stands x m xs d.0 (head_stands m xs e)))))
    (λ s. absurd (clash (sym s ∙ t))))
    (λ t. on_if (λ o. since n xs ≡ n ∷ rest_of o (x ∷ xs)) (x == n) (slice_get xs 0) (follower n xs)
    (λ s. absurd (clash (sym t ∙ s)))
    (λ s. step n xs d.1 (past t h) ∙ ap (λ ys. n ∷ ys) (sym (rest_past (follower n xs) x xs (λ m e. apart_stands x m xs d.0 (follower_stands n m xs e))))))

-- what `next` tells is told by the list on which the node stands
pub follows_in : (l : Lists) → StandOnce l → (n k : ℕ) → k < length l.lists → stands_at n k l.lists ≡ true → follower_on n l.lists ≡ follower n (list_at l.lists k)
follows_in l once n k lk h = let on = first_on n l.lists (on_at n k l.lists h) in on.3 ∙ ap (λ j. follower n (list_at l.lists j)) (once.one_list n on.0 k on.1 lk on.2 h)

-- each turn of a walk has less before it
pub shorter : (n : ℕ) (xs : List ℕ) → AreDistinct xs → stands_in n xs ≡ true → length (rest_of (follower n xs) xs) < length (since n xs)
shorter n xs d h = let e : length (since n xs) ≡ suc (length (rest_of (follower n xs) xs)) = ap length (step n xs d h) in omega (arith, e)
