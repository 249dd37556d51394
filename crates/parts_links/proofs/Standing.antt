-- Where nodes stand, and where they stand after a node was taken out or put in.
use Rattle.std.proofs.Common.{◌≡◌, ◌≢◌, ◌⊎◌, inl, inr, ⊎_elim, ℕ, zero, suc, ◌<◌, ◌≤◌, true, false, Some, None, List, [], ◌∷◌, ◌++◌, length, map, set, slice_get, refl, sym, ap, subst, ◌∙◌, arith}
use Rattle.std.proofs.lemmas.List.{get_or-set_same, get_or-set_other}
use Rattle.std.proofs.lemmas.Bool.Decides.{nat_tests}
use Rattle.parts_links.specs.Links.{Lists, list_at, stands_in, stands_at, on_a_list, without, placed_before, OthersStay, StandOnce}
use Rattle.parts_links.proofs.Chains.{decide, equal}
use Rattle.parts_links.proofs.Linkeds.{list_at_map, length_map}

-- ---- one list

pub stays_in : (n i : ℕ) (xs : List ℕ) → i ≢ n → stands_in i (without n xs) ≡ stands_in i xs
stays_in n i [] other = refl
stays_in n i (x ∷ xs) other = grind (arith, nat_tests, stays_in n i xs)

pub absent_same : (n : ℕ) (xs : List ℕ) → stands_in n xs ≡ false → without n xs ≡ xs
absent_same n [] h = refl
absent_same n (x ∷ xs) h = grind (arith, nat_tests, absent_same n xs)

pub in_back : (n i : ℕ) (xs : List ℕ) → stands_in i xs ≡ true → stands_in i (xs ++ n ∷ []) ≡ true
in_back n i [] h = cc
in_back n i (x ∷ xs) h = grind (arith, nat_tests, in_back n i xs)

pub back_in : (n : ℕ) (xs : List ℕ) → stands_in n (xs ++ n ∷ []) ≡ true
back_in n [] = grind (arith, nat_tests)
back_in n (x ∷ xs) = grind (arith, nat_tests, back_in n xs)

only_back : (n i : ℕ) (xs : List ℕ) → i ≢ n → stands_in i (xs ++ n ∷ []) ≡ true → stands_in i xs ≡ true
only_back n i [] other h = grind (arith, nat_tests)
only_back n i (x ∷ xs) other h = grind (arith, nat_tests, only_back n i xs)

pub of_back : (n i : ℕ) (xs : List ℕ) → stands_in i (xs ++ n ∷ []) ≡ true → (stands_in i xs ≡ true) ⊎ (i ≡ n)
of_back n i xs h = ⊎_elim (λ same. inr same) (λ other. inl (only_back n i xs other h)) (equal i n)

pub shorter_without : (n : ℕ) (xs : List ℕ) → stands_in n xs ≡ true → length (without n xs) < length xs
shorter_without n [] h = cc
shorter_without n (x ∷ xs) h = grind (arith, nat_tests, shorter_without n xs)

pub no_longer : (n : ℕ) (xs : List ℕ) → length (without n xs) ≤ length xs
no_longer n [] = omega arith
no_longer n (x ∷ xs) = grind (arith, nat_tests, no_longer n xs)

pub head_in : (n : ℕ) (xs : List ℕ) → Some n ≡ slice_get xs 0 → stands_in n xs ≡ true
head_in n [] h = cc
head_in n (x ∷ xs) h = grind (arith, nat_tests)

pub no_head : (xs : List ℕ) → None ≡ slice_get xs 0 → xs ≡ []
no_head [] h = refl
no_head (x ∷ xs) h = cc

-- ---- all lists

pub at_map : (n k : ℕ) (ls : List (List ℕ)) → list_at (map (without n) ls) k ≡ without n (list_at ls k)
at_map n k ls = list_at_map (without n) refl ls k

pub length_without : (n : ℕ) (ls : List (List ℕ)) → length (map (without n) ls) ≡ length ls
length_without n ls = length_map (without n) ls

pub within : (n k : ℕ) (ls : List (List ℕ)) → stands_at n k ls ≡ true → k < length ls
within n k [] h = cc
within n zero (xs ∷ ls) h = omega arith
within n (suc k) (xs ∷ ls) h = omega (arith, within n k ls h)

pub on_at : (n k : ℕ) (ls : List (List ℕ)) → stands_at n k ls ≡ true → on_a_list n ls ≡ true
on_at n k [] h = cc
on_at n zero (xs ∷ ls) h = grind (arith, nat_tests)
on_at n (suc k) (xs ∷ ls) h = grind (arith, nat_tests, on_at n k ls)

pub off_at : (n k : ℕ) (ls : List (List ℕ)) → on_a_list n ls ≡ false → stands_at n k ls ≡ false
off_at n k ls off = ⊎_elim (λ t. let no = on_at n k ls t in cc) (λ f. f) (decide (stands_at n k ls))

pub off_all : (n : ℕ) (ls : List (List ℕ)) → ((k : ℕ) → stands_at n k ls ≡ false) → on_a_list n ls ≡ false
off_all n [] none = refl
off_all n (xs ∷ ls) none = (let here : stands_in n xs ≡ false = none 0 in let rest = off_all n ls (λ k. none (suc k)) in grind (arith, here, rest))

pub alone_on : (l : Lists) → StandOnce l → (u k : ℕ) → stands_at u k l.lists ≡ true → (j : ℕ) → j ≢ k → stands_at u j l.lists ≡ false
alone_on l once u k h j other =
    ⊎_elim (λ t. absurd (other (once.one_list u j k (within u j l.lists t) (within u k l.lists h) t h))) (λ f. f) (decide (stands_at u j l.lists))

-- ---- a node is taken out

pub others_stay : (l : Lists) (n : ℕ) → StandOnce l → OthersStay n l.lists (map (without n) l.lists)
others_stay l n once j k h other = at_map n k l.lists ∙ absent_same n (list_at l.lists k) (alone_on l once n j h k other)

-- ---- a node is put in at the end of the k-th list

module _ (n k : ℕ) (ls : List (List ℕ)) where
  abbrev with_last : List (List ℕ)
  with_last = set ls k (list_at ls k ++ n ∷ [])

  pub put_same : k < length ls → list_at with_last k ≡ list_at ls k ++ n ∷ []
  put_same l = get_or-set_same ls k (list_at ls k ++ n ∷ []) [] l

  pub put_other : (j : ℕ) → j ≢ k → list_at with_last j ≡ list_at ls j
  put_other j other = get_or-set_other ls k j (list_at ls k ++ n ∷ []) [] other

  pub put_stays : (i j : ℕ) → k < length ls → stands_at i j ls ≡ true → stands_at i j with_last ≡ true
  put_stays i j l h =
      ⊎_elim
      (λ same. let h' : stands_at i k ls ≡ true = rw (← same) h in
      rw same (ap (λ (xs : List ℕ). stands_in i xs) (put_same l) ∙ in_back n i (list_at ls k) h'))
      (λ other. ap (λ (xs : List ℕ). stands_in i xs) (put_other j other) ∙ h)
      (equal j k)

  pub put_there : k < length ls → stands_at n k with_last ≡ true
  put_there l = ap (λ (xs : List ℕ). stands_in n xs) (put_same l) ∙ back_in n (list_at ls k)

  pub put_back : (i j : ℕ) → k < length ls → stands_at i j with_last ≡ true → (stands_at i j ls ≡ true) ⊎ ((i ≡ n) × (j ≡ k))
  put_back i j l h =
      ⊎_elim
      (λ same. let h' : stands_at i k with_last ≡ true = subst (λ m. stands_at i m with_last ≡ true) same h in
      ⊎_elim (λ t. inl (subst (λ m. stands_at i m ls ≡ true) (sym same) t)) (λ e. inr (e, same)) (of_back n i (list_at ls k) (sym (ap (λ (xs : List ℕ). stands_in i xs) (put_same l)) ∙ h')))
      (λ other. inl (sym (ap (λ (xs : List ℕ). stands_in i xs) (put_other j other)) ∙ h))
      (equal j k)

-- ---- a node is put before one that stands on the k-th list alone

placed_off : (u n : ℕ) (xs : List ℕ) → stands_in u xs ≡ false → placed_before u n xs ≡ xs
placed_off u n [] h = refl
placed_off u n (x ∷ xs) h = grind (arith, nat_tests, placed_off u n xs)

placed_nowhere : (u n : ℕ) (ls : List (List ℕ)) → ((j : ℕ) → stands_at u j ls ≡ false) → map (placed_before u n) ls ≡ ls
placed_nowhere u n [] none = refl
placed_nowhere u n (xs ∷ ls) none =
    let here : placed_before u n xs ≡ xs = placed_off u n xs (none 0) in let rest : map (placed_before u n) ls ≡ ls = placed_nowhere u n ls (λ j. none (suc j)) in rw (here, rest) refl

pub placed_at : (u n k : ℕ) (ls : List (List ℕ)) → k < length ls → ((j : ℕ) → j ≢ k → stands_at u j ls ≡ false) → map (placed_before u n) ls ≡ set ls k (placed_before u n (list_at ls k))
placed_at u n k [] l none = absurd (omega (arith, l))
placed_at u n zero (xs ∷ ls) l none = let rest : map (placed_before u n) ls ≡ ls = placed_nowhere u n ls (λ j. none (suc j) (λ e. omega (arith, e))) in rw rest refl
placed_at u n (suc k) (xs ∷ ls) l none =
    let here : placed_before u n xs ≡ xs = placed_off u n xs (none 0 (λ e. omega (arith, e))) in
    let rest : map (placed_before u n) ls ≡ set ls k (placed_before u n (list_at ls k)) = placed_at u n k ls (omega (arith, l)) (λ j other. none (suc j) (λ e. other (omega (arith, e)))) in
    rw (here, rest) refl
