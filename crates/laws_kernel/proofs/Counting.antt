-- How many members of a list pass, and how many can where each number stands once at most.
use Rattle.std.proofs.Common.{◌≡◌, ◌≤◌, ◌<◌, ◌+◌, ℕ, zero, suc, List, [], ◌∷◌, Bool, true, false, Option, None, Some, arith, length, refl, subst}
use Rattle.std.specs.Prelude.{is_some, ◌||◌, ◌==◌}
use Rattle.std.specs.List.{list_any}
use Rattle.rules_machine.specs.GoodState.{count_of}
use Rattle.rules_machine.specs.Lists.{is}
use Rattle.rules_moves.proofs.Waiters.Best.{Each}

-- 1 where it passes, else 0
abbrev once : Bool → ℕ
once true = 1
once false = 0

once_either : (a b : Bool) → once (a || b) ≤ once a + once b
once_either true b = omega arith
once_either false b = omega arith

once_weaker : (a b : Bool) → (a ≡ true → b ≡ true) → once a ≤ once b
once_weaker true true h = omega arith
once_weaker true false h = absurd (let e : false ≡ true = h refl in cc)
once_weaker false b h = omega arith

once_of_three : (a b c : Bool) → (a || b || c) ≡ true → 1 ≤ once a + once b + once c
once_of_three true b c h = omega arith
once_of_three false true c h = omega arith
once_of_three false false true h = omega arith
once_of_three false false false h = absurd cc

module _ {X : Type 0} where
  count_more : (passes : X → Bool) (x : X) (xs : List X) → count_of passes (x ∷ xs) ≡ once (passes x) + count_of passes xs
  count_more passes x xs = by_case (passes x) refl
    where
      by_case : (b : Bool) → passes x ≡ b → count_of passes (x ∷ xs) ≡ once b + count_of passes xs
      by_case true e = rw e (omega arith)
      by_case false e = rw e (omega arith)

  pub count_within : (passes : X → Bool) (xs : List X) → count_of passes xs ≤ length xs
  count_within passes [] = omega arith
  count_within passes (x ∷ xs) =
      let more = count_more passes x xs in let rest = count_within passes xs in let one = once_weaker (passes x) true (λ e. refl) in omega (arith, more, rest, one)

  count_weaker : (p q : X → Bool) (xs : List X) → Each (λ (x : X). p x ≡ true → q x ≡ true) xs → count_of p xs ≤ count_of q xs
  count_weaker p q [] h = omega arith
  count_weaker p q (x ∷ xs) h =
      let a = count_more p x xs in let b = count_more q x xs in let one = once_weaker (p x) (q x) h.0 in let rest = count_weaker p q xs h.1 in omega (arith, a, b, one, rest)

  count_either : (p q : X → Bool) (xs : List X) → count_of (λ (x : X). p x || q x) xs ≤ count_of p xs + count_of q xs
  count_either p q [] = omega arith
  count_either p q (x ∷ xs) =
      let a = count_more p x xs in
      let b = count_more q x xs in
      let both = count_more (λ (x : X). p x || q x) x xs in
      let one = once_either (p x) (q x) in
      let rest = count_either p q xs in omega (arith, a, b, both, one, rest)

  -- each passes one of three
  pub all_counted : (p q r : X → Bool) (xs : List X) → Each (λ (x : X). (p x || q x || r x) ≡ true) xs → length xs ≤ count_of p xs + count_of q xs + count_of r xs
  all_counted p q r [] h = omega arith
  all_counted p q r (x ∷ xs) h =
      let a = count_more p x xs in
      let b = count_more q x xs in
      let c = count_more r x xs in
      let one = once_of_three (p x) (q x) (r x) h.0 in
      let rest = all_counted p q r xs h.1 in omega (arith, a, b, c, one, rest)

  pub none_passes : (passes : X → Bool) (xs : List X) → list_any passes xs ≡ false → count_of passes xs ≡ 0
  none_passes passes [] e = refl
  none_passes passes (x ∷ xs) e =
      let h : passes x ≡ false = grind arith in
      let rest : count_of passes xs ≡ 0 = none_passes passes xs (grind arith) in
      grind arith

-- ---- numbers below a bound

abbrev below : ℕ → Option ℕ → Bool
below zero o = false
below (suc n) o = is o n || below n o

below_all : (k n : ℕ) → k < n → below n (Some k) ≡ true
below_all k zero lt = absurd (omega (arith, lt))
below_all k (suc n) lt = by_case (k == n) refl (below_all k n)
  where
    by_case : (b : Bool) → (k == n) ≡ b → (k < n → below n (Some k) ≡ true) → (k == n || below n (Some k)) ≡ true
    by_case true e rest = rw e refl
    by_case false e rest = let less : k < n = grind (arith, e, lt) in rw e (rest less)

same_number : (j n : ℕ) → (j == n) ≡ true → j ≡ n
same_number j n e = grind arith

other_number : (j n : ℕ) → (j == n) ≡ false → j < suc n → j < n
other_number j n e lt = grind (arith, e, lt)

module _ {X : Type 0} (number : X → Option ℕ) where
  abbrev OneEach : List X → Type 0
  OneEach xs = (k : ℕ) → count_of (λ (x : X). is (number x) k) xs ≤ 1

  numbers_few : (n : ℕ) (xs : List X) → OneEach xs → count_of (λ (x : X). below n (number x)) xs ≤ n
  numbers_few zero [] one = omega arith
  numbers_few zero (x ∷ xs) one = none xs
    where
      none : (ys : List X) → count_of (λ (x : X). false) ys ≤ 0
      none [] = omega arith
      none (y ∷ ys) = none ys
  numbers_few (suc n) xs one =
      let either = count_either (λ (x : X). is (number x) n) (λ (x : X). below n (number x)) xs in let it = one n in let rest = numbers_few n xs one in omega (arith, either, it, rest)

  numbers_fewer : (j n : ℕ) (xs : List X) → OneEach xs → j < n → count_of (λ (x : X). is (number x) j) xs ≡ 0 → count_of (λ (x : X). below n (number x)) xs + 1 ≤ n
  numbers_fewer j zero xs one lt none = absurd (omega (arith, lt))
  numbers_fewer j (suc n) xs one lt none = by_case (j == n) refl (λ less. numbers_fewer j n xs one less none)
    where
      by_case : (b : Bool) → (j == n) ≡ b → (j < n → count_of (λ (x : X). below n (number x)) xs + 1 ≤ n) → count_of (λ (x : X). below (suc n) (number x)) xs + 1 ≤ suc n
      by_case true e fewer =
          let either = count_either (λ (x : X). is (number x) n) (λ (x : X). below n (number x)) xs in
          let it = subst (λ (i : ℕ). count_of (λ (x : X). is (number x) i) xs ≡ 0) (same_number j n e) none in
          let rest = numbers_few n xs one in omega (arith, either, it, rest)
      by_case false e fewer =
          let either = count_either (λ (x : X). is (number x) n) (λ (x : X). below n (number x)) xs in
          let it = one n in
          let rest = fewer (other_number j n e lt) in omega (arith, either, it, rest)

  abbrev Numbered : ℕ → X → Type 0
  Numbered n x = (k : ℕ) → is (number x) k ≡ true → k < n

  some_below : (n : ℕ) (xs : List X) → Each (Numbered n) xs → Each (λ (x : X). is_some (number x) ≡ true → below n (number x) ≡ true) xs
  some_below n [] h = tt
  some_below n (x ∷ xs) h = (of_number (number x) h.0, some_below n xs h.1)
    where
      of_number : (o : Option ℕ) → ((k : ℕ) → is o k ≡ true → k < n) → is_some o ≡ true → below n o ≡ true
      of_number None all some = absurd cc
      of_number (Some k) all some = let itself : (k == k) ≡ true = grind arith in below_all k n (all k itself)

  -- as many as there are numbers, at most
  pub some_few : (n : ℕ) (xs : List X) → Each (Numbered n) xs → OneEach xs → count_of (λ (x : X). is_some (number x)) xs ≤ n
  some_few n xs h one =
      let weaker = count_weaker (λ (x : X). is_some (number x)) (λ (x : X). below n (number x)) xs (some_below n xs h) in let few = numbers_few n xs one in omega (arith, weaker, few)

  -- and fewer where one is not there
  pub some_fewer : (j n : ℕ) (xs : List X) → Each (Numbered n) xs → OneEach xs → j < n → count_of (λ (x : X). is (number x) j) xs ≡ 0 → count_of (λ (x : X). is_some (number x)) xs + 1 ≤ n
  some_fewer j n xs h one lt none =
      let weaker = count_weaker (λ (x : X). is_some (number x)) (λ (x : X). below n (number x)) xs (some_below n xs h) in let few = numbers_fewer j n xs one lt none in omega (arith, weaker, few)
