-- A run of bytes that pass a test, seen a vector at a time through the mask of those that fail it.
use Rattle.std.proofs.Common.{◌≡◌, ℕ, suc, zero, ◌+◌, ◌*◌, ◌<◌, ◌≤◌, Bool, true, false, not, cond, eqb, List, [], ◌∷◌, map, length, drop, take, min, get_or, refl, sym, ap, ◌∙◌, arith, inl, inr}
use Rattle.std.proofs.lemmas.Simd.{chunk-drop, length-chunk, leading_from_mask_l, trailing_mask_l}
use Rattle.std.proofs.lemmas.List.Folds.{prefix_len-append}
use Rattle.std.proofs.lemmas.List.Sums.{prefix_len-le-length, prefix_len_passes, prefix_len_stops}
use Rattle.std.proofs.lemmas.Bool.{eq-eqb, ne_eqb, cases_lt}
use Rattle.std.proofs.lemmas.Bool.Decides.{nat_tests}
use Rattle.std.specs.Prelude.{nat_lt}
use Rattle.std.specs.List.{prefix_len}
use lib.Lanes.{chunk, mask_l}
use lib.Count.{count_trailing_zeros}

taken_case : (b : Bool) (n k l : ℕ) → k ≡ min n l → cond b (1 + k) 0 ≡ min (suc n) (cond b (1 + l) 0)
taken_case true n k l e = omega arith
taken_case false n k l e = omega arith

-- the run among the first n bytes
pub taken : (q : ℕ → Bool) (xs : List ℕ) (n : ℕ) → prefix_len q (take n xs) ≡ min n (prefix_len q xs)
taken q [] zero = omega arith
taken q [] (suc n) = omega arith
taken q (x ∷ xs) zero = omega arith
taken q (x ∷ xs) (suc n) = taken_case (q x) n _ _ (taken q xs n)

none_fails : (b : Bool) (n l m : ℕ) → n ≤ l → cond (not b) (1 + n) 0 ≡ 1 + l → (n ≡ l → m ≡ 0) → cond b 1 0 + 2 * m ≡ 0
none_fails true n l m le e ih = let no : ⊥ = omega arith in absurd no
none_fails false n l m le e ih = let z = ih (omega arith) in omega arith

module _ (p : ℕ → Bool) where
  abbrev passes : ℕ → Bool
  passes x = not (p x)

  all_pass : (xs : List ℕ) → prefix_len passes xs ≡ length xs → mask_l (map p xs) ≡ 0
  all_pass [] e = refl
  all_pass (x ∷ xs) e = none_fails (p x) _ (length xs) _ (prefix_len-le-length passes xs) (omega arith) (all_pass xs)

  split : (d : List ℕ) (i n : ℕ) → prefix_len passes (drop i d) ≡ cond (eqb (prefix_len passes (chunk i n d)) (length (chunk i n d))) (length (chunk i n d) + prefix_len passes (drop (i + n) d)) (prefix_len passes (chunk i n d))
  split d i n = ap (prefix_len passes) (chunk-drop i n d) ∙ prefix_len-append passes (chunk i n d) (drop (i + n) d)

  pub run_through : (d : List ℕ) (i n : ℕ) → i + n ≤ length d → mask_l (map p (chunk i n d)) ≡ 0 → prefix_len passes (drop i d) ≡ n + prefix_len passes (drop (i + n) d)
  run_through d i n room none =
      let c = chunk i n d in
      split d i n ∙ ap (λ b. cond b (length c + prefix_len passes (drop (i + n) d)) (prefix_len passes c)) (eq-eqb _ _ (leading_from_mask_l p c none))
      ∙ ap (λ k. k + prefix_len passes (drop (i + n) d)) (length-chunk i n d room)

  pub run_stops : (d : List ℕ) (i n : ℕ) → i + n ≤ length d → n ≤ 64 → 0 < mask_l (map p (chunk i n d)) → prefix_len passes (drop i d) ≡ count_trailing_zeros 64 (mask_l (map p (chunk i n d)))
  run_stops d i n room short some =
      let c = chunk i n d in
      split d i n ∙ ap (λ b. cond b (length c + prefix_len passes (drop (i + n) d)) (prefix_len passes c)) (ne_eqb _ _ (λ (e : prefix_len passes c ≡ length c). omega (arith, all_pass c e)))
      ∙ sym (trailing_mask_l p 64 c (omega (arith, length-chunk i n d room)) some)

clash : (b : Bool) → b ≡ true → b ≡ false → ⊥
clash true e f = cc
clash false e f = cc

-- byte by byte
pub one_more : (q : ℕ → Bool) (xs : List ℕ) (n k : ℕ) → k ≤ prefix_len q (take n xs) → k < n → n ≤ length xs → q (get_or xs k 0) ≡ true → k + 1 ≤ prefix_len q (take n xs)
one_more q xs n k so_far here room passed =
    let first = taken q xs n in
    elim (cases_lt k (prefix_len q xs)) [
      | inl more ↦ omega (arith, first)
      | inr none ↦
          let is : prefix_len q xs ≡ k = omega (arith, first) in
          absurd (clash (q (get_or xs k 0)) passed (ap (λ j. q (get_or xs j 0)) (sym is) ∙ prefix_len_stops q xs 0 (omega arith)))
    ]

pub ends_here : (q : ℕ → Bool) (xs : List ℕ) (n k : ℕ) → k ≤ prefix_len q (take n xs) → k < n → q (get_or xs k 0) ≡ false → k ≡ prefix_len q (take n xs)
ends_here q xs n k so_far here failed =
    let first = taken q xs n in
    elim (cases_lt k (prefix_len q xs)) [
      | inl more ↦ absurd (clash (q (get_or xs k 0)) (prefix_len_passes q xs k 0 more) failed)
      | inr none ↦ omega (arith, first)
    ]

pub ends_last : (q : ℕ → Bool) (xs : List ℕ) (n k : ℕ) → k ≤ prefix_len q (take n xs) → n ≤ k → k ≡ prefix_len q (take n xs)
ends_last q xs n k so_far all = omega (arith, taken q xs n)

-- the first n of 16 bytes
pub among_16 : (q : ℕ → Bool) (xs : List ℕ) (n : ℕ) → n < 16 → min (prefix_len q (take 16 xs)) n ≡ prefix_len q (take n xs)
among_16 q xs n short = omega (arith, taken q xs 16, taken q xs n)

pub before_16 : (q : ℕ → Bool) (xs : List ℕ) (n : ℕ) → n < 16 → nat_lt (prefix_len q (take 16 xs)) n ≡ nat_lt (prefix_len q (take n xs)) n
before_16 q xs n short = let a = taken q xs 16 in let b = taken q xs n in grind (arith, nat_tests, a, b)
