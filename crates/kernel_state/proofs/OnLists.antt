-- On which list a thread stands, where others move and where it moves itself.
use Rattle.std.proofs.Common.{◌≡◌, ◌≢◌, ◌<◌, ◌≤◌, ◌+◌, ◌-◌, ◌∙◌, ℕ, zero, suc, Bool, true, false, List, [], ◌∷◌, None, Option, Some, ap, arith, length, nat_lt, refl, sym}
use Rattle.std.specs.Prelude.{◌==◌}
use Rattle.rules_lists.specs.Threads.{stands_in, times}
use Rattle.rules_lists.specs.Lists.{prio_from, prio_of, to_head, to_tail, without}
use Rattle.rules_machine.proofs.Standing.{one_if, head_other, head_self, stands, stands_other, stands_without, tail_other, tail_self, head_length, tail_length, without_length}

-- ---- where a thread stands, and what is read there

abbrev pub Where : Option ℕ → ℕ → List (List ℕ) → Type 0
Where None t lists = (i : ℕ) → stands t i lists ≡ 0
Where (Some e) t lists = (1 ≤ e) × (e - 1 < length lists) × ((i : ℕ) → stands t i lists ≡ one_if (e - 1 == i))

not_in : (t : ℕ) (us : List ℕ) → times t us ≡ 0 → stands_in t us ≡ false
not_in t [] h = refl
not_in t (u ∷ us) h = grind (arith, not_in t us)

is_in : (t : ℕ) (us : List ℕ) → 1 ≤ times t us → stands_in t us ≡ true
is_in t [] h = absurd (omega arith)
is_in t (u ∷ us) h = grind (arith, is_in t us)

reads_none : (q t : ℕ) (lists : List (List ℕ)) → ((i : ℕ) → stands t i lists ≡ 0) → prio_from q t lists ≡ None
reads_none q t [] h = refl
reads_none q t (us ∷ lists) h = rw (not_in t us (h 0)) (reads_none (q + 1) t lists (λ i. h (suc i)))

suc_test : (j i : ℕ) → (suc j == suc i) ≡ (j == i)
suc_test j i = by_eq (j == i) refl
  where
    by_eq : (b : Bool) → (j == i) ≡ b → (suc j == suc i) ≡ b
    by_eq true e = grind arith
    by_eq false e = grind arith

reads_some : (q j t : ℕ) (lists : List (List ℕ)) → j < length lists → ((i : ℕ) → stands t i lists ≡ one_if (j == i)) → prio_from q t lists ≡ Some (q + j)
reads_some q j t [] lt h = absurd (omega arith)
reads_some q zero t (us ∷ lists) lt h = let here : 1 ≤ times t us = omega (arith, h 0) in rw (is_in t us here) (ap (λ (n : ℕ). Some n) (omega arith))
reads_some q (suc j) t (us ∷ lists) lt h =
    let z : one_if (suc j == 0) ≡ 0 = grind arith in
    let none : times t us ≡ 0 = h 0 ∙ z in
    let later = reads_some (q + 1) j t lists (omega arith) (λ i. h (suc i) ∙ ap one_if (suc_test j i)) in
    let e : (q + 1) + j ≡ q + suc j = omega arith in
    rw (not_in t us none) (later ∙ ap (λ (n : ℕ). Some n) e)

pub reads : (o : Option ℕ) (t : ℕ) (lists : List (List ℕ)) → Where o t lists → prio_of t lists ≡ o
reads None t lists h = reads_none 1 t lists h
reads (Some e) t lists h =
    let back : 1 + (e - 1) ≡ e = omega (arith, h.0) in
    reads_some 1 (e - 1) t lists h.1 h.2 ∙ ap (λ (n : ℕ). Some n) back

-- ---- where others move

-- whether it stands in a list, by how often it does
in_times : (t : ℕ) (us : List ℕ) → stands_in t us ≡ nat_lt 0 (times t us)
in_times t [] = refl
in_times t (u ∷ us) = grind (arith, in_times t us)

-- what is read of a thread goes by where it stands alone
prio_same : (q t : ℕ) (xs ys : List (List ℕ)) → length ys ≡ length xs → ((i : ℕ) → stands t i ys ≡ stands t i xs) → prio_from q t ys ≡ prio_from q t xs
prio_same q t [] [] long same = refl
prio_same q t [] (y ∷ ys) long same = absurd (omega (arith, long))
prio_same q t (x ∷ xs) [] long same = absurd (omega (arith, long))
prio_same q t (x ∷ xs) (y ∷ ys) long same =
    let here : stands_in t y ≡ stands_in t x = in_times t y ∙ ap (nat_lt 0) (same 0) ∙ sym (in_times t x) in
    let later = prio_same (q + 1) t xs ys (omega (arith, long)) (λ i. same (suc i)) in
    rw (here, later) refl

-- a thread that reads nowhere stands nowhere
none_times : (t : ℕ) (us : List ℕ) → stands_in t us ≡ false → times t us ≡ 0
none_times t [] h = refl
none_times t (u ∷ us) h = grind (arith, none_times t us)

pub stands_nowhere : (q t i : ℕ) (lists : List (List ℕ)) → prio_from q t lists ≡ None → stands t i lists ≡ 0
stands_nowhere q t i [] none = refl
stands_nowhere q t i (us ∷ lists) none = by_case (stands_in t us) refl (λ j rest. stands_nowhere (q + 1) t j lists rest)
  where
    at : (j : ℕ) → stands_in t us ≡ false → ((k : ℕ) → stands t k lists ≡ 0) → stands t j (us ∷ lists) ≡ 0
    at zero off later = none_times t us off
    at (suc j) off later = later j

    by_case : (b : Bool) → stands_in t us ≡ b → ((j : ℕ) → prio_from (q + 1) t lists ≡ None → stands t j lists ≡ 0) → stands t i (us ∷ lists) ≡ 0
    by_case true e later = absurd (let h : Some q ≡ None = rw e at none in cc)
    by_case false e later = let rest : prio_from (q + 1) t lists ≡ None = rw e at none in at i e (λ k. later k rest)

-- ---- where it moves itself

pub tail_there : (t p : ℕ) (lists : List (List ℕ)) → 1 ≤ p → p - 1 < length lists → prio_of t (to_tail t p lists) ≡ Some p
tail_there t p lists some small = reads (Some p) t (to_tail t p lists) (some, (let long = tail_length t p lists in rw long small), λ i. tail_self t i p lists small)

pub head_there : (t p : ℕ) (lists : List (List ℕ)) → 1 ≤ p → p - 1 < length lists → prio_of t (to_head t p lists) ≡ Some p
head_there t p lists some small = reads (Some p) t (to_head t p lists) (some, (let long = head_length t p lists in rw long small), λ i. head_self t i p lists small)

pub gone : (t : ℕ) (lists : List (List ℕ)) → prio_of t (without t lists) ≡ None
gone t lists = reads None t (without t lists) (λ i. stands_without t i lists)

-- ---- where another moves

differ : (t u : ℕ) → u ≢ t → (t == u) ≡ false
differ t u other = grind arith

pub tail_apart : (t u p : ℕ) (lists : List (List ℕ)) → p - 1 < length lists → u ≢ t → prio_of u (to_tail t p lists) ≡ prio_of u lists
tail_apart t u p lists small other = prio_same 1 u lists (to_tail t p lists) (tail_length t p lists) (λ i. tail_other t u i p lists (differ t u other) small)

pub head_apart : (t u p : ℕ) (lists : List (List ℕ)) → p - 1 < length lists → u ≢ t → prio_of u (to_head t p lists) ≡ prio_of u lists
head_apart t u p lists small other = prio_same 1 u lists (to_head t p lists) (head_length t p lists) (λ i. head_other t u i p lists (differ t u other) small)

pub gone_apart : (t u : ℕ) (lists : List (List ℕ)) → u ≢ t → prio_of u (without t lists) ≡ prio_of u lists
gone_apart t u lists other = prio_same 1 u lists (without t lists) (without_length t lists) (λ i. stands_other t u i lists (differ t u other))
