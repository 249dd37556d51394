-- The names of the threads.
use Rattle.std.proofs.Common.{◌≡◌, ◌<◌, ℕ, zero, suc, ◌+◌, List, [], ◌∷◌, ◌++◌, length, get_or, subst, ◌∙◌, refl, Bool, true, false, arith}
use Rattle.std.specs.Prelude.{◌&&◌, codes, decimal}
use Rattle.std.specs.Fmt.{digits}
use Rattle.std.specs.List.{list_all, range_with_len}
use Rattle.std.proofs.lemmas.List.FromFn.{get_or-range_with_len, length-range_with_len}
use Rattle.words_script.specs.Names.{is_name}

abbrev named : ℕ → Bool
named k = is_name (codes "t" ++ decimal k)

each_named : list_all named (range_with_len 0 64) ≡ true
unfolding digits
each_named = refl

both : (a b : Bool) → (a && b) ≡ true → (a ≡ true) × (b ≡ true)
both true b e = (refl, e)
both false b e = absurd (let f : false ≡ true = e in cc)

all_at : (p : ℕ → Bool) (xs : List ℕ) (i d : ℕ) → i < length xs → list_all p xs ≡ true → p (get_or xs i d) ≡ true
all_at p [] i d h e = absurd (omega arith)
all_at p (x ∷ xs) zero d h e = (both (p x) (list_all p xs) e).0
all_at p (x ∷ xs) (suc i) d h e = all_at p xs i d (omega arith) (both (p x) (list_all p xs) e).1

pub thread_named : (k : ℕ) → k < 64 → is_name (codes "t" ++ decimal k) ≡ true
thread_named k h =
    let same : get_or (range_with_len 0 64) k 0 ≡ 0 + k = get_or-range_with_len 0 64 k 0 h in
    let number : 0 + k ≡ k = omega arith in
    let room : k < length (range_with_len 0 64) = omega (arith, length-range_with_len 0 64) in
    subst (λ j. named j ≡ true) (same ∙ number) (all_at named (range_with_len 0 64) k 0 room each_named)
