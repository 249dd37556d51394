-- One row behind another.
use Rattle.std.proofs.Common.{◌≡◌, ◌∙◌, ◌+◌, List, [], ◌∷◌, ◌++◌, ap, append-nil, append_assoc, arith, refl, suc, sym, zero, ℕ}
use Rattle.words_script.specs.declared.decl.Decl.{Decl}
use Rattle.kernel_texts.specs.Rows.{list_text}
use Rattle.kernel_texts.specs.Kept.{kept_below}
use Rattle.kernel_looks.specs.Nothings.{lists_from}

pub kept_sum : (f : ℕ → List (List ℕ)) (a n all : ℕ) → all ≡ a + n → kept_below f all ≡ kept_below f a ++ kept_below (λ (i : ℕ). f (a + i)) n
kept_sum f a zero all is = let same : all ≡ a = omega (arith, is) in ap (kept_below f) same ∙ sym (append-nil (kept_below f a))
kept_sum f a (suc n) all is =
    let more : all ≡ suc (a + n) = omega (arith, is) in
    ap (kept_below f) more ∙ ap (λ (ts : List (List ℕ)). ts ++ f (a + n)) (kept_sum f a n (a + n) refl) ∙ append_assoc (kept_below f a) (kept_below (λ (i : ℕ). f (a + i)) n) (f (a + n))

pub kept_like : (f g : ℕ → List (List ℕ)) (n : ℕ) → ((i : ℕ) → f i ≡ g i) → kept_below f n ≡ kept_below g n
kept_like f g zero same = refl
kept_like f g (suc n) same = ap (λ (ts : List (List ℕ)). ts ++ f n) (kept_like f g n same) ∙ ap (λ (t : List (List ℕ)). kept_below g n ++ t) (same n)

-- those behind some
pub lists_behind : (decls : List Decl) (lists : List (List ℕ)) (from a n : ℕ) → lists_from decls lists from (a + n) ≡ lists_from decls lists from a ++ lists_from decls lists (from + a) n
lists_behind decls lists from a n =
    kept_sum (λ (i : ℕ). list_text decls 255 lists (from + i) ∷ []) a n (a + n) refl
    ∙ ap (λ (ts : List (List ℕ)). lists_from decls lists from a ++ ts)
    (kept_like (λ (i : ℕ). list_text decls 255 lists (from + (a + i)) ∷ []) (λ (i : ℕ). list_text decls 255 lists (from + a + i) ∷ []) n
    (λ i. let here : from + (a + i) ≡ from + a + i = omega arith in ap (λ (k : ℕ). list_text decls 255 lists k ∷ []) here))
