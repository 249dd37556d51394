-- Texts of facts that are not looked at, since none of them changes.
use Rattle.std.proofs.Common.{List, [], ap, refl, ℕ, ◌∙◌, ◌∷◌, ◌≡◌, ◌++◌}
use Rattle.kernel_texts.specs.Changed.{changed_lines}
use Rattle.kernel_looks.proofs.Looking.{line_same}

-- what is told as before has no lines
pub no_lines : (now : ℕ) (abouts texts : List (List ℕ)) → changed_lines now abouts texts texts ≡ []
no_lines now [] texts = refl
no_lines now (a ∷ abouts) [] = refl
no_lines now (a ∷ abouts) (t ∷ texts) = ap (λ (xs : List ℕ). xs ++ changed_lines now abouts texts texts) (line_same now a t) ∙ no_lines now abouts texts
