-- The row that fits, in a table of three parts.
use Rattle.std.proofs.Common.{◌≡◌, ℕ, List, ◌++◌, sym, ◌∙◌, ap, Option, None, Some}
use Rattle.std.proofs.lemmas.List.Folds.{find-append}
use Rattle.std.specs.Option.{option_or}
use Rattle.script_table.specs.Patterns.{Row}
use Rattle.script_table.specs.LineFaults.{fits, fitting_row}

pub fitting_parts : (xs ys zs : List Row) (words : List (List ℕ)) → fitting_row (xs ++ (ys ++ zs)) words ≡ option_or (fitting_row xs words) (option_or (fitting_row ys words) (fitting_row zs words))
fitting_parts xs ys zs words =
    find-append (λ (row : Row). fits row.places words) xs (ys ++ zs)
    ∙ ap (option_or (fitting_row xs words)) (find-append (λ (row : Row). fits row.places words) ys zs)

pub in_first : (xs ys zs : List Row) (words : List (List ℕ)) (r : Row) → Some r ≡ fitting_row xs words → Some r ≡ fitting_row (xs ++ (ys ++ zs)) words
in_first xs ys zs words r h = sym (fitting_parts xs ys zs words ∙ ap (λ o. option_or o (option_or (fitting_row ys words) (fitting_row zs words))) (sym h))

pub in_later : (xs ys zs : List Row) (words : List (List ℕ)) (o : Option Row) → None ≡ fitting_row xs words → o ≡ option_or (fitting_row ys words) (fitting_row zs words) → o ≡ fitting_row (xs ++ (ys ++ zs)) words
in_later xs ys zs words o none h = h ∙ sym (fitting_parts xs ys zs words ∙ ap (λ p. option_or p (option_or (fitting_row ys words) (fitting_row zs words))) (sym none))

pub in_second : (xs ys zs : List Row) (words : List (List ℕ)) (r : Row) → None ≡ fitting_row xs words → Some r ≡ fitting_row ys words → Some r ≡ fitting_row (xs ++ (ys ++ zs)) words
in_second xs ys zs words r none h = in_later xs ys zs words (Some r) none (ap (λ o. option_or o (fitting_row zs words)) h)

pub in_third : (xs ys zs : List Row) (words : List (List ℕ)) (o : Option Row) → None ≡ fitting_row xs words → None ≡ fitting_row ys words → o ≡ fitting_row zs words → o ≡ fitting_row (xs ++ (ys ++ zs)) words
in_third xs ys zs words o none none' h = in_later xs ys zs words o none (h ∙ ap (λ p. option_or p (fitting_row zs words)) none')
