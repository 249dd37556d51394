-- A step that is put into the innermost of the open blocks, which stands last.
use Rattle.std.proofs.Common.{◌≡◌, ℕ, List, [], ◌∷◌, ◌++◌, ◌+◌, length, take, set, reverse, get_or, sym, ◌∙◌, ap, arith}
use Rattle.std.specs.Prelude.{Some}
use Rattle.std.proofs.lemmas.List.{take_more, take_all, set_at, reverse-append, length-take-le}
use Rattle.words_script.specs.declared.body.Step.{Step}
use Rattle.script_table.specs.Build.{Opened, put_step}

pub put_last : (xs : List Opened) (o y : Opened) (s : Step) (k : ℕ) → length xs ≡ k + 1 → o ≡ get_or xs k o → y ≡ record o { steps = o.steps ++ s ∷ [] } →
    reverse (set xs k y) ≡ put_step (Some s) (reverse xs)
put_last xs o y s k long is_o is_y =
    let front = take k xs in
    let split : xs ≡ front ++ o ∷ [] = sym (take_all (k + 1) xs (omega arith)) ∙ (take_more xs k o (omega arith) ∙ ap (λ (x : Opened). front ++ x ∷ []) (sym is_o)) in
    let short : length front ≡ k = length-take-le k xs (omega arith) in
    ap reverse (ap (λ l. set l k y) split ∙ set_at front o [] y k short) ∙ (reverse-append front (y ∷ []) ∙ (ap (λ (x : Opened). x ∷ reverse front) is_y
    ∙ ap (put_step (Some s)) (sym (ap reverse split ∙ reverse-append front (o ∷ [])))))
