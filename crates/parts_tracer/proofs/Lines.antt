-- The lines of several events.
use Rattle.std.proofs.Common.{◌≡◌, ℕ, List, [], ◌∷◌, ◌++◌, refl, sym, ◌∙◌, ap, append_assoc}
use Rattle.words_trace.specs.Text.{Entry, line, lines}

-- the lines of events, one part after the other
pub lines-append : (names : List (List ℕ)) (xs ys : List Entry) → lines names (xs ++ ys) ≡ lines names xs ++ lines names ys
lines-append names [] ys = refl
lines-append names (e ∷ es) ys =
    ap (λ t. line names e.time e.event ++ t) (lines-append names es ys) ∙ sym (append_assoc (line names e.time e.event) (lines names es) (lines names ys))
