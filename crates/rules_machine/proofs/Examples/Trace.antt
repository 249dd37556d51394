-- The text of some lines.
use Rattle.std.specs.Prelude.{List, [], ℕ, ◌∷◌, ◌++◌}

abbrev pub text_of : List (List ℕ) → List ℕ
text_of [] = []
text_of (line ∷ lines) = line ++ 10 ∷ text_of lines
