-- The line of a refused text.
use Rattle.std.specs.Prelude.{ℕ, List, ◌++◌, codes, decimal}

-- the line of a fault: where it is, and its number and its name
abbrev pub refused_line : ℕ → ℕ → List ℕ → List ℕ
refused_line line number name = codes "refused " ++ decimal line ++ codes " " ++ decimal number ++ codes " " ++ name ++ codes "\n"
