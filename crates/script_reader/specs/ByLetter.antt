-- Tables that serve for the lines that begin with one byte.
use Rattle.std.specs.Prelude.{ℕ, ◌≡◌, ◌+◌, ◌==◌, Bool, false, List, [], ◌∷◌}
use Rattle.script_table.specs.declared.pattern.Table.{Table}
use Rattle.script_table.specs.Patterns.{Row, rows_of}
use Rattle.script_table.specs.LineFaults.{fitting_row}

-- a word begins with this byte
abbrev pub begins : ℕ → List ℕ → Bool
begins b [] = false
begins b (c ∷ cs) = b == c

-- the table and the rows have the same pattern for each line that begins with this byte
abbrev pub Serves : List Row → ℕ → Table → Type 0
Serves rows b t = (cs : List ℕ) (ws : List (List ℕ)) → fitting_row (rows_of t) ((b ∷ cs) ∷ ws) ≡ fitting_row rows ((b ∷ cs) ∷ ws)

-- a table for each byte from b on
abbrev pub ServeFrom : List Row → ℕ → List Table → Type 0
ServeFrom rows b [] = Unit {0}
ServeFrom rows b (t ∷ ts) = Serves rows b t × ServeFrom rows (b + 1) ts
