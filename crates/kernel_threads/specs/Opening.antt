-- The names of the threads, as they are declared.
use Rattle.std.specs.Prelude.{ℕ, List, Option, None, Some, slice_set}
use Rattle.rules_machine.specs.Declarations.{ThreadDecl}

-- a thread that is declared has that name
abbrev pub with_name : List (List ℕ) → ℕ → Option ThreadDecl → List (List ℕ)
with_name names t None = names
with_name names t (Some d) = slice_set names t d.name
