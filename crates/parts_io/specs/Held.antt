-- Bytes that are held back behind those that a writer tells. This project's own.
use Rattle.std.specs.Prelude.{ℕ, List, ◌++◌, Option, None, Some}

-- what the writer tells, and the held bytes behind it
abbrev pub with_held : Option (List ℕ) → List ℕ → Option (List ℕ)
with_held None held = None
with_held (Some sent) held = Some (sent ++ held)
