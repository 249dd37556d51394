-- What a write does to the bytes that a sink tells.
use Rattle.std.specs.Prelude.{ℕ, List, take, Result, MatchResult, Option}
use Rattle.std.specs.Io.KnownBytes.{Appends}

-- a part of the bytes was appended, from their front
abbrev pub AppendsPart : Option (List ℕ) → Option (List ℕ) → List ℕ → Type 0
AppendsPart old new bytes = (k : ℕ) × Appends old new (take k bytes)

-- `Ok` appends all of the bytes, and a failure a part of them
abbrev pub WritesAll : {T E : Type 0} → Option (List ℕ) → Option (List ℕ) → Result T E → List ℕ → Type 0
WritesAll old new result bytes = MatchResult result (λ _. Appends old new bytes) (λ _. AppendsPart old new bytes)
