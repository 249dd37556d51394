-- Who comes into a set of threads.
use Rattle.std.specs.Prelude.{◌≡◌, ℕ, List, None, Option, Some, true}
use Rattle.parts_bits.specs.Sets.{Turns}

-- that number alone comes in, where there is one
abbrev pub TakesIn : Option ℕ → List ℕ → List ℕ → Type 0
TakesIn None old new = new ≡ old
TakesIn (Some t) old new = Turns t true old new
