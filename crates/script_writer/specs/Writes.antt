-- What a call that writes does to its sink.
use Rattle.std.specs.Prelude.{ℕ, List, Option, Result}
use Rattle.parts_io.specs.declared.outside.Failed.{Failed}
use Rattle.parts_io.specs.Bytes.{WritesAll}
use Rattle.parts_io.specs.Causes.{HasCause}

-- `Ok` appends the text due and leaves the count of faults; a failure appends a part of it, and the count rose
pub record Writes {K : Type 0} (text : K → Option (List ℕ)) (faults : K → ℕ) (old new : K) (result : Result (Unit {0}) Failed) (due : List ℕ) : Type 0 where
  pub written : WritesAll (text old) (text new) result due
  pub cause : HasCause (faults old) (faults new) result
