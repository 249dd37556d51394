-- How much of a source was read. This project's own.
use Rattle.std.specs.Prelude.{ℕ, ◌≤◌, List, Option, length, codes}
use Rattle.std.specs.Io.KnownBytes.{Consumes}
use Rattle.parts_io.specs.Causes.{GrewBy}
use Rattle.parts_io.specs.declared.whole.ReadEnd.{ReadEnd}
use Rattle.parts_io.specs.declared.whole.ReadEnd.TheVariants.{ReadFault, TooLong, OutOfMemory}

-- at most so many bytes were taken: `rest` is what the source tells of its bytes before and after, `taken` its count
pub record TookAtMost (most : ℕ) (rest_before rest_now : Option (List ℕ)) (taken_before taken_now : ℕ) : Type 0 where
  pub bytes : List ℕ
  pub bound : length bytes ≤ most
  pub moved : Consumes rest_before rest_now bytes
  pub count : GrewBy (length bytes) taken_before taken_now

-- what is shown of it
abbrev pub text_of : ReadEnd → List ℕ
text_of ReadFault = codes "a read failed"
text_of TooLong = codes "too many bytes"
text_of OutOfMemory = codes "out of memory"
