-- Writes at places of one buffer. This project's own.
use Rattle.std.specs.Prelude.{◌≡◌, ℕ, ◌+◌, List, ◌++◌, length, take}

-- the new buffer has these bytes behind the first `at` bytes of the old one, up to `end`
pub record Placed (old new : List ℕ) (at : ℕ) (bytes : List ℕ) (end : ℕ) : Type 0 where
  pub front : take end new ≡ take at old ++ bytes
  pub moved : end ≡ at + length bytes
  pub same : length new ≡ length old
