-- Bits of one word (this project's own).
use Rattle.std.specs.Prelude.{◌≡◌, ◌<◌, ◌≤◌, ℕ}
use Rattle.std.specs.Int.{bit_at}

-- the lowest bit from there on that is set
pub record IsFirstBit (from word bit : ℕ) : Type 0 where
  pub low : from ≤ bit
  pub itself : bit_at word bit ≡ 1
  pub between : (k : ℕ) → from ≤ k → k < bit → bit_at word k ≡ 0
