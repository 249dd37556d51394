-- A set of numbers, a bit for each: that of number t is bit t % 64 of word t / 64 (this project's own).
use Rattle.std.specs.Prelude.{◌≡◌, ◌≢◌, ◌<◌, ◌≤◌, ◌/◌, ◌%◌, ◌==◌, ℕ, Bool, List, false, slice_index, true}
use Rattle.std.specs.Int.{bit_at}

-- whether the set has the number
abbrev pub has : ℕ → List ℕ → Bool
has t words = bit_at (slice_index words (t / 64)) (t % 64) == 1

-- the number alone comes in or goes out
pub record Turns (t : ℕ) (is : Bool) (old new : List ℕ) : Type 0 where
  pub itself : has t new ≡ is
  pub others : (u : ℕ) → u ≢ t → has u new ≡ has u old

-- the set has no number from there on
abbrev pub HasNoneFrom : ℕ → List ℕ → Type 0
HasNoneFrom from words = (t : ℕ) → from ≤ t → has t words ≡ false

-- the first number from there on that the set has
pub record IsFirstFrom (from : ℕ) (words : List ℕ) (t : ℕ) : Type 0 where
  pub low : from ≤ t
  pub itself : has t words ≡ true
  pub between : (u : ℕ) → from ≤ u → u < t → has u words ≡ false

-- the set has no number but that one
abbrev pub HasNoOther : ℕ → List ℕ → Type 0
HasNoOther t words = (u : ℕ) → u ≢ t → has u words ≡ false
