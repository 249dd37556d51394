-- Words of 64 bits as a set of small numbers (this project's own).
use Rattle.std.specs.Prelude.{◌≡◌, ◌≢◌, ℕ, ◌<◌, ◌≤◌, ◌/◌, ◌%◌, Bool, false, true, ◌==◌, List, length, nat_lt, slice_index, if◌then◌else◌}
use Rattle.std.specs.Int.{bit_at}

-- whether the bit is set, from the lowest bit of the first word on
abbrev pub is_set : ℕ → List ℕ → Bool
is_set i words = bit_at (slice_index words (i / 64)) (i % 64) == 1

-- the bit alone changes
pub record ChangesBit (i : ℕ) (bit : Bool) (old new : List ℕ) : Type 0 where
  pub changed : is_set i new ≡ bit
  pub others : (k : ℕ) → k ≢ i → is_set k new ≡ is_set k old

-- the bit is set, and none below it is
pub record IsLowestSet (words : List ℕ) (i : ℕ) : Type 0 where
  pub itself : is_set i words ≡ true
  pub below : (k : ℕ) → k < i → is_set k words ≡ false

-- no bit is set
abbrev pub NoneIsSet : List ℕ → Type 0
NoneIsSet words = (k : ℕ) → is_set k words ≡ false

-- of up to 64 words those that are not 0 are marked by their bits
pub record AreUsed (used : ℕ) (words : List ℕ) : Type 0 where
  pub few : length words ≤ 64
  pub marked : (i : ℕ) → i < 64 → bit_at used i ≡ (if nat_lt 0 (slice_index words i) then 1 else 0)
