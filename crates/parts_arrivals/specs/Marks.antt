-- A set of ranks, a bit for each.
use Rattle.std.specs.Prelude.{◌≡◌, ◌≢◌, ℕ, ◌<◌, Bool, false, true}
use Rattle.parts_arrivals.specs.Held.{is_marked}

-- the mark of that rank alone changes
pub record ChangesMark (rank : ℕ) (marked : Bool) (old new : ℕ) : Type 0 where
  pub changed : is_marked rank new ≡ marked
  pub others : (k : ℕ) → k < 32 → k ≢ rank → is_marked k new ≡ is_marked k old

-- the rank is marked, and none above it is
pub record IsHighest (rank marks : ℕ) : Type 0 where
  pub small : rank < 32
  pub itself : is_marked rank marks ≡ true
  pub above : (k : ℕ) → rank < k → is_marked k marks ≡ false

abbrev pub NoneIsMarked : ℕ → Type 0
NoneIsMarked marks = (k : ℕ) → is_marked k marks ≡ false
