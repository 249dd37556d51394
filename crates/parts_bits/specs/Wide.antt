-- What is known of the words for the numbers from 64 on without a look at them (this project's own).
use Rattle.std.specs.Prelude.{◌≡◌, ℕ, Bool, List, false, true}
use Rattle.parts_bits.specs.Sets.{has}

-- it tells whether there is a number
pub record TellsAny (is : Bool) (words : List ℕ) : Type 0 where
  pub some : is ≡ true → (t : ℕ) × (has t words ≡ true)
  pub none : is ≡ false → (t : ℕ) → has t words ≡ false
