-- What is known of a set of numbers without a look at them.
use Rattle.std.specs.Prelude.{◌≡◌, Bool, List, false, true, ℕ}
use Rattle.parts_bits.specs.Sets.{has}

-- where a set is known to be empty, it has no number
pub record TellsEmpty (is : Bool) (numbers : List ℕ) : Type 0 where
  pub none : is ≡ true → (n : ℕ) → has n numbers ≡ false
