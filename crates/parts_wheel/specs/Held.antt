-- When the fields of a wheel's slots hold due ticks (this project's own).
use Rattle.std.specs.Prelude.{◌≡◌, ◌≤◌, ℕ, List, Option, length}
use Rattle.parts_links.specs.Links.{Lists}
use Rattle.parts_wheel.specs.Slots.{AreMarked, AreFiled, AreSmall}
use Rattle.parts_wheel.specs.Moves.{IsSized}

pub record AreHeld (base : ℕ) (dues : List (Option ℕ)) (links : Lists) (occupied passed : List ℕ) : Type 0 where
  pub sized : IsSized links occupied
  pub set : length passed ≡ 16
  pub few : length dues ≤ 1024
  pub marked : AreMarked links.lists occupied
  pub filed : AreFiled base dues links.lists passed
  pub small : AreSmall dues
