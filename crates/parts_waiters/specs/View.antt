-- The places of the waiters with the lists that hold them.
use Rattle.std.specs.Prelude.{true, ◌≡◌}
use Rattle.parts_waiters.specs.declared.Waits.TheInside.{Inside}
use Rattle.parts_waiters.specs.Bound.{AreAlike}
use Rattle.parts_waiters.specs.Held.{AreHeld}

pub record IsInside (w : Inside) : Type 0 where
  pub held : AreHeld w.places.items w.links
  pub alike : w.alike ≡ true → AreAlike w.places.items
