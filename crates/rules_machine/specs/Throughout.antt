-- The states of a run: that after each number of ticks, and each that an item of an instant leaves, with its sweep. All of it is
-- this project's own.
use Rattle.std.specs.Prelude.{ℕ}
use Rattle.rules_machine.specs.Bodies.{Bodies}
use Rattle.rules_machine.specs.State.{Machine}
use Rattle.rules_machine.specs.Turns.{Turn, turn_of}
use Rattle.rules_machine.specs.DueItems.{items_done}
use Rattle.rules_machine.specs.Runs.{ticks}

module _ {P : Type 0} (bodies : Bodies P) (start : Machine P) where
  -- n ticks, and then k items of that instant, or all where fewer are due
  abbrev pub turn_after : ℕ → ℕ → Turn P
  turn_after n k = items_done bodies k (turn_of (ticks bodies n start).machine)

  abbrev pub after_items : ℕ → ℕ → Machine P
  after_items n k = (turn_after n k).machine

  -- With no item handled it is the state after the ticks.
  pub record HoldsThroughout (Law : Machine P → Type 0) : Type 0 where
    pub each : (n k : ℕ) → Law (after_items n k)
