-- Numbers that are drawn one after another: a linear congruential generator. This project's own.
use Rattle.std.specs.Prelude.{ℕ, ◌+◌, ◌*◌, ◌%◌}

abbrev pub modulus : ℕ
modulus = 65537

-- the generator after a draw
abbrev pub next : ℕ → ℕ
next state = (75 * state + 74) % modulus

-- the number below `count` that is drawn from this state
abbrev pub draw : ℕ → ℕ → ℕ
draw count state = next state % count

-- what was made of some draws, and the state behind them
pub record Drawn (A : Type 0) : Type 0 where
  pub value : A
  pub state : ℕ
