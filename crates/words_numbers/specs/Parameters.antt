-- What a contract sees of the parameters of a sporadic server, IEEE 1003.1-2017, XSH 2.8.4.
use Rattle.std.specs.Prelude.{ℕ, ◌<◌, ◌≤◌, ◌^◌}

-- the two priorities, the period and the initial budget in ticks, and how many replenishments may be pending
pub record Parameters : Type 0 where
  pub high : ℕ
  pub low : ℕ
  pub period : ℕ
  pub budget : ℕ
  pub max : ℕ

-- the ranges that a script keeps
pub record AreParameters (p : Parameters) : Type 0 where
  pub low_above_zero : 1 ≤ p.low
  pub low_below_high : p.low < p.high
  pub high_small : p.high ≤ 255
  pub budget_above_zero : 1 ≤ p.budget
  pub budget_within_period : p.budget ≤ p.period
  pub period_small : p.period ≤ 10 ^ 18
  pub some_pending : 1 ≤ p.max
  pub few_pending : p.max ≤ 16
