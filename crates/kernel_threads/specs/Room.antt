-- Whether so many ticks more can be charged to a server.
use Rattle.std.specs.Prelude.{◌≡◌, ◌≤◌, ◌+◌, ◌^◌, ℕ, None, Option, Some, true}
use Rattle.rules_server.specs.Server.{ServerState, is_high}

pub record HasCapacity (k : ℕ) (s : ServerState) : Type 0 where
  pub high : is_high s ≡ true → k ≤ s.capacity
  pub total : s.high_total + k ≤ 10 ^ 18

abbrev pub ServerHasRoom : ℕ → Option ServerState → Type 0
ServerHasRoom k None = Unit {0}
ServerHasRoom k (Some s) = HasCapacity k s
