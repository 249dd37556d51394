-- Counts that never fall and stand still at the last value of a u64, and the answers that they explain. This project's own.
use Rattle.std.specs.Prelude.{◌≡◌, ℕ, ◌+◌, ◌-◌, ◌^◌, ◌≤◌, min, OnOk, OnErr, Result}

-- the count that much higher, or at the last value of a u64
abbrev pub raised : ℕ → ℕ → ℕ
raised count by = min (count + by) (2 ^ 64 - 1)

-- the count rose, or stands at the last value of a u64
abbrev pub Rose : ℕ → ℕ → Type 0
Rose before now = raised before 1 ≤ now

-- the count grew by n, or stands at the last value of a u64
pub record GrewBy (n before now : ℕ) : Type 0 where
  pub at_least : raised before n ≤ now
  pub at_most : now ≤ before + n

-- a failure is told only where the count of faults rose, and nothing else raises it
pub record HasCause {T E : Type 0} (before now : ℕ) (result : Result T E) : Type 0 where
  pub later : before ≤ now
  pub ok : OnOk result (now ≡ before)
  pub failed : OnErr result (Rose before now)
