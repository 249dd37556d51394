-- How large the numbers of a line are. The trace format is this project's own.
use Rattle.std.specs.Prelude.{ℕ, ◌≤◌, List, slice_index_or}
use Rattle.tool_check.specs.Words.{greatest}
use Rattle.tool_check.specs.Lines.{Reading}

-- no number is above the greatest, whatever its place
abbrev pub AreSmall : List ℕ → Type 0
AreSmall nums = (k : ℕ) → slice_index_or nums k 0 ≤ greatest

-- nor is the time of the line
pub record IsSmallLine (r : Reading) : Type 0 where
  pub time : r.time ≤ greatest
  pub nums : AreSmall r.nums
