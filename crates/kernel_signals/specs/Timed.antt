-- How many of the pending records each timer generated.
use Rattle.std.specs.Prelude.{◌≡◌, ◌<◌, ◌+◌, ◌-◌, List, None, Option, Some, slice_index_or, slice_set, ℕ}
use Rattle.rules_machine.specs.GoodState.{count_of}
use Rattle.rules_machine.specs.Lists.{is}
use Rattle.rules_machine.specs.State.{SignalRecord}

abbrev pub count_at : List ℕ → ℕ → ℕ
count_at counts k = slice_index_or counts k 0

-- one more of the timer, where a timer generated it
abbrev pub with_one : Option ℕ → List ℕ → List ℕ
with_one None counts = counts
with_one (Some k) counts = slice_set counts k (count_at counts k + 1)

-- one fewer
abbrev pub with_one_fewer : Option ℕ → List ℕ → List ℕ
with_one_fewer None counts = counts
with_one_fewer (Some k) counts = slice_set counts k (count_at counts k - 1)

abbrev pub HasRoom : List ℕ → Option ℕ → Type 0
HasRoom counts None = Unit {0}
HasRoom counts (Some k) = count_at counts k < 255

abbrev pub timed_in : ℕ → List SignalRecord → ℕ
timed_in k pending = count_of (λ (r : SignalRecord). is r.timer k) pending

-- each count is that of the records
abbrev pub AreTimed : List ℕ → List SignalRecord → Type 0
AreTimed counts pending = (k : ℕ) → k < 256 → count_at counts k ≡ timed_in k pending
