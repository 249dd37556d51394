-- Which signals have a pending record. This project's own.
use Rattle.std.specs.Prelude.{Bool, List, false, slice_index_or, true, ◌<◌, ◌≡◌}
use Rattle.std.specs.List.{AllByRecursion}
use Rattle.rules_machine.specs.State.{SignalRecord}

-- the signal of each record is marked
abbrev pub AreMarked : List Bool → List SignalRecord → Type 0
AreMarked marked records = AllByRecursion (λ (r : SignalRecord). r.signal < 32 → slice_index_or marked r.signal false ≡ true) records
