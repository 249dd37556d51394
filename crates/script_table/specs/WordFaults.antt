-- What is wrong with the words of a line, by the places of its pattern.
use Rattle.std.specs.Prelude.{ℕ, ◌≡◌, List}
use Rattle.script_table.specs.declared.word_faults.WordFaults.{WordFaults}
use Rattle.script_table.specs.Faults.{least_kind}
use Rattle.script_table.specs.Patterns.{Spot}
use Rattle.script_table.specs.LineFaults.{spelling, place_faults}
use Rattle.script_table.specs.Ranges.{range_fault}

-- the least of each sort in the words at these places
abbrev pub AreFaultsIn : WordFaults → List Spot → List (List ℕ) → Type 0
AreFaultsIn f spots words = (f.spelling ≡ least_kind (place_faults spelling spots words)) × (f.range ≡ least_kind (place_faults range_fault spots words))
