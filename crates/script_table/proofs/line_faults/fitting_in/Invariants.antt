use Rattle.std.proofs.Common.{◌≡◌, ◌∷◌, drop, map}
use Rattle.script_table.specs.Patterns.{row_of}
use Rattle.script_table.specs.LineFaults.{fitting_row}
use Rattle.script_table.proofs.line_faults.fitting_in.Given as goal

abbrev pub invariant-loop-pattern : goal.invariant-loop-pattern
invariant-loop-pattern l = fitting_row (map row_of (drop l.pattern-index l.patterns)) (l.first ∷ l.words.words) ≡ fitting_row (map row_of l.patterns) (l.first ∷ l.words.words)
