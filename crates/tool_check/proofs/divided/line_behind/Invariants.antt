use Rattle.std.proofs.Common.{◌≡◌, ◌≤◌, ◌+◌, ◌-◌, length, drop}
use Rattle.std.specs.Prelude.{slice_get}
use Rattle.script_lex.specs.Lines.{lines_of}
use Rattle.tool_check.proofs.divided.line_behind.Given as goal

abbrev pub invariant-loop-at : goal.invariant-loop-at
invariant-loop-at l = (slice_get (lines_of (drop l.at l.text)) l.left ≡ slice_get (lines_of l.text) l.lines) × (l.at ≤ length l.text + 1)

abbrev pub decreases-loop-at : goal.decreases-loop-at
decreases-loop-at l = length l.text - l.at
