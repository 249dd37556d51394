use Rattle.std.proofs.Common.{◌≡◌, ◌≤◌, ◌+◌, ◌-◌, length, drop}
use Rattle.std.specs.Option.{option_map}
use Rattle.script_lex.specs.Lines.{lines_of}
use Rattle.tool_check.specs.Divided.{divider_at}
use Rattle.tool_check.proofs.divided.divider_at.Given as goal

abbrev pub invariant-loop-at : goal.invariant-loop-at
invariant-loop-at l = (option_map (λ n. l.at + n) (divider_at (lines_of (drop l.at l.input))) ≡ divider_at (lines_of l.input)) × (l.at ≤ length l.input + 1)

abbrev pub decreases-loop-at : goal.decreases-loop-at
decreases-loop-at l = length l.input - l.at
