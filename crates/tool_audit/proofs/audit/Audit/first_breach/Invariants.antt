use Rattle.std.proofs.Common.{◌≡◌, map, length}
use Rattle.script_lex.specs.Lines.{lines_of}
use Rattle.tool_check.specs.Lines.{reading}
use Rattle.tool_audit.specs.Watch.{watch_breach}
use Rattle.tool_audit.proofs.audit.Audit.first_breach.Given as goal

-- what is left has the first breach of the whole
abbrev pub invariant-loop-line : goal.invariant-loop-line
invariant-loop-line l = watch_breach l.self l.lines.number (map reading l.lines.lines) ≡ watch_breach l.fn.self 1 (map reading (lines_of l.trace))

abbrev pub decreases-loop-line : goal.decreases-loop-line
decreases-loop-line l = length l.lines.lines
