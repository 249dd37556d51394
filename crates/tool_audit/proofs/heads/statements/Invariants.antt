use Rattle.std.proofs.Common.{◌≡◌, ◌++◌, length}
use Rattle.script_lex.specs.Lines.{lines_of}
use Rattle.tool_audit.specs.Head.{phase_one, said_from}
use Rattle.tool_audit.proofs.heads.statements.Given as goal

abbrev pub invariant-loop-line : goal.invariant-loop-line
invariant-loop-line l = record {
  faults : phase_one l.lines.number l.lines.lines ≡ phase_one 1 (lines_of l.text);
  said : l.statements.items ++ said_from l.lines.number l.lines.lines ≡ said_from 1 (lines_of l.text);
}

abbrev pub decreases-loop-line : goal.decreases-loop-line
decreases-loop-line l = length l.lines.lines
