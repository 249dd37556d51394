use Rattle.std.proofs.Common.{◌≡◌, ◌+◌, ◌++◌, length, Some, []}
use Rattle.script_table.specs.Faults.{least}
use Rattle.script_table.specs.Structure.{phase_one, said_from}
use Rattle.script_reader.proofs.structure.lines.statements_by.Given as goal

abbrev pub invariant-loop-line : goal.invariant-loop-line
invariant-loop-line l = record {
  faults : least (phase_one l.patterns l.lines.number (Some l.blocks) l.lines.lines) ≡ least (phase_one l.patterns l.initial.lines.number (Some []) l.initial.lines.lines);
  said : l.statements.items ++ said_from l.patterns l.lines.number l.lines.lines ≡ said_from l.patterns l.initial.lines.number l.initial.lines.lines;
  last : l.lines.number + length l.lines.lines ≡ l.initial.lines.number + length l.initial.lines.lines;
}

abbrev pub decreases-loop-line : goal.decreases-loop-line
decreases-loop-line l = length l.lines.lines
