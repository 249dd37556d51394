use Rattle.std.proofs.Common.{◌≡◌, length}
use Rattle.script_lex.specs.Lines.{lines_of}
use Rattle.script_table.specs.Heading.{heading}
use Rattle.script_reader.proofs.structure.heading.heading_of.Given as goal

abbrev pub invariant-loop-line : goal.invariant-loop-line
invariant-loop-line l = record {
  found : heading l.rest.number l.rest.lines ≡ heading 1 (lines_of l.text);
  same : l.lines ≡ l.rest;
}

abbrev pub decreases-loop-line : goal.decreases-loop-line
decreases-loop-line l = length l.rest.lines
