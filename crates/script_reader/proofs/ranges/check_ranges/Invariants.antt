use Rattle.std.proofs.Common.{◌≡◌, ◌+◌, drop}
use Rattle.script_table.specs.Faults.{least}
use Rattle.script_table.specs.Structure.{IsRising}
use Rattle.script_table.specs.Ranges.{phase_three, no_tally}
use Rattle.script_table.specs.Versions.{most_of}
use Rattle.script_reader.specs.Bounds.{AreTallyBelow}
use Rattle.script_reader.proofs.ranges.check_ranges.Given as goal

abbrev pub invariant-loop-s : goal.invariant-loop-s
invariant-loop-s l = record {
  faults : least (phase_three l.last l.tally (drop l.s-index l.statements)) ≡ least (phase_three l.last (no_tally (most_of l.fn.version)) l.statements);
  rising : IsRising l.last (drop l.s-index l.statements);
  counts : AreTallyBelow l.tally (l.s-index + 1);
}
