use Rattle.std.proofs.Common.{length}
use Rattle.script_table.proofs.line_faults.+any_agrees_in.Given as goal

abbrev pub decreases-any_agrees_in : goal.decreases-any_agrees_in
decreases-any_agrees_in l = length l.patterns.now
