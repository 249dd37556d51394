use Rattle.std.proofs.Common.{length}
use Rattle.script_table.proofs.line_faults.+agrees.Given as goal

abbrev pub decreases-agrees : goal.decreases-agrees
decreases-agrees l = length l.places.now
