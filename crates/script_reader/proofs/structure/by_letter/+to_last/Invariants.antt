use Rattle.std.proofs.Common.{length}
use Rattle.script_reader.proofs.structure.by_letter.+to_last.Given as goal

abbrev pub decreases-to_last : goal.decreases-to_last
decreases-to_last l = length l.patterns.now
