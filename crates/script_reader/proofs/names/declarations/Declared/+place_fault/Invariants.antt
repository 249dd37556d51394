use Rattle.std.proofs.Common.{length}
use Rattle.script_reader.proofs.names.declarations.Declared.+place_fault.Given as goal

abbrev pub decreases-place_fault : goal.decreases-place_fault
decreases-place_fault l = length l.places.now
