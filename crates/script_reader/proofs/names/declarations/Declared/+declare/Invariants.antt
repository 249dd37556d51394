use Rattle.std.proofs.Common.{length}
use Rattle.script_reader.proofs.names.declarations.Declared.+declare.Given as goal

abbrev pub decreases-declare : goal.decreases-declare
decreases-declare l = length l.places.now
