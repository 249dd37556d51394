use Rattle.std.proofs.Common.{◌≡◌, drop, map}
use Rattle.std.specs.List.{list_any}
use Rattle.script_table.specs.Patterns.{spot_of}
use Rattle.script_reader.specs.Declarations.{declares}
use Rattle.script_reader.proofs.names.declarations.any_declares.Given as goal

abbrev pub invariant-loop-place : goal.invariant-loop-place
invariant-loop-place l = list_any declares (map spot_of (drop l.place-index l.places)) ≡ list_any declares (map spot_of l.places)
