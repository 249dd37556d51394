use Rattle.std.proofs.Common.{◌≡◌, drop, map}
use Rattle.std.specs.List.{list_any}
use Rattle.script_table.specs.Patterns.{spot_of}
use Rattle.script_reader.specs.Declarations.{is_named}
use Rattle.script_reader.proofs.names.declarations.any_is_named.Given as goal

abbrev pub invariant-loop-place : goal.invariant-loop-place
invariant-loop-place l = list_any is_named (map spot_of (drop l.place-index l.places)) ≡ list_any is_named (map spot_of l.places)
