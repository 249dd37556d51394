use Rattle.std.proofs.Common.{◌≡◌, drop}
use Rattle.script_table.specs.Build.{built_from, nothing_built}
use Rattle.script_reader.proofs.build.script_of.Given as goal

abbrev pub invariant-loop-s : goal.invariant-loop-s
invariant-loop-s l = built_from l.names l.builder (drop l.s-index l.statements) ≡ built_from l.names nothing_built l.statements
