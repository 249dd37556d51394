use Rattle.std.proofs.Common.{◌≡◌, drop}
use Rattle.script_writer.specs.Names.{name_of}
use Rattle.script_writer.proofs.names.name_of.Given as goal

abbrev pub invariant-loop-decl : goal.invariant-loop-decl
invariant-loop-decl l = name_of (drop l.decl-index l.decls) l.of l.left ≡ name_of l.decls l.of l.k
