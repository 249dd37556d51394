use Rattle.std.proofs.Common.{drop}
use Rattle.rules_bodies.proofs.Opens.{Opens}
use Rattle.script_flattener.proofs.bodies.open.Given as goal

abbrev pub invariant-loop-decl : goal.invariant-loop-decl
invariant-loop-decl l = Opens l.script.decls l.code (drop l.decl-index l.decl-items)
