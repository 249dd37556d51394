use Rattle.std.proofs.Common.{◌≡◌, ◌+◌, ◌≤◌, drop, length}
use Rattle.script_writer.specs.Names.{names_of}
use Rattle.script_writer.proofs.names.name_count.Given as goal

abbrev pub invariant-loop-decl : goal.invariant-loop-decl
invariant-loop-decl l = record {
  counted : l.count + length (names_of l.of (drop l.decl-index l.decls)) ≡ length (names_of l.of l.decls);
  few : l.count ≤ l.decl-index;
}
