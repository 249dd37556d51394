use Rattle.std.proofs.Common.{◌≡◌, ◌++◌, drop, map}
use Rattle.script_table.specs.Names.{declared_from}
use Rattle.script_reader.specs.Declarations.{naming_lines}
use Rattle.script_reader.proofs.names.declarations.Naming.add_all.Given as goal

abbrev pub invariant-loop-s : goal.invariant-loop-s
invariant-loop-s l = record {
  declared : declared_from l.self.declared (drop l.s-index l.statements) ≡ declared_from l.initial.self.declared l.statements;
  kept : map (λ s. s.now) l.self.lines.items ++ naming_lines (drop l.s-index l.statements) ≡ map (λ s. s.now) l.initial.self.lines.items ++ naming_lines l.statements;
}
