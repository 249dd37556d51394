use Rattle.std.proofs.Common.{◌≡◌, take, drop, map, []}
use Rattle.tool_audit.specs.Head.{phase_two, names_of}
use Rattle.tool_audit.proofs.Phases.{read_at}
use Rattle.tool_audit.proofs.heads.put_names.Given as goal

abbrev pub invariant-loop-s : goal.invariant-loop-s
invariant-loop-s l = record {
  faults : phase_two (take l.s-index l.statements) (drop l.s-index l.statements) ≡ phase_two [] l.statements;
  names : map read_at l.names.keys ≡ names_of (take l.s-index l.statements);
}
