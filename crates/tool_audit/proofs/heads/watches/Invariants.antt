use Rattle.std.proofs.Common.{◌≡◌, take, drop, [], map}
use Rattle.tool_audit.specs.Head.{phase_three, servers_of}
use Rattle.tool_audit.specs.Watch.{watched}
use Rattle.tool_audit.proofs.heads.watches.Given as goal

abbrev pub invariant-loop-s : goal.invariant-loop-s
invariant-loop-s l = record {
  faults : phase_three (take l.s-index l.statements) (drop l.s-index l.statements) ≡ phase_three [] l.statements;
  each : l.each.items ≡ map watched (servers_of (take l.s-index l.statements));
}
