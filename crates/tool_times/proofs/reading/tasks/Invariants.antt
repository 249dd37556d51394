use Rattle.std.proofs.Common.{◌≡◌, take, drop, []}
use Rattle.tool_times.specs.Read.{phase_three, tasks_of}
use Rattle.tool_times.proofs.reading.tasks.Given as goal

abbrev pub invariant-loop-s : goal.invariant-loop-s
invariant-loop-s l = record {
  faults : phase_three (take l.s-index l.statements) (drop l.s-index l.statements) ≡ phase_three [] l.statements;
  tasks : l.tasks ≡ tasks_of (take l.s-index l.statements);
}
