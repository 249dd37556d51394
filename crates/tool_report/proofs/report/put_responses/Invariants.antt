use Rattle.std.proofs.Common.{◌≡◌, ◌≤◌, ◌+◌, ◌*◌}
use Rattle.std.specs.Io.KnownBytes.{Appends}
use Rattle.tool_report.proofs.Lines.{first_lines}
use Rattle.tool_report.proofs.report.put_responses.Given as goal

abbrev pub invariant-loop-k : goal.invariant-loop-k
invariant-loop-k g l = record {
  text : Appends (g.K.Sink.text l.initial.sink) (g.K.Sink.text l.sink) (first_lines l.bound l.tasks l.k);
  faults : g.K.Sink.faults l.sink ≡ g.K.Sink.faults l.initial.sink;
  rounds : l.steps ≤ l.initial.steps + l.k * (l.bound + 1);
}
