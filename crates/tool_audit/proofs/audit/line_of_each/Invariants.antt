use Rattle.std.proofs.Common.{◌≡◌, map, take, drop, IfNone}
use Rattle.tool_check.specs.Lines.{seen}
use Rattle.tool_audit.specs.Breach.{least}
use Rattle.tool_audit.specs.Watch.{any_breaks, watched_after}
use Rattle.tool_audit.proofs.audit.line_of_each.Given as goal

-- those ahead are as they were, and those behind have taken the line in
abbrev pub invariant-loop-w : goal.invariant-loop-w
invariant-loop-w l = record {
  rule : least l.found (any_breaks (drop l.w-index l.initial.servers) (seen l.line)) ≡ any_breaks l.initial.servers (seen l.line);
  ahead : drop l.w-index l.servers ≡ drop l.w-index l.initial.servers;
  after : IfNone l.found (take l.w-index l.servers ≡ map (watched_after (seen l.line)) (take l.w-index l.initial.servers));
}
