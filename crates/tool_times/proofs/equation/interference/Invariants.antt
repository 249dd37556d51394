use Rattle.std.proofs.Common.{◌≡◌, ◌*◌, ◌^◌, ◌≤◌, take}
use Rattle.tool_times.specs.Equation.{interference}
use Rattle.tool_times.proofs.equation.interference.Given as goal

abbrev pub invariant-loop-t : goal.invariant-loop-t
invariant-loop-t l = record {
  value : l.total ≡ interference l.p l.n (take l.t-index l.tasks);
  small : l.total ≤ l.t-index * 10 ^ 14;
}
