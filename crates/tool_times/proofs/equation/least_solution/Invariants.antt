use Rattle.std.proofs.Common.{◌+◌, ◌-◌, ◌≤◌, min}
use Rattle.tool_times.proofs.Iteration.{Climbs}
use Rattle.tool_times.proofs.equation.least_solution.Given as goal

abbrev pub invariant-loop-value : goal.invariant-loop-value
invariant-loop-value g l = record {
  climbs : Climbs l.tasks l.k l.value;
  rounds : l.steps ≤ l.initial.steps + min l.value (l.bound + 1);
}

abbrev pub decreases-loop-value : goal.decreases-loop-value
decreases-loop-value g l = l.bound + 1 - l.value
