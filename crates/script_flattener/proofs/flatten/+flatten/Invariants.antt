use Rattle.std.proofs.Common.{drop}
use Rattle.script_flattener.proofs.Flattens.{Flattens}
use Rattle.script_flattener.proofs.flatten.+flatten.Given as goal

abbrev pub invariant-flatten-loop-step : goal.invariant-flatten-loop-step
invariant-flatten-loop-step l = Flattens l.initial.ops l.step-items l.ops (drop l.step-index l.step-items)
