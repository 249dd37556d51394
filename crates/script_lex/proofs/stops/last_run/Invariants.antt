use Rattle.std.proofs.Common.{◌-◌, ◌≤◌, not, take}
use Rattle.std.specs.List.{prefix_len}
use Rattle.script_lex.specs.Stops.{stops}
use Rattle.script_lex.proofs.stops.last_run.Given as goal

abbrev pub invariant-loop-at : goal.invariant-loop-at
invariant-loop-at l = l.at ≤ prefix_len (λ c. not (stops l.stop c)) (take l.len l.ahead)

abbrev pub decreases-loop-at : goal.decreases-loop-at
decreases-loop-at l = l.len - l.at
