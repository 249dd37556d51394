use Rattle.std.proofs.Common.{◌≡◌, ◌+◌, ◌-◌, ◌≤◌, not, drop, length}
use Rattle.std.specs.List.{prefix_len}
use Rattle.script_lex.specs.Stops.{stops}
use Rattle.script_lex.proofs.stops.run_len.Given as goal

abbrev pub invariant-loop-at : goal.invariant-loop-at
invariant-loop-at l = record {
  run : prefix_len (λ c. not (stops l.stop c)) l.ahead ≡ l.at + prefix_len (λ c. not (stops l.stop c)) (drop l.at l.ahead);
  within : l.at ≤ length l.ahead;
}

abbrev pub decreases-loop-at : goal.decreases-loop-at
decreases-loop-at l = l.len - l.at
