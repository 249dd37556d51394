use Rattle.std.proofs.Common.{◌≤◌}
use Rattle.std.specs.Prelude.{◌-◌}
use Rattle.kernel_looks.specs.Nothings.{WentKnown, nothings}
use Rattle.kernel_looks.proofs.desk.Desk.go_over_others.Given as goal

abbrev pub decreases-loop-gone : goal.decreases-loop-gone
decreases-loop-gone l = l.count - l.gone

abbrev pub invariant-loop-gone : goal.invariant-loop-gone
invariant-loop-gone l = record {
  few : l.gone ≤ l.count;
  went : WentKnown l.initial.self l.self (nothings l.gone);
}
