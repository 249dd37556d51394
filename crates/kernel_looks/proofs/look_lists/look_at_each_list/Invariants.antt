use Rattle.std.proofs.Common.{◌≤◌}
use Rattle.std.specs.Prelude.{◌-◌}
use Rattle.kernel_seen.specs.FactSeen.{IsMemoryOf}
use Rattle.kernel_looks.specs.Ahead.{IsStretch, past}
use Rattle.kernel_looks.specs.Nothings.{lists_from}
use Rattle.kernel_looks.specs.Desk.{WentOn}
use Rattle.kernel_looks.proofs.look_lists.look_at_each_list.Given as goal

abbrev pub decreases-loop-below : goal.decreases-loop-below
decreases-loop-below l = l.count - l.below

abbrev pub invariant-loop-below : goal.invariant-loop-below
invariant-loop-below l = record {
  few : l.below ≤ l.count;
  stretch : IsStretch l.stretch l.desk;
  kept : WentOn l.initial.next l.next (past l.initial.stretch l.initial.desk) (past l.stretch l.desk) (lists_from l.decls l.parts.machine.lists l.from l.below);
  memory : IsMemoryOf l.decls l.desk.told.texts l.desk.seen;
}
