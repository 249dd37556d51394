use Rattle.std.proofs.Common.{◌+◌, ◌≤◌, false}
use Rattle.kernel_leaps.specs.Detail.{steps_left}
use Rattle.kernel_leaps.proofs.TellingRun.{Telling}
use Rattle.kernel_leaps.proofs.detail.tell_run.Given as goal

abbrev pub invariant-leaps : goal.invariant-leaps
invariant-leaps g l = record {
  telling : Telling g.K.Sink.text g.K.Sink.faults l.script l.fn.horizon l.reached l.p l.texts l.initial.sink l.sink;
  spent : l.steps + steps_left l.script l.reached ≤ l.initial.steps + steps_left l.script (record { done = 0; left = l.fn.horizon; is_quiet = false });
}

abbrev pub decreases-leaps : goal.decreases-leaps
decreases-leaps g l = l.reached.left
