use Rattle.std.proofs.Common.{◌≡◌, ◌-◌, length, take}
use Rattle.kernel_looks.specs.PendingSignals.{AreMarked}
use Rattle.kernel_looks.proofs.look_signals.pending_signals.Given as goal

abbrev pub invariant-loop-r : goal.invariant-loop-r
invariant-loop-r l = record {
  marks : AreMarked l.marked (take l.place l.parts.machine.pending);
  long : length l.marked ≡ 32;
}

abbrev pub decreases-loop-r : goal.decreases-loop-r
decreases-loop-r l = length l.parts.machine.pending - l.place
