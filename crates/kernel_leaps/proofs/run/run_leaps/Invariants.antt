use Rattle.std.proofs.Common.{◌≡◌, None, false}
use Rattle.std.specs.Prelude.{◌-◌}
use Rattle.kernel_leaps.proofs.Leaping.{Leaping}
use Rattle.kernel_leaps.proofs.run.run_leaps.Given as goal

abbrev pub invariant-leaps : goal.invariant-leaps
invariant-leaps g l = record {
  leaping : Leaping g.K.Sink.text g.K.Sink.faults l.initial.p l.p l.total l.done l.initial.steps l.steps l.initial.out l.out;
  good : l.out.failed ≡ false;
  alive : l.p.machine.killed ≡ None;
}

abbrev pub decreases-leaps : goal.decreases-leaps
decreases-leaps g l = l.total - l.done
