use Rattle.std.proofs.Common.{◌≡◌, add-one, arith}
use Rattle.kernel_texts.proofs.Keeping.{kept_both, kept_none}
use Rattle.kernel_subjects.proofs.subjects.keep_signal_subjects.Goals as goal

pub loop-signal-init : goal.loop-signal-init
loop-signal-init c = kept_none _ _

pub loop-signal-preserved : goal.loop-signal-preserved
loop-signal-preserved c = rw add-one (kept_both _ _ _ _ _ _ _ _ c.loop-signal.invariant c.keep_signal_subject.ensures)

pub returns : goal.returns
returns c =
    let all : c.loop-signal.signal ≡ 32 = omega arith in
    rw all at c.loop-signal.invariant
