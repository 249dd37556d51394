use Rattle.std.proofs.Common.{◌≡◌, add-one, arith, length}
use Rattle.kernel_texts.proofs.Keeping.{kept_both, kept_none}
use Rattle.kernel_subjects.proofs.subjects.keep_thread_row.Goals as goal

pub loop-number-init : goal.loop-number-init
loop-number-init c = kept_none _ _

pub loop-number-preserved : goal.loop-number-preserved
loop-number-preserved c = rw add-one (kept_both _ _ _ _ _ _ _ _ c.loop-number.invariant (rw c.tid.ensures at c.keep_thread_subject.ensures))

pub returns : goal.returns
returns c =
    let all : c.loop-number.number ≡ length c.args.parts.now.machine.threads = omega (arith, c.count-number-end.ensures.threads) in
    rw all at c.loop-number.invariant
