use Rattle.std.proofs.Common.{◌≡◌, add-one, arith, length}
use Rattle.kernel_texts.proofs.Keeping.{kept_both, kept_none}
use Rattle.kernel_subjects.proofs.subjects.keep_queue_subjects.Goals as goal

pub loop-number-init : goal.loop-number-init
loop-number-init c = kept_none _ _

pub loop-number-preserved : goal.loop-number-preserved
loop-number-preserved c =
    rw add-one (kept_both _ _ _ _ _ _ _ _ c.loop-number.invariant
    (kept_both _ _ _ _ _ _ _ _ (rw c.object_of.ensures at c.keep_object_subject.ensures) (rw c.object_of-in-loop-number.ensures at c.keep_object_subject-in-loop-number.ensures)))

pub returns : goal.returns
returns c =
    let all : c.loop-number.number ≡ length c.args.parts.now.machine.queues = omega (arith, c.queue_count-number-end.ensures) in
    rw all at c.loop-number.invariant
