use Rattle.std.proofs.Common.{◌≡◌, add-one, arith}
use Rattle.kernel_texts.proofs.Keeping.{kept_both, kept_none}
use Rattle.kernel_subjects.proofs.subjects.keep_list_subjects.Goals as goal

pub loop-below-init : goal.loop-below-init
loop-below-init c = kept_none _ _

pub loop-below-preserved : goal.loop-below-preserved
loop-below-preserved c = rw add-one (kept_both _ _ _ _ _ _ _ _ c.loop-below.invariant c.keep_list_subject.ensures)

pub returns : goal.returns
returns c =
    let all : c.loop-below.below ≡ 255 = omega arith in
    rw all at c.loop-below.invariant
