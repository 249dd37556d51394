use Rattle.std.proofs.Common.{◌≡◌, add-one, arith}
use Rattle.kernel_texts.specs.Rows.{object_count}
use Rattle.kernel_texts.proofs.Keeping.{kept_both, kept_none}
use Rattle.kernel_subjects.proofs.subjects.keep_object_row.Goals as goal

pub loop-number-init : goal.loop-number-init
loop-number-init c = kept_none _ _

pub loop-number-preserved : goal.loop-number-preserved
loop-number-preserved c = rw add-one (kept_both _ _ _ _ _ _ _ _ c.loop-number.invariant (rw c.object_of.ensures at c.keep_object_subject.ensures))

pub returns : goal.returns
returns c =
    let all : c.loop-number.number ≡ object_count c.args.row c.args.decls.now c.args.parts.now.machine = omega (arith, c.object_count-number-end.ensures) in
    rw all at c.loop-number.invariant
