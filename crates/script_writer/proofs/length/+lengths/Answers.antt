use Rattle.std.proofs.Common.{arith, refl, ap, ◌∙◌}
use Rattle.script_writer.specs.Firsts.{capped_len}
use Rattle.script_writer.proofs.Counts.{item_le}
use Rattle.script_writer.proofs.Firsts.{block_step}
use Rattle.script_writer.proofs.Lengths.{both_len}
use Rattle.script_writer.proofs.Text.{steps_text_more}
use Rattle.script_writer.proofs.length.+lengths.Goals as goal

pub body_len-step_len-requires : goal.body_len-step_len-requires
body_len-step_len-requires t c =
    let small = item_le c.steps-step-items.result.now c.loop-step.step-index c.step-item.result c.args.body.now c.loop-step-test.true c.step-item.is c.steps-step-items.ensures in
    (omega arith, tt)

pub body_len-loop-step-preserved : goal.body_len-loop-step-preserved
body_len-loop-step-preserved t c =
    both_len _ _ _ _ _ _ c.loop-step.invariant c.step_len.ensures c.sum-len.ensures
    (steps_text_more c.args.decls.now c.steps-step-items.result.now c.loop-step.step-index c.step-item.result c.loop-step-test.true c.step-item.is)

pub step_len-returns-in-Some : goal.step_len-returns-in-Some
step_len-returns-in-Some t c =
    (rw (c.step_line-opening.ensures, c.closing_line.ensures) at c.block_len.ensures)
    ∙ ap capped_len (block_step c.args.decls.now c.args.step.now c.in-Some.body.now c.in-Some.ensures)

pub block_len-returns : goal.block_len-returns
block_len-returns t c =
    both_len _ _ _ _ _ _ c.line_len.ensures (both_len _ _ _ _ _ _ c.body_len-inner.ensures c.line_len-2.ensures c.sum.ensures refl) c.sum-2.ensures refl
