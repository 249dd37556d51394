use Rattle.std.proofs.Common.{arith}
use Rattle.script_writer.proofs.Writes.{writes_then, writes_failed, writes_as}
use Rattle.script_writer.proofs.Text.{steps_text_more, steps_text_split}
use Rattle.script_writer.proofs.Firsts.{block_step}
use Rattle.script_writer.proofs.Counts.{item_le}
use Rattle.script_writer.proofs.body.+blocks.Goals as goal

pub write_block-returns-in_err-write_line : goal.write_block-returns-in_err-write_line
write_block-returns-in_err-write_line g t c =
    writes_failed _ _ _ _ _ _ _ _ _ c.write_line.ensures c.in_err-write_line.was c.from_residual.ensures.0

pub write_block-returns-in_err-write_body : goal.write_block-returns-in_err-write_body
write_block-returns-in_err-write_body g t c =
    writes_then _ _ _ _ _ _ _ _ (rw c.in_ok-write_line.was at c.write_line.ensures)
    (writes_failed _ _ _ _ _ _ _ _ _ c.write_body.ensures c.in_err-write_body.was c.from_residual-in_err-write_body.ensures.0)

pub write_block-returns : goal.write_block-returns
write_block-returns g t c =
    writes_then _ _ _ _ _ _ _ _ (rw c.in_ok-write_line.was at c.write_line.ensures)
    (writes_then _ _ _ _ _ _ _ _ (rw c.in_ok-write_body.was at c.write_body.ensures) c.write_line-2.ensures)

pub write_body-write_step-requires : goal.write_body-write_step-requires
write_body-write_step-requires g t c =
    let small = item_le c.steps-step-items.result.now c.loop-step.step-index c.step-item.result c.args.body.now c.loop-step-test.true c.step-item.is c.steps-step-items.ensures in
    λ κs lives. (omega arith, lives)

pub write_body-returns-in_err-write_step : goal.write_body-returns-in_err-write_step
write_body-returns-in_err-write_step g t c =
    let text = steps_text_split c.args.decls.now c.steps-step-items.result.now c.loop-step.step-index c.step-item.result c.loop-step-test.true c.step-item.is in
    rw (c.steps-step-items.ensures, ← text)
    (writes_then _ _ _ _ _ _ _ _ c.loop-step.invariant
    (writes_failed _ _ _ _ _ _ _ _ _ c.write_step.ensures c.in_err-write_step.was c.from_residual.ensures.0))

pub write_body-loop-step-preserved : goal.write_body-loop-step-preserved
write_body-loop-step-preserved g t c =
    let text = steps_text_more c.args.decls.now c.steps-step-items.result.now c.loop-step.step-index c.step-item.result c.loop-step-test.true c.step-item.is in
    rw (← text) (writes_then _ _ _ _ _ _ _ _ c.loop-step.invariant (rw c.in_ok-write_step.was at c.write_step.ensures))

pub write_step-returns-in-Some : goal.write_step-returns-in-Some
write_step-returns-in-Some g t c =
    writes_as _ _ _ _ _ _ _ (block_step c.args.decls.now c.args.step.now c.in-Some.body.now c.in-Some.ensures)
    (rw (c.step_line-opening.ensures, c.closing_line.ensures) at c.write_block.ensures)
