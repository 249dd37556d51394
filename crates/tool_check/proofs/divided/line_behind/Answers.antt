use Rattle.std.proofs.Common.{length-drop, arith}
use Rattle.script_table.proofs.Parts.{to_end}
use Rattle.tool_check.proofs.Behind.{line_found, line_passed, line_missing}
use Rattle.tool_check.proofs.divided.line_behind.Goals as goal

pub returns-then-left-eq0 : goal.returns-then-left-eq0
returns-then-left-eq0 c =
    let is = rw to_end at c.line_len-len.ensures.len in
    rw to_end (line_found c.args.text.now c.loop-at.at c.line_len-len.result _ c.loop-at-test.true is (rw c.if-left-eq0.true at c.loop-at.invariant.0))

pub loop-at-preserved : goal.loop-at-preserved
loop-at-preserved c =
    let is = rw to_end at c.line_len-len.ensures.len in
    let bound = rw to_end at c.line_len-len.ensures.bound in (
      line_passed c.args.text.now c.loop-at.at c.line_len-len.result c.loop-at.left _ c.loop-at-test.true is (omega arith) c.loop-at.invariant.0,
      omega (arith, bound, length-drop c.loop-at.at c.args.text.now),
    )

pub returns : goal.returns
returns c = line_missing c.args.text.now c.loop-at.at c.loop-at.left _ (omega arith) c.loop-at.invariant.0
