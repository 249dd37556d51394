use Rattle.std.proofs.Common.{◌≡◌, ◌-◌, length, take, drop, length-drop, arith, true, false}
use Rattle.std.specs.Prelude.{codes}
use Rattle.std.specs.Str.{bytes_eq}
use Rattle.script_table.proofs.Parts.{to_end}
use Rattle.tool_check.proofs.Behind.{divider_found, divider_passed, divider_missing}
use Rattle.tool_check.proofs.divided.divider_at.Goals as goal

pub returns-then-eq-clause-value : goal.returns-then-eq-clause-value
returns-then-eq-clause-value c =
    let is = rw to_end at c.line_len-len.ensures.len in
    let here : bytes_eq (take c.line_len-len.result (take (length c.args.input.now - c.loop-at.at) (drop c.loop-at.at c.args.input.now))) (codes "%%") ≡ true = cc (c.if-eq.ensures) in
    divider_found c.args.input.now c.loop-at.at c.line_len-len.result _ c.loop-at-test.true is (rw to_end at here) c.loop-at.invariant.0

pub loop-at-preserved : goal.loop-at-preserved
loop-at-preserved c =
    let is = rw to_end at c.line_len-len.ensures.len in
    let bound = rw to_end at c.line_len-len.ensures.bound in
    let here : bytes_eq (take c.line_len-len.result (take (length c.args.input.now - c.loop-at.at) (drop c.loop-at.at c.args.input.now))) (codes "%%") ≡ false = cc (c.if-eq.ensures) in (
      divider_passed c.args.input.now c.loop-at.at c.line_len-len.result _ c.loop-at-test.true is bound (rw to_end at here) c.loop-at.invariant.0,
      omega (arith, bound, length-drop c.loop-at.at c.args.input.now),
    )

pub returns-clause-value : goal.returns-clause-value
returns-clause-value c = divider_missing c.args.input.now c.loop-at.at _ (omega arith) c.loop-at.invariant.0
