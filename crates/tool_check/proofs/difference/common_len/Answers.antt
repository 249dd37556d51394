use Rattle.std.proofs.Common.{◌==◌, drop, length-drop, arith}
use Rattle.std.proofs.lemmas.List.Sums.{common_prefix_len-le}
use Rattle.tool_check.proofs.difference.common_len.Goals as goal

pub returns-else-at-want-clause-value : goal.returns-else-at-want-clause-value
returns-else-at-want-clause-value c =
    let at = c.loop-at.at in
    let most = common_prefix_len-le (λ x y. x == y) (drop at c.args.have.now) (drop at c.args.want.now) in
    omega (arith, length-drop at c.args.want.now, most.1)

pub returns-after-loop-at-clause-within : goal.returns-after-loop-at-clause-within
returns-after-loop-at-clause-within c =
    let most = common_prefix_len-le (λ x y. x == y) c.args.have.now c.args.want.now in
    omega (arith, most.0)
