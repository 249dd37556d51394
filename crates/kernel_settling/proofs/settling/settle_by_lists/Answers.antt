use Rattle.std.proofs.Common.{sym, arith}
use Rattle.kernel_settling.proofs.SettlingSteps.{settles_nothing}
use Rattle.kernel_settling.proofs.OneSettles.{no_items}
use Rattle.kernel_settling.proofs.settling.settle_by_lists.Goals as goal

pub returns-else-direct_count-ne0-clause-state : goal.returns-else-direct_count-ne0-clause-state
returns-else-direct_count-ne0-clause-state c =
    sym (settles_nothing c.args.p.now c.in-None.ensures.next (no_items c.args.p.now.direct (omega (arith, c.if-direct_count-ne0.false, c.direct_count.ensures))))
