use Rattle.kernel_table.proofs.Accepting.{none_accepts}
use Rattle.kernel_table.proofs.table.Table.acceptor.Goals as goal

pub returns-then-is_none : goal.returns-then-is_none
returns-then-is_none c = λ r same free.
    let s = c.self.inside in
    rw (← c.self.view_is)
    (none_accepts s.timers s.threads s.chain s.waits c.best.result c.if-is_none.ensures c.best.ensures c.serve_by_the_rules.ensures.acceptors c.self.invariant.tied r free)
