use Rattle.std.proofs.Common.{◌≡◌, subst, sym}
use Rattle.std.specs.Prelude.{map}
use Rattle.parts_waiters.specs.Places.{best_for}
use Rattle.kernel_table.specs.Acceptors.{set_awaited}
use Rattle.kernel_table.specs.Table.{Table}
use Rattle.kernel_table.proofs.Accepting.{accepted_by}
use Rattle.kernel_table.proofs.table.Table.acceptor_in_full.Goals as goal

pub returns : goal.returns
returns c = λ r same free.
    let s = c.self.inside in
    let best = subst (λ (table : Table). c.best_for_signal.result ≡ best_for c.args.signal (map set_awaited table.threads) s.waits) (sym c.self.view_is) c.best_for_signal.ensures in
    rw (← c.self.view_is)
    (accepted_by s.timers s.threads s.chain s.waits c.args.signal c.best_for_signal.result best c.serve_by_the_rules.ensures.acceptors c.self.invariant.tied r same free)
