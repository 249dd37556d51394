use Rattle.kernel_looks.proofs.Looking.{went_nothing, went_printed}
use Rattle.kernel_looks.proofs.NothingTold.{nothing_short}
use Rattle.kernel_looks.proofs.look_signals.look_at_signal.Goals as goal

pub returns-clause-kept : goal.returns-clause-kept
returns-clause-kept c = went_printed _ _ _ _ c.clear.ensures _ _ _ c.print_signal-failed.ensures.text c.keep.ensures.over

pub returns-then-not-is_pending-clause-kept : goal.returns-then-not-is_pending-clause-kept
returns-then-not-is_pending-clause-kept c = went_nothing _ _ _ _ (c.requires.silent c.if-not-is_pending.true c.args.decls.now) c.go_over_nothing.ensures.went

pub returns-then-not-is_pending-clause-short : goal.returns-then-not-is_pending-clause-short
returns-then-not-is_pending-clause-short c = nothing_short c.args.decls.now _ (c.requires.silent c.if-not-is_pending.true c.args.decls.now)

pub returns-clause-memory : goal.returns-clause-memory
returns-clause-memory c = c.keep.ensures.seen c.args.decls.now c.requires.memory (λ good. tt)
