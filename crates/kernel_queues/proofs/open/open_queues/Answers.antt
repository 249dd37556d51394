use Rattle.std.proofs.Common.{refl}
use Rattle.rules_machine.specs.Declarations.{named, queue_kind}
use Rattle.kernel_queues.proofs.Opening.{read_more}
use Rattle.kernel_queues.proofs.open.open_queues.Goals as goal

pub loop-decl-preserved : goal.loop-decl-preserved
loop-decl-preserved c =
    let more = read_more (named queue_kind) c.items-decl-items.result.now c.loop-decl.decl-index c.decl-item.result c.loop-decl-test.true in
    let at = rw (← c.decl-item.is) at more in
    rw (c.in_ok-add_queue.ensures, c.loop-decl.invariant, at) refl
