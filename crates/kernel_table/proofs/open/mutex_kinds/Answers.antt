use Rattle.std.proofs.Common.{refl}
use Rattle.kernel_table.proofs.Opening.{mutexes_more}
use Rattle.kernel_table.proofs.open.mutex_kinds.Goals as goal

pub loop-decl-preserved : goal.loop-decl-preserved
loop-decl-preserved c =
    let more = mutexes_more c.items-decl-items.result.now c.loop-decl.decl-index c.decl-item.result c.loop-decl-test.true in
    let at = rw (← c.decl-item.is) at more in
    rw (c.in_ok-add_mutex.ensures, c.loop-decl.invariant, at) refl
