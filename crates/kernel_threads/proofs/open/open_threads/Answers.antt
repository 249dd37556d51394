use Rattle.std.proofs.Common.{refl}
use Rattle.std.proofs.lemmas.List.{map-append}
use Rattle.kernel_threads.proofs.Opening.{threads_more}
use Rattle.kernel_threads.proofs.open.open_threads.Goals as goal

pub loop-decl-preserved : goal.loop-decl-preserved
loop-decl-preserved c =
    let more = threads_more c.items-decl-items.result.now c.loop-decl.decl-index c.decl-item.result c.loop-decl-test.true in
    let at = rw (← c.decl-item.is) at more in
    rw (c.in_ok-add_thread.ensures, c.loop-decl.invariant, at, map-append) refl
