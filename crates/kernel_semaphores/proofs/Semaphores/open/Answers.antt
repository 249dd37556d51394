use Rattle.std.proofs.Common.{refl}
use Rattle.rules_machine.specs.Declarations.{named, semaphore_kind}
use Rattle.kernel_semaphores.proofs.Opening.{found_more}
use Rattle.kernel_semaphores.proofs.Semaphores.open.Goals as goal

pub loop-decl-preserved : goal.loop-decl-preserved
loop-decl-preserved c =
    let more = found_more (named semaphore_kind) c.items-decl-items.result.now c.loop-decl.decl-index c.decl-item.result c.loop-decl-test.true in
    let at = rw (← c.decl-item.is) at more in
    rw (c.in_ok-add_value.ensures, c.loop-decl.invariant, at) refl
