use Rattle.std.proofs.Common.{refl}
use Rattle.rules_machine.specs.Declarations.{named, timer_kind}
use Rattle.kernel_timers.proofs.Opening.{read_more}
use Rattle.kernel_timers.proofs.open.open_timers.Goals as goal

pub loop-decl-preserved : goal.loop-decl-preserved
loop-decl-preserved c =
    let more = read_more (named timer_kind) c.items-decl-items.result.now c.loop-decl.decl-index c.decl-item.result c.loop-decl-test.true in
    let at = rw (← c.decl-item.is) at more in
    rw (c.in_ok-add_timer.ensures, c.loop-decl.invariant, at) refl
