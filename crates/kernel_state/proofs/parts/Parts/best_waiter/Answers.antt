use Rattle.std.proofs.Common.{subst}
use Rattle.std.specs.Prelude.{◌≡◌, ◌<◌, IfSome, length, true}
use Rattle.rules_machine.specs.Threads.{is_blocked, thread_at}
use Rattle.kernel_state.specs.Kernel.{Kernel}
use Rattle.kernel_state.specs.View.{machine_of}
use Rattle.kernel_state.proofs.Waits.{best_is_blocked, best_is_known}
use Rattle.kernel_state.proofs.parts.Parts.best_waiter.Goals as goal

pub returns-clause-known : goal.returns-clause-known
returns-clause-known c =
    subst (λ (k : Kernel). IfSome c.best.result (λ t. t < length k.names)) c.self.view_is
    (best_is_known (machine_of c.self.inside) c.args.object c.best.result c.best.ensures _ c.self.invariant.tied.named)

pub returns-clause-blocked : goal.returns-clause-blocked
returns-clause-blocked c =
    subst (λ (k : Kernel). IfSome c.best.result (λ t. is_blocked (thread_at k.machine t).status ≡ true)) c.self.view_is
    (best_is_blocked (machine_of c.self.inside) c.args.object c.best.result c.best.ensures)
