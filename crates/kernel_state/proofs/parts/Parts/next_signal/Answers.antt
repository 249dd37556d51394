use Rattle.std.proofs.Common.{◌≡◌, ◌∙◌, true, ap, arith, subst}
use Rattle.rules_bodies.specs.declared.cursor.Cursor.{Cursor}
use Rattle.rules_machine.specs.Delivery.{may_be_interrupted, taken_by_sweep}
use Rattle.rules_machine.specs.State.{Thread}
use Rattle.kernel_threads.specs.Signals.{runs_handlers}
use Rattle.kernel_state.specs.Kernel.{Kernel}
use Rattle.kernel_state.specs.View.{machine_of}
use Rattle.kernel_state.proofs.Targets.{taken_is}
use Rattle.kernel_state.proofs.parts.Parts.next_signal.Goals as goal

pub returns-clause-value : goal.returns-clause-value
returns-clause-value c =
    let m = machine_of c.self.inside in
    let th = c.thread-thread.ensures in
    let on : c.may_be_interrupted.result ≡ true = grind (arith, c.if-not-may_be_interrupted.false) in
    subst (λ (k : Kernel). c.next_for.result ≡ taken_by_sweep k.machine c.args.t) c.self.view_is
    (taken_is m c.args.t c.mask.result c.kills.result c.runs_handlers.result c.may_be_interrupted.result c.next_for.result
    (c.mask.ensures ∙ ap (λ (x : Thread Cursor). x.mask) th) (c.runs_handlers.ensures ∙ ap (λ (x : Thread Cursor). runs_handlers x.status) th) c.kills.ensures c.next_for.ensures.signals
    (c.may_be_interrupted.ensures ∙ ap (λ (x : Thread Cursor). may_be_interrupted x) th) on c.next_for.ensures.value)
