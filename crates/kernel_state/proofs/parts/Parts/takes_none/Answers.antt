use Rattle.std.specs.Prelude.{All}
use Rattle.std.proofs.Common.{◌≡◌, ◌∙◌, None, ap, subst, true}
use Rattle.words_numbers.specs.Signals.{has_signal}
use Rattle.rules_bodies.specs.declared.cursor.Cursor.{Cursor}
use Rattle.rules_machine.specs.Delivery.{taken_by_sweep}
use Rattle.rules_machine.specs.State.{SignalRecord, Thread}
use Rattle.kernel_state.specs.Kernel.{Kernel}
use Rattle.kernel_state.specs.View.{machine_of}
use Rattle.kernel_state.proofs.Targets.{masked_takes_none}
use Rattle.kernel_state.proofs.parts.Parts.takes_none.Goals as goal

pub returns-then-are_masked : goal.returns-then-are_masked
returns-then-are_masked c all_are =
    let m = machine_of c.self.inside in
    let mask = c.mask.ensures ∙ ap (λ (x : Thread Cursor). x.mask) c.thread-thread.ensures in
    subst (λ (k : Kernel). taken_by_sweep k.machine c.args.t ≡ None) c.self.view_is
    (masked_takes_none m c.args.t (subst (λ mask. All (λ (r : SignalRecord). has_signal mask r.signal ≡ true) m.pending) mask (c.are_masked.ensures.0 all_are)))
