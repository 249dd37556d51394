use Rattle.std.proofs.Common.{None, refl, subst, ◌≡◌}
use Rattle.rules_machine.specs.Queues.{record_of_notification, registered}
use Rattle.rules_machine.specs.Signals.{generates}
use Rattle.rules_machine.specs.State.{SignalRecord}
use Rattle.rules_machine.specs.Turns.{changes_queue}
use Rattle.kernel_state.specs.Does.{Does}
use Rattle.kernel_state.proofs.Does.{quiet_does}
use Rattle.calls_queues.proofs.notification.fire.Goals as goal

pub returns : goal.returns
returns g c =
    let r = record_of_notification c.args.q c.args.r.now in
    let is : c.of_queue-record.result ≡ r = rw (c.signal.ensures, c.value.ensures) at c.of_queue-record.ensures in
    let sent = subst (λ (x : SignalRecord). Does g.K.Sink.text g.K.Sink.faults (generates x) c.register.new.self c.generate.new.p c.args.out.now c.generate.new.out) is c.generate.ensures in
    quiet_does (changes_queue c.args.q (registered None)) refl c.register.ensures sent
