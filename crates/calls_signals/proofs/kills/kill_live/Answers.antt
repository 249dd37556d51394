use Rattle.std.proofs.Common.{subst}
use Rattle.rules_machine.specs.Signals.{sends_signal}
use Rattle.rules_machine.specs.State.{SignalRecord}
use Rattle.kernel_state.specs.Caller.{caller}
use Rattle.kernel_state.specs.Does.{Does}
use Rattle.calls_signals.proofs.kills.kill_live.Goals as goal

pub returns : goal.returns
returns g c = subst (λ (r : SignalRecord). Does g.K.Sink.text g.K.Sink.faults (sends_signal (caller c.args.by.now) r) c.args.p.now c.send.new.p c.args.out.now c.send.new.out) c.of_kill-r.ensures c.send.ensures
