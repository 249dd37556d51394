use Rattle.std.proofs.Common.{◌≡◌, Some}
use Rattle.std.specs.Prelude.{option_map}
use Rattle.rules_machine.specs.Signals.{acceptor}
use Rattle.rules_machine.specs.Waiters.{Waiter}
use Rattle.kernel_state.specs.Caller.{caller}
use Rattle.calls_signals.proofs.Sent.{as_sent_to, told_sent_to}
use Rattle.calls_signals.proofs.kills.send.Goals as goal

pub returns-in-Some : goal.returns-in-Some
returns-in-Some g c = record {
  state = (let is : Some c.in-Some.w ≡ option_map (λ (w : Waiter). w.thread) (acceptor c.args.p.now.machine c.args.r.now) = cc (c.in-Some.is, c.acceptor.ensures.value) in
      as_sent_to (caller c.args.by.now) c.args.r.now c.args.p.now c.send_to_acceptor.new.p c.in-Some.w is c.send_to_acceptor.ensures.state);
  told = (let is : Some c.in-Some.w ≡ option_map (λ (w : Waiter). w.thread) (acceptor c.args.p.now.machine c.args.r.now) = cc (c.in-Some.is, c.acceptor.ensures.value) in
      told_sent_to g.K.Sink.text g.K.Sink.faults (caller c.args.by.now) c.args.r.now c.args.p.now c.args.out.now c.send_to_acceptor.new.out c.in-Some.w is c.send_to_acceptor.ensures.told);
}
