use Rattle.std.proofs.Common.{◌≡◌, Some}
use Rattle.kernel_state.specs.Caller.{caller}
use Rattle.calls_queues.proofs.Received.{as_handed, told_handed}
use Rattle.calls_queues.proofs.receives.mq_receive.Goals as goal

pub returns-in-Some : goal.returns-in-Some
returns-in-Some g c = record {
  state = (let some : c.take_message.result ≡ Some c.in-Some.value = cc (c.in-Some.is) in
      as_handed (caller c.args.by.now) c.args.q c.args.due c.args.p.now c.take_message.new.self c.take_message.ensures.state c.in-Some.value c.best_sender-sender.result c.take_message.result
      c.best_sender-sender.ensures.value c.take_message.ensures.value some c.hand_out.new.p c.hand_out.ensures.state);
  told = (let some : c.take_message.result ≡ Some c.in-Some.value = cc (c.in-Some.is) in
      told_handed (caller c.args.by.now) c.args.q c.args.due c.args.p.now c.take_message.new.self c.take_message.ensures.state c.in-Some.value c.best_sender-sender.result c.take_message.result
      c.best_sender-sender.ensures.value c.take_message.ensures.value some g.K.Sink.text g.K.Sink.faults c.args.out.now c.hand_out.new.out c.hand_out.ensures.told);
}
