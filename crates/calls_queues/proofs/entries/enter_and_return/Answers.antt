use Rattle.words_numbers.specs.declared.res.Res.TheVariants as res
use Rattle.rules_machine.specs.Turns.{returns as returning}
use Rattle.rules_machine.proofs.Behind.{returns_behind}
use Rattle.kernel_threads.specs.Plain.{message_of}
use Rattle.kernel_state.specs.Caller.{caller}
use Rattle.calls_queues.proofs.Entered.{told_entered}
use Rattle.std.proofs.Common.{rules}
use Rattle.calls_queues.proofs.entries.enter_and_return.Goals as goal

pub returns : goal.returns
returns g c = record {
  state = (search rules);
  told = (let b = caller c.args.by.now in
      told_entered c.args.q (message_of c.args.message) (returning b res.Zero 0) (returns_behind b res.Zero 0) c.fired_by_message-fired.result c.args.p.now c.put_message.new.self c.returns.new.self c.notify.new.p
      c.fired_by_message-fired.ensures.value c.put_message.ensures c.returns.ensures.state g.K.Sink.text g.K.Sink.faults c.args.out.now c.returns.new.out c.notify.new.out c.returns.ensures.told c.notify.ensures.told);
}
