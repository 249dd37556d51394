use Rattle.std.proofs.Common.{◌≡◌, subst, sym, true}
use Rattle.words_numbers.specs.declared.res.Res.TheVariants as res
use Rattle.rules_machine.specs.Threads.{is_blocked, thread_at}
use Rattle.rules_machine.specs.Waking.{wakes}
use Rattle.rules_machine.proofs.Behind.{wakes_behind}
use Rattle.kernel_threads.specs.Plain.{message_of}
use Rattle.kernel_state.specs.Kernel.{Kernel}
use Rattle.calls_queues.proofs.Entered.{entered, told_entered}
use Rattle.calls_queues.proofs.Kept.{put_can, woken_can}
use Rattle.calls_queues.proofs.entries.enter_and_wake.Goals as goal

pub notify-requires-clause-can : goal.notify-requires-clause-can
notify-requires-clause-can g c =
    let w = c.args.sender in
    let waits = subst (λ (k : Kernel). is_blocked (thread_at k.machine w).status ≡ true) (sym c.put_message.ensures) c.requires.blocked in
    let can = put_can c.args.q (message_of c.args.message) c.args.p.now c.put_message.new.self c.put_message.ensures c.requires.can.notifies in
    woken_can w res.Zero 0 c.args.q c.put_message.new.self c.wake.new.p c.wake.ensures.state waits can

pub returns : goal.returns
returns g c = record {
  state = (let w = c.args.sender in
      entered c.args.q (message_of c.args.message) (wakes w res.Zero 0) (wakes_behind w res.Zero 0) c.fired_by_message-fired.result c.args.p.now c.put_message.new.self c.wake.new.p c.notify.new.p
      c.fired_by_message-fired.ensures.value c.put_message.ensures c.wake.ensures.state c.notify.ensures.state);
  told = (let w = c.args.sender in
      told_entered c.args.q (message_of c.args.message) (wakes w res.Zero 0) (wakes_behind w res.Zero 0) c.fired_by_message-fired.result c.args.p.now c.put_message.new.self c.wake.new.p c.notify.new.p
      c.fired_by_message-fired.ensures.value c.put_message.ensures c.wake.ensures.state g.K.Sink.text g.K.Sink.faults c.args.out.now c.wake.new.out c.notify.new.out c.wake.ensures.told c.notify.ensures.told);
}
