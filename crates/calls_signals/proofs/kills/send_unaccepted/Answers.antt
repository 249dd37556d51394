use Rattle.kernel_state.specs.Caller.{caller}
use Rattle.calls_signals.proofs.Sent.{as_ignored, as_pending, told_ignored, told_pending}
use Rattle.calls_signals.proofs.kills.send_unaccepted.Goals as goal

pub returns-then-is_ignored : goal.returns-then-is_ignored
returns-then-is_ignored g c = record {
  state = (as_ignored (caller c.args.by.now) c.args.r.now c.args.p.now c.returns.new.self c.is_ignored.result c.is_ignored.ensures c.if-is_ignored.true c.requires.nobody c.returns.ensures.state);
  told = (told_ignored g.K.Sink.text g.K.Sink.faults (caller c.args.by.now) c.args.r.now c.args.p.now c.args.out.now c.returns.new.out c.is_ignored.result c.is_ignored.ensures c.if-is_ignored.true c.requires.nobody c.returns.ensures.told);
}

pub returns-else-is_full : goal.returns-else-is_full
returns-else-is_full g c = record {
  state = (as_pending (caller c.args.by.now) c.args.r.now c.args.p.now c.send_pending.new.p c.is_ignored.result c.is_full.result c.is_ignored.ensures c.if-is_ignored.false c.is_full.ensures c.if-is_full.false c.requires.nobody c.send_pending.ensures.state);
  told = (told_pending g.K.Sink.text g.K.Sink.faults (caller c.args.by.now) c.args.r.now c.args.p.now c.args.out.now c.send_pending.new.out c.is_ignored.result c.is_full.result c.is_ignored.ensures c.if-is_ignored.false c.is_full.ensures
      c.if-is_full.false c.requires.nobody c.send_pending.ensures.told);
}
