use Rattle.std.proofs.Common.{◌≡◌, Some}
use Rattle.rules_machine.specs.Delivery.{taken_by_sweep}
use Rattle.rules_flat_code.specs.FlatBodies.{flat_bodies}
use Rattle.calls_items.proofs.Swept.{as_ended, as_none, as_some, taken_may, told_ended, told_none, told_some}
use Rattle.calls_items.proofs.sweeps.visit.Goals as goal

pub returns-then-is_killed : goal.returns-then-is_killed
returns-then-is_killed g c = record {
  state = (as_ended (flat_bodies c.args.p.now.code) c.args.t c.args.p.now c.is_killed.result c.is_killed.ensures c.if-is_killed.true);
  told = (told_ended (flat_bodies c.args.p.now.code) c.args.t c.args.p.now c.is_killed.result c.is_killed.ensures g.K.Sink.text g.K.Sink.faults c.args.out.now c.if-is_killed.true);
}

pub returns-in-None : goal.returns-in-None
returns-in-None g c = record {
  state = (as_none (flat_bodies c.args.p.now.code) c.args.t c.args.p.now c.is_killed.result c.is_killed.ensures c.if-is_killed.false c.next_signal.result c.next_signal.ensures.value c.in-None.is);
  told = (told_none (flat_bodies c.args.p.now.code) c.args.t c.args.p.now c.is_killed.result c.is_killed.ensures g.K.Sink.text g.K.Sink.faults c.args.out.now c.if-is_killed.false c.next_signal.result c.next_signal.ensures.value c.in-None.is);
}

pub returns : goal.returns
returns g c = record {
  state = (let taken : Some c.in-Some.r ≡ taken_by_sweep c.args.p.now.machine c.args.t = cc (c.in-Some.is, c.next_signal.ensures.value) in
      as_some (flat_bodies c.args.p.now.code) c.args.t c.args.p.now c.is_killed.result c.is_killed.ensures c.if-is_killed.false c.in-Some.r _ taken c.take_record.ensures.state);
  told = (let taken : Some c.in-Some.r ≡ taken_by_sweep c.args.p.now.machine c.args.t = cc (c.in-Some.is, c.next_signal.ensures.value) in
      told_some (flat_bodies c.args.p.now.code) c.args.t c.args.p.now c.is_killed.result c.is_killed.ensures g.K.Sink.text g.K.Sink.faults c.args.out.now c.if-is_killed.false c.in-Some.r _ taken c.take_record.ensures.told);
}

pub take_record-requires-clause-frames : goal.take_record-requires-clause-frames
take_record-requires-clause-frames g c =
    let taken : Some c.in-Some.r ≡ taken_by_sweep c.args.p.now.machine c.args.t = cc (c.in-Some.is, c.next_signal.ensures.value) in
    c.requires.thread.frames (taken_may c.args.p.now.machine c.args.t c.in-Some.r taken)
