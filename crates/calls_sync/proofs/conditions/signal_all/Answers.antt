use Rattle.std.proofs.Common.{arith, rules}
use Rattle.rules_machine.specs.Conditions.{waits_on_condition}
use Rattle.calls_sync.proofs.WaitersLeft.{contends_fewer, few_left, none_is_left, on_condition, one_fewer}
use Rattle.calls_sync.proofs.conditions.signal_all.Goals as goal

pub contend-requires-clause-can : goal.contend-requires-clause-can
contend-requires-clause-can g c =
    let start = c.args.p.now.machine in
    let most = few_left c.args.c start in
    let few = c.count.ensures.few in
    let all = c.count.ensures.threads in
    let moved = c.loop-w.invariant.so.room in
    let room = c.requires.room in
    let taken = c.loop-w.invariant.so.serial in
    let serial = c.requires.serial in
    record {
      fits = search rules;
      room = omega (arith, most, few, all, moved, room);
      serial = omega (arith, most, few, all, taken, serial);
      early = search rules;
    }

pub loop-w-smaller : goal.loop-w-smaller
loop-w-smaller g c =
    let less = contends_fewer c.args.c c.loop-w.p c.contend.new.p c.in-Some.w (c.in-Some.ensures.value (waits_on_condition c.args.c) (on_condition c.args.c)) c.contend.ensures.state in
    omega (arith, less)

pub loop-w-preserved : goal.loop-w-preserved
loop-w-preserved g c =
    one_fewer g.K.Sink.text g.K.Sink.faults c.args.c c.args.p.now c.loop-w.p c.contend.new.p c.in-Some.w c.args.out.now c.loop-w.out c.contend.new.out
    (c.in-Some.ensures.value (waits_on_condition c.args.c) (on_condition c.args.c)) c.loop-w.invariant c.contend.ensures.state c.contend.ensures.told

pub returns : goal.returns
returns g c =
    let all = none_is_left g.K.Sink.text g.K.Sink.faults c.args.c c.args.p.now c.loop-w.p c.args.out.now c.loop-w.out
    (c.in_default.ensures.value (waits_on_condition c.args.c) (on_condition c.args.c)) c.loop-w.invariant in
    record { state = all.state; told = all.told }
