use Rattle.std.proofs.Common.{false, subst, sym, true}
use Rattle.parts_tracer.specs.Printed.{Printed, outlet}
use Rattle.rules_machine.specs.Machine.{closing, names_of}
use Rattle.rules_machine.specs.Runs.{opening, ticks}
use Rattle.rules_flat_code.specs.FlatBodies.{code_of, flat_bodies}
use Rattle.kernel_state.specs.Kernel.{Kernel}
use Rattle.kernel_leaps.specs.Detail.{Writes, told_by}
use Rattle.kernel_leaps.proofs.OneLeap.{put_of}
use Rattle.kernel_leaps.proofs.TellingRun.{detail_is}
use Rattle.kernel_leaps.proofs.TellingTick.{writes_both, writes_stopped}
use Rattle.kernel_leaps.proofs.detail.write_detail.Goals as goal

pub returns-then-tell_run-clause-told : goal.returns-then-tell_run-clause-told
returns-then-tell_run-clause-told g c =
    let s = c.args.script.now in
    let h = c.args.horizon in
    let ends = closing (names_of s) (ticks (flat_bodies (code_of s)) h (opening s)).machine in
    subst (Writes g.K.Sink.text g.K.Sink.faults c.args.sink.now c.tell_run.new.sink true) (sym (detail_is s h))
    (writes_stopped g.K.Sink.text g.K.Sink.faults c.args.sink.now c.tell_run.new.sink c.tell_run.result (told_by s h) ends c.if-tell_run.true c.tell_run.ensures.told)

pub returns-clause-told : goal.returns-clause-told
returns-clause-told g c =
    let s = c.args.script.now in
    let h = c.args.horizon in
    let ends = closing (names_of s) (ticks (flat_bodies (code_of s)) h (opening s)).machine in
    let told = c.write_closing.new.sink in
    let closed = subst (λ (x : Kernel). Printed (outlet g.K.Sink.text g.K.Sink.faults false c.tell_run.new.sink) (outlet g.K.Sink.text g.K.Sink.faults c.write_closing.result told) (closing x.names x.machine)) (c.tell_run.ensures.state c.if-tell_run.false) c.write_closing.ensures in
    subst (Writes g.K.Sink.text g.K.Sink.faults c.args.sink.now told c.write_closing.result) (sym (detail_is s h))
    (writes_both g.K.Sink.text g.K.Sink.faults c.args.sink.now c.tell_run.new.sink told c.tell_run.result c.write_closing.result (told_by s h) ends c.if-tell_run.false c.tell_run.ensures.told
    (put_of g.K.Sink.text g.K.Sink.faults false c.write_closing.result c.tell_run.new.sink told ends closed))
