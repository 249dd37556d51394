use Rattle.std.proofs.Common.{◌^◌, ◌∙◌, None, Some, ap, arith, sym}
use Rattle.rules_machine.proofs.Counting.{instant_now}
use Rattle.rules_flat_code.specs.FlatBodies.{flat_bodies}
use Rattle.rules_bodies.specs.declared.cursor.Cursor.{Cursor}
use Rattle.rules_machine.specs.State.{Machine}
use Rattle.kernel_state.specs.Kernel.{Kernel, turn}
use Rattle.kernel_leaps.proofs.Fitting.{instant_fits}
use Rattle.kernel_leaps.proofs.Prepared.{kernel_prepared}
use Rattle.kernel_leaps.proofs.Midway.{begun, ended_leap, idle_leap, in_time}
use Rattle.kernel_leaps.proofs.PastUnits.{may_leap_on, thread_leapt}
use Rattle.kernel_leaps.proofs.Running.{items_fit}
use Rattle.kernel_leaps.proofs.leaps.leaps.Goals as goal

pub do_instant-requires-clause-fits : goal.do_instant-requires-clause-fits
do_instant-requires-clause-fits g c = items_fit c.args.p.now c.requires.quiet c.requires.fits

-- ---- what precedes the tick of the head

pub prepare-to-requires-clause-latest : goal.prepare-to-requires-clause-latest
prepare-to-requires-clause-latest g c u run =
    (instant_fits c.args.p.now c.do_instant.new.p c.do_instant.ensures.does.state (items_fit c.args.p.now c.requires.quiet c.requires.fits)).latest.each u run

pub prepare-to-requires-clause-early : goal.prepare-to-requires-clause-early
prepare-to-requires-clause-early g c =
    let now = ap (λ (x : Kernel). x.machine.now) c.do_instant.ensures.does.state ∙ instant_now (flat_bodies c.args.p.now.code) (turn c.args.p.now) in
    omega (arith, now, c.requires.early)

pub ticks_to_next-near-requires : goal.ticks_to_next-near-requires
ticks_to_next-near-requires g c =
    let alone = kernel_prepared c.do_instant.new.p c.prepare-to.new.p c.do_instant.ensures.stood c.prepare-to.ensures.does.state in
    let same = ap (λ (x : Machine Cursor). x.now) alone.machine in
    let now = ap (λ (x : Kernel). x.machine.now) c.do_instant.ensures.does.state ∙ instant_now (flat_bodies c.args.p.now.code) (turn c.args.p.now) in
    omega (arith, same, now, c.requires.early)

-- ---- where the process has ended

pub returns-then-is_killed-clause-state : goal.returns-then-is_killed-clause-state
returns-then-is_killed-clause-state g c =
    let on = ended_leap g.K.Sink.text g.K.Sink.faults c.args.p.now c.requires.fits c.do_instant.new.p c.args.most c.args.steps.now c.args.out.now c.do_instant.new.out c.requires.some c.requires.stood c.requires.quiet c.do_instant.ensures.does.state c.do_instant.ensures.does.told
    c.do_instant.ensures.stood c.do_instant.ensures.quiet (sym c.is_killed.ensures ∙ c.if-is_killed.true) in
    on.running.state

pub returns-then-is_killed-clause-told : goal.returns-then-is_killed-clause-told
returns-then-is_killed-clause-told g c =
    let on = ended_leap g.K.Sink.text g.K.Sink.faults c.args.p.now c.requires.fits c.do_instant.new.p c.args.most c.args.steps.now c.args.out.now c.do_instant.new.out c.requires.some c.requires.stood c.requires.quiet c.do_instant.ensures.does.state c.do_instant.ensures.does.told
    c.do_instant.ensures.stood c.do_instant.ensures.quiet (sym c.is_killed.ensures ∙ c.if-is_killed.true) in
    on.running.told

pub returns-then-is_killed-clause-steps : goal.returns-then-is_killed-clause-steps
returns-then-is_killed-clause-steps g c =
    let on = ended_leap g.K.Sink.text g.K.Sink.faults c.args.p.now c.requires.fits c.do_instant.new.p c.args.most c.args.steps.now c.args.out.now c.do_instant.new.out c.requires.some c.requires.stood c.requires.quiet c.do_instant.ensures.does.state c.do_instant.ensures.does.told
    c.do_instant.ensures.stood c.do_instant.ensures.quiet (sym c.is_killed.ensures ∙ c.if-is_killed.true) in
    on.few

-- ---- where nobody runs

pub leap-requires : goal.leap-requires
leap-requires g c =
    let m = begun g.K.Sink.text g.K.Sink.faults c.args.p.now c.requires.fits c.do_instant.new.p c.prepare-to.new.p None c.args.most c.ticks_to_next-near.result c.args.steps.now c.args.out.now c.do_instant.new.out c.prepare-to.new.out
    c.requires.some c.requires.stood c.requires.quiet c.do_instant.ensures.does.state c.do_instant.ensures.does.told c.do_instant.ensures.stood c.do_instant.ensures.quiet (sym c.is_killed.ensures ∙ c.if-is_killed.false)
    (sym c.in_default.is ∙ c.prepare-to.ensures.top) c.prepare-to.ensures.does.state c.prepare-to.ensures.does.told c.ticks_to_next-near.ensures in
    record { early = (let in' = in_time g.K.Sink.text g.K.Sink.faults c.args.p.now c.requires.fits c.prepare-to.new.p None c.args.most c.ticks_to_next-near.result 0 c.args.steps.now c.args.steps.now c.args.out.now c.prepare-to.new.out m (10 ^ 18) c.requires.early in let e = c.max-k.ensures in omega (arith, in', e)) }

pub returns-in_default-clause-within : goal.returns-in_default-clause-within
returns-in_default-clause-within g c =
    let m = begun g.K.Sink.text g.K.Sink.faults c.args.p.now c.requires.fits c.do_instant.new.p c.prepare-to.new.p None c.args.most c.ticks_to_next-near.result c.args.steps.now c.args.out.now c.do_instant.new.out c.prepare-to.new.out
    c.requires.some c.requires.stood c.requires.quiet c.do_instant.ensures.does.state c.do_instant.ensures.does.told c.do_instant.ensures.stood c.do_instant.ensures.quiet (sym c.is_killed.ensures ∙ c.if-is_killed.false)
    (sym c.in_default.is ∙ c.prepare-to.ensures.top) c.prepare-to.ensures.does.state c.prepare-to.ensures.does.told c.ticks_to_next-near.ensures in
    let on = idle_leap g.K.Sink.text g.K.Sink.faults c.args.p.now c.requires.fits c.prepare-to.new.p c.leap.new.self c.args.most c.ticks_to_next-near.result c.args.steps.now c.leap.new.steps c.max-k.result c.args.out.now c.prepare-to.new.out m (let e = c.max-k.ensures in omega (arith, e)) c.leap.ensures.state c.leap.ensures.step in
    on.within

pub returns-in_default-clause-state : goal.returns-in_default-clause-state
returns-in_default-clause-state g c =
    let m = begun g.K.Sink.text g.K.Sink.faults c.args.p.now c.requires.fits c.do_instant.new.p c.prepare-to.new.p None c.args.most c.ticks_to_next-near.result c.args.steps.now c.args.out.now c.do_instant.new.out c.prepare-to.new.out
    c.requires.some c.requires.stood c.requires.quiet c.do_instant.ensures.does.state c.do_instant.ensures.does.told c.do_instant.ensures.stood c.do_instant.ensures.quiet (sym c.is_killed.ensures ∙ c.if-is_killed.false)
    (sym c.in_default.is ∙ c.prepare-to.ensures.top) c.prepare-to.ensures.does.state c.prepare-to.ensures.does.told c.ticks_to_next-near.ensures in
    let on = idle_leap g.K.Sink.text g.K.Sink.faults c.args.p.now c.requires.fits c.prepare-to.new.p c.leap.new.self c.args.most c.ticks_to_next-near.result c.args.steps.now c.leap.new.steps c.max-k.result c.args.out.now c.prepare-to.new.out m (let e = c.max-k.ensures in omega (arith, e)) c.leap.ensures.state c.leap.ensures.step in
    on.running.state

pub returns-in_default-clause-told : goal.returns-in_default-clause-told
returns-in_default-clause-told g c =
    let m = begun g.K.Sink.text g.K.Sink.faults c.args.p.now c.requires.fits c.do_instant.new.p c.prepare-to.new.p None c.args.most c.ticks_to_next-near.result c.args.steps.now c.args.out.now c.do_instant.new.out c.prepare-to.new.out
    c.requires.some c.requires.stood c.requires.quiet c.do_instant.ensures.does.state c.do_instant.ensures.does.told c.do_instant.ensures.stood c.do_instant.ensures.quiet (sym c.is_killed.ensures ∙ c.if-is_killed.false)
    (sym c.in_default.is ∙ c.prepare-to.ensures.top) c.prepare-to.ensures.does.state c.prepare-to.ensures.does.told c.ticks_to_next-near.ensures in
    let on = idle_leap g.K.Sink.text g.K.Sink.faults c.args.p.now c.requires.fits c.prepare-to.new.p c.leap.new.self c.args.most c.ticks_to_next-near.result c.args.steps.now c.leap.new.steps c.max-k.result c.args.out.now c.prepare-to.new.out m (let e = c.max-k.ensures in omega (arith, e)) c.leap.ensures.state c.leap.ensures.step in
    on.running.told

pub returns-in_default-clause-stood : goal.returns-in_default-clause-stood
returns-in_default-clause-stood g c =
    let m = begun g.K.Sink.text g.K.Sink.faults c.args.p.now c.requires.fits c.do_instant.new.p c.prepare-to.new.p None c.args.most c.ticks_to_next-near.result c.args.steps.now c.args.out.now c.do_instant.new.out c.prepare-to.new.out
    c.requires.some c.requires.stood c.requires.quiet c.do_instant.ensures.does.state c.do_instant.ensures.does.told c.do_instant.ensures.stood c.do_instant.ensures.quiet (sym c.is_killed.ensures ∙ c.if-is_killed.false)
    (sym c.in_default.is ∙ c.prepare-to.ensures.top) c.prepare-to.ensures.does.state c.prepare-to.ensures.does.told c.ticks_to_next-near.ensures in
    let on = idle_leap g.K.Sink.text g.K.Sink.faults c.args.p.now c.requires.fits c.prepare-to.new.p c.leap.new.self c.args.most c.ticks_to_next-near.result c.args.steps.now c.leap.new.steps c.max-k.result c.args.out.now c.prepare-to.new.out m (let e = c.max-k.ensures in omega (arith, e)) c.leap.ensures.state c.leap.ensures.step in
    on.running.stood

pub returns-in_default-clause-quiet : goal.returns-in_default-clause-quiet
returns-in_default-clause-quiet g c =
    let m = begun g.K.Sink.text g.K.Sink.faults c.args.p.now c.requires.fits c.do_instant.new.p c.prepare-to.new.p None c.args.most c.ticks_to_next-near.result c.args.steps.now c.args.out.now c.do_instant.new.out c.prepare-to.new.out
    c.requires.some c.requires.stood c.requires.quiet c.do_instant.ensures.does.state c.do_instant.ensures.does.told c.do_instant.ensures.stood c.do_instant.ensures.quiet (sym c.is_killed.ensures ∙ c.if-is_killed.false)
    (sym c.in_default.is ∙ c.prepare-to.ensures.top) c.prepare-to.ensures.does.state c.prepare-to.ensures.does.told c.ticks_to_next-near.ensures in
    let on = idle_leap g.K.Sink.text g.K.Sink.faults c.args.p.now c.requires.fits c.prepare-to.new.p c.leap.new.self c.args.most c.ticks_to_next-near.result c.args.steps.now c.leap.new.steps c.max-k.result c.args.out.now c.prepare-to.new.out m (let e = c.max-k.ensures in omega (arith, e)) c.leap.ensures.state c.leap.ensures.step in
    on.running.quiet

pub returns-in_default-clause-steps : goal.returns-in_default-clause-steps
returns-in_default-clause-steps g c =
    let m = begun g.K.Sink.text g.K.Sink.faults c.args.p.now c.requires.fits c.do_instant.new.p c.prepare-to.new.p None c.args.most c.ticks_to_next-near.result c.args.steps.now c.args.out.now c.do_instant.new.out c.prepare-to.new.out
    c.requires.some c.requires.stood c.requires.quiet c.do_instant.ensures.does.state c.do_instant.ensures.does.told c.do_instant.ensures.stood c.do_instant.ensures.quiet (sym c.is_killed.ensures ∙ c.if-is_killed.false)
    (sym c.in_default.is ∙ c.prepare-to.ensures.top) c.prepare-to.ensures.does.state c.prepare-to.ensures.does.told c.ticks_to_next-near.ensures in
    let on = idle_leap g.K.Sink.text g.K.Sink.faults c.args.p.now c.requires.fits c.prepare-to.new.p c.leap.new.self c.args.most c.ticks_to_next-near.result c.args.steps.now c.leap.new.steps c.max-k.result c.args.out.now c.prepare-to.new.out m (let e = c.max-k.ensures in omega (arith, e)) c.leap.ensures.state c.leap.ensures.step in
    on.few

-- ---- where a thread does

pub leap_thread-requires-clause-quiet : goal.leap_thread-requires-clause-quiet
leap_thread-requires-clause-quiet g c =
    let m = begun g.K.Sink.text g.K.Sink.faults c.args.p.now c.requires.fits c.do_instant.new.p c.prepare-to.new.p (Some c.in-Some.t) c.args.most c.ticks_to_next-near.result c.args.steps.now c.args.out.now c.do_instant.new.out c.prepare-to.new.out
    c.requires.some c.requires.stood c.requires.quiet c.do_instant.ensures.does.state c.do_instant.ensures.does.told c.do_instant.ensures.stood c.do_instant.ensures.quiet (sym c.is_killed.ensures ∙ c.if-is_killed.false)
    (sym c.in-Some.is ∙ c.prepare-to.ensures.top) c.prepare-to.ensures.does.state c.prepare-to.ensures.does.told c.ticks_to_next-near.ensures in
    m.quiet

pub leap_thread-requires-clause-may : goal.leap_thread-requires-clause-may
leap_thread-requires-clause-may g c =
    let m = begun g.K.Sink.text g.K.Sink.faults c.args.p.now c.requires.fits c.do_instant.new.p c.prepare-to.new.p (Some c.in-Some.t) c.args.most c.ticks_to_next-near.result c.args.steps.now c.args.out.now c.do_instant.new.out c.prepare-to.new.out
    c.requires.some c.requires.stood c.requires.quiet c.do_instant.ensures.does.state c.do_instant.ensures.does.told c.do_instant.ensures.stood c.do_instant.ensures.quiet (sym c.is_killed.ensures ∙ c.if-is_killed.false)
    (sym c.in-Some.is ∙ c.prepare-to.ensures.top) c.prepare-to.ensures.does.state c.prepare-to.ensures.does.told c.ticks_to_next-near.ensures in
    may_leap_on g.K.Sink.text g.K.Sink.faults c.args.p.now c.requires.fits c.prepare-to.new.p c.in-Some.t c.args.most c.ticks_to_next-near.result c.args.steps.now c.args.out.now c.prepare-to.new.out m c.requires.early

pub returns-clause-within : goal.returns-clause-within
returns-clause-within g c =
    let m = begun g.K.Sink.text g.K.Sink.faults c.args.p.now c.requires.fits c.do_instant.new.p c.prepare-to.new.p (Some c.in-Some.t) c.args.most c.ticks_to_next-near.result c.args.steps.now c.args.out.now c.do_instant.new.out c.prepare-to.new.out
    c.requires.some c.requires.stood c.requires.quiet c.do_instant.ensures.does.state c.do_instant.ensures.does.told c.do_instant.ensures.stood c.do_instant.ensures.quiet (sym c.is_killed.ensures ∙ c.if-is_killed.false)
    (sym c.in-Some.is ∙ c.prepare-to.ensures.top) c.prepare-to.ensures.does.state c.prepare-to.ensures.does.told c.ticks_to_next-near.ensures in
    let on = thread_leapt g.K.Sink.text g.K.Sink.faults c.args.p.now c.requires.fits c.prepare-to.new.p c.in-Some.t c.args.most c.ticks_to_next-near.result c.args.steps.now c.args.out.now c.prepare-to.new.out m c.leap_thread.new.p c.leap_thread.new.out c.leap_thread.result.ticks c.leap_thread.new.steps c.leap_thread.ensures.leapt c.leap_thread.ensures.stood c.leap_thread.ensures.quiet in
    on.within

pub returns-clause-state : goal.returns-clause-state
returns-clause-state g c =
    let m = begun g.K.Sink.text g.K.Sink.faults c.args.p.now c.requires.fits c.do_instant.new.p c.prepare-to.new.p (Some c.in-Some.t) c.args.most c.ticks_to_next-near.result c.args.steps.now c.args.out.now c.do_instant.new.out c.prepare-to.new.out
    c.requires.some c.requires.stood c.requires.quiet c.do_instant.ensures.does.state c.do_instant.ensures.does.told c.do_instant.ensures.stood c.do_instant.ensures.quiet (sym c.is_killed.ensures ∙ c.if-is_killed.false)
    (sym c.in-Some.is ∙ c.prepare-to.ensures.top) c.prepare-to.ensures.does.state c.prepare-to.ensures.does.told c.ticks_to_next-near.ensures in
    let on = thread_leapt g.K.Sink.text g.K.Sink.faults c.args.p.now c.requires.fits c.prepare-to.new.p c.in-Some.t c.args.most c.ticks_to_next-near.result c.args.steps.now c.args.out.now c.prepare-to.new.out m c.leap_thread.new.p c.leap_thread.new.out c.leap_thread.result.ticks c.leap_thread.new.steps c.leap_thread.ensures.leapt c.leap_thread.ensures.stood c.leap_thread.ensures.quiet in
    on.running.state

pub returns-clause-told : goal.returns-clause-told
returns-clause-told g c =
    let m = begun g.K.Sink.text g.K.Sink.faults c.args.p.now c.requires.fits c.do_instant.new.p c.prepare-to.new.p (Some c.in-Some.t) c.args.most c.ticks_to_next-near.result c.args.steps.now c.args.out.now c.do_instant.new.out c.prepare-to.new.out
    c.requires.some c.requires.stood c.requires.quiet c.do_instant.ensures.does.state c.do_instant.ensures.does.told c.do_instant.ensures.stood c.do_instant.ensures.quiet (sym c.is_killed.ensures ∙ c.if-is_killed.false)
    (sym c.in-Some.is ∙ c.prepare-to.ensures.top) c.prepare-to.ensures.does.state c.prepare-to.ensures.does.told c.ticks_to_next-near.ensures in
    let on = thread_leapt g.K.Sink.text g.K.Sink.faults c.args.p.now c.requires.fits c.prepare-to.new.p c.in-Some.t c.args.most c.ticks_to_next-near.result c.args.steps.now c.args.out.now c.prepare-to.new.out m c.leap_thread.new.p c.leap_thread.new.out c.leap_thread.result.ticks c.leap_thread.new.steps c.leap_thread.ensures.leapt c.leap_thread.ensures.stood c.leap_thread.ensures.quiet in
    on.running.told

pub returns-clause-steps : goal.returns-clause-steps
returns-clause-steps g c =
    let m = begun g.K.Sink.text g.K.Sink.faults c.args.p.now c.requires.fits c.do_instant.new.p c.prepare-to.new.p (Some c.in-Some.t) c.args.most c.ticks_to_next-near.result c.args.steps.now c.args.out.now c.do_instant.new.out c.prepare-to.new.out
    c.requires.some c.requires.stood c.requires.quiet c.do_instant.ensures.does.state c.do_instant.ensures.does.told c.do_instant.ensures.stood c.do_instant.ensures.quiet (sym c.is_killed.ensures ∙ c.if-is_killed.false)
    (sym c.in-Some.is ∙ c.prepare-to.ensures.top) c.prepare-to.ensures.does.state c.prepare-to.ensures.does.told c.ticks_to_next-near.ensures in
    let on = thread_leapt g.K.Sink.text g.K.Sink.faults c.args.p.now c.requires.fits c.prepare-to.new.p c.in-Some.t c.args.most c.ticks_to_next-near.result c.args.steps.now c.args.out.now c.prepare-to.new.out m c.leap_thread.new.p c.leap_thread.new.out c.leap_thread.result.ticks c.leap_thread.new.steps c.leap_thread.ensures.leapt c.leap_thread.ensures.stood c.leap_thread.ensures.quiet in
    on.few
