use Rattle.std.proofs.Common.{◌≡◌, ◌<◌, ℕ, arith, length, subst, sym}
use Rattle.parts_tracer.specs.Tells.{Tells}
use Rattle.rules_machine.specs.Threads.{thread_at}
use Rattle.rules_flat_code.specs.FlatBodies.{flat_bodies}
use Rattle.kernel_state.specs.Kernel.{after, told}
use Rattle.kernel_state.specs.Caught.{CanVisit}
use Rattle.calls_items.proofs.Midway.{caught_midway, early_midway, first_visits, one_visit, one_visited, room_midway, thread_midway}
use Rattle.kernel_state.specs.Does.{Does}
use Rattle.calls_items.proofs.sweeps.visit_all.Goals as goal

pub loop-number-preserved : goal.loop-number-preserved
loop-number-preserved g c =
    let state = subst (λ (t : ℕ). c.visit.new.p ≡ after (one_visit t (flat_bodies c.loop-number.p.code)) c.loop-number.p) c.tid-t.ensures c.visit.ensures.state in
    let tells = subst (λ (t : ℕ). Tells g.K.Sink.text g.K.Sink.faults c.loop-number.p.names c.loop-number.out c.visit.new.out (told (one_visit t (flat_bodies c.loop-number.p.code)) c.loop-number.p)) c.tid-t.ensures c.visit.ensures.told in
    one_visited g.K.Sink.text g.K.Sink.faults c.args.p.now c.loop-number.p c.visit.new.p c.loop-number.number c.args.out.now c.loop-number.out c.visit.new.out c.loop-number.invariant state tells

pub visit-requires-clause-caught : goal.visit-requires-clause-caught
visit-requires-clause-caught g c = caught_midway c.args.p.now c.loop-number.p c.loop-number.number c.loop-number.invariant.state c.requires.can.caught

pub visit-requires-clause-room : goal.visit-requires-clause-room
visit-requires-clause-room g c =
    let end = c.count-number-end.ensures.few in
    let within = c.loop-number-test.true in
    let lt : c.loop-number.number < 256 = omega (arith, end, within) in
    room_midway c.args.p.now c.loop-number.p c.loop-number.number c.loop-number.invariant.state c.requires.quiet lt

pub visit-requires-clause-thread : goal.visit-requires-clause-thread
visit-requires-clause-thread g c =
    subst (λ (t : ℕ). CanVisit (thread_at c.loop-number.p.machine t)) (sym c.tid-t.ensures)
    (thread_midway c.args.p.now c.loop-number.p c.loop-number.number c.loop-number.invariant.state (c.requires.can.each c.loop-number.number))

pub visit-requires-clause-early : goal.visit-requires-clause-early
visit-requires-clause-early g c = early_midway c.args.p.now c.loop-number.p c.loop-number.number c.loop-number.invariant.state c.requires.early

pub returns : goal.returns
returns g c =
    let end = c.count-number-end.ensures.threads in
    let past = c.loop-number-test.false in
    let most = c.loop-number.auto.number-end in
    let all : c.loop-number.number ≡ length c.args.p.now.machine.threads = omega (arith, end, past, most) in
    subst (λ (n : ℕ). Does g.K.Sink.text g.K.Sink.faults (first_visits n (flat_bodies c.args.p.now.code)) c.args.p.now c.loop-number.p c.args.out.now c.loop-number.out) all
    (record { state = c.loop-number.invariant.state; told = c.loop-number.invariant.told })
