use Rattle.std.proofs.Common.{ℕ, Some, subst, sym}
use Rattle.words_script.specs.declared.call.Call.{Call}
use Rattle.rules_machine.specs.Calls.{call_effect}
use Rattle.rules_machine.specs.Conditions.{waits}
use Rattle.rules_flat_code.specs.FlatBodies.{flat_bodies}
use Rattle.kernel_state.specs.Caller.{caller}
use Rattle.kernel_state.specs.Does.{Does}
use Rattle.calls_sync.proofs.table.do_sync_call.Goals as goal

pub returns-in-Wait : goal.returns-in-Wait
returns-in-Wait g c =
    let p = c.args.p.now in
    subst (λ (x : Call). Does g.K.Sink.text g.K.Sink.faults (call_effect (flat_bodies p.code) (caller c.args.by.now) x) p c.cond_wait.new.p c.args.out.now c.cond_wait.new.out) (sym c.in-Wait.is) c.cond_wait.ensures

pub returns-in-Timedwait : goal.returns-in-Timedwait
returns-in-Timedwait g c =
    let p = c.args.p.now in
    let q = c.cond_wait-in-Timedwait.new in
    let waits_until = λ (at : ℕ). waits (caller c.args.by.now) c.in-Timedwait.cond c.in-Timedwait.mutex (Some at) in
    let does = subst (λ (at : ℕ). Does g.K.Sink.text g.K.Sink.faults (waits_until at) p q.p c.args.out.now q.out) c.moment-in-Timedwait.ensures.value c.cond_wait-in-Timedwait.ensures in
    subst (λ (x : Call). Does g.K.Sink.text g.K.Sink.faults (call_effect (flat_bodies p.code) (caller c.args.by.now) x) p q.p c.args.out.now q.out) (sym c.in-Timedwait.is)
    (record { state = does.state; told = does.told })
