use Rattle.std.proofs.Common.{subst, sym}
use Rattle.words_script.specs.declared.call.Call.{Call}
use Rattle.rules_machine.specs.Calls.{call_effect}
use Rattle.rules_flat_code.specs.FlatBodies.{flat_bodies}
use Rattle.kernel_state.specs.Caller.{caller}
use Rattle.kernel_state.specs.Does.{Does}
use Rattle.calls_signals.proofs.table.do_signal_call.Goals as goal

pub returns-in-Tkill : goal.returns-in-Tkill
returns-in-Tkill g c =
    let p = c.args.p.now in
    subst (λ (x : Call). Does g.K.Sink.text g.K.Sink.faults (call_effect (flat_bodies p.code) (caller c.args.by.now) x) p c.tkill.new.p c.args.out.now c.tkill.new.out) (sym c.in-Tkill.is) c.tkill.ensures
