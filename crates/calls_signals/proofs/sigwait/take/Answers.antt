use Rattle.std.proofs.Common.{refl, subst, ℕ}
use Rattle.words_numbers.specs.declared.res.Res.TheVariants as res
use Rattle.rules_machine.specs.Turns.{changes_pending, returns as returning}
use Rattle.kernel_state.specs.Caller.{caller}
use Rattle.kernel_state.specs.Does.{Does}
use Rattle.kernel_state.proofs.Does.{quiet_does, then_does}
use Rattle.rules_machine.specs.Signals.{without_record}
use Rattle.rules_machine.proofs.Behind.{returns_behind}
use Rattle.calls_signals.proofs.sigwait.take.Goals as goal

pub returns : goal.returns
returns g c =
    let b = caller c.args.by.now in
    let r = c.args.r.now in
    let last = subst (λ (v : ℕ). Does g.K.Sink.text g.K.Sink.faults (returning b res.Zero v) c.deliver.new.p c.returns.new.self c.deliver.new.out c.returns.new.out) c.signal.ensures c.returns.ensures in
    quiet_does (changes_pending (without_record r)) refl c.take_record.ensures (then_does {g = returning b res.Zero r.signal} (returns_behind b res.Zero r.signal) c.deliver.ensures last)
