use Rattle.std.proofs.Common.{subst, ℕ}
use Rattle.words_numbers.specs.declared.res.Res.TheVariants as res
use Rattle.rules_machine.specs.Waking.{wakes}
use Rattle.rules_machine.proofs.Behind.{wakes_behind}
use Rattle.kernel_state.specs.Does.{Does}
use Rattle.kernel_state.proofs.Does.{then_does}
use Rattle.calls_generation.proofs.acceptance.accept.Goals as goal

pub returns : goal.returns
returns g c =
    let w = c.args.w in
    let r = c.args.r.now in
    let last = subst (λ (v : ℕ). Does g.K.Sink.text g.K.Sink.faults (wakes w res.Zero v) c.deliver.new.p c.wake.new.p c.deliver.new.out c.wake.new.out) c.signal.ensures c.wake.ensures in
    then_does (wakes_behind w res.Zero r.signal) c.deliver.ensures last
