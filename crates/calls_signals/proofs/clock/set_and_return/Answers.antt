use Rattle.kernel_state.specs.RealTimes.{sets_clock}
use Rattle.kernel_state.proofs.Does.{quiet_does}
use Rattle.calls_signals.proofs.ClockSet.{set_silently}
use Rattle.calls_signals.proofs.clock.set_and_return.Goals as goal

pub returns : goal.returns
returns g c = quiet_does (sets_clock c.args.reading) (set_silently c.args.reading c.args.p.now) c.set_real_clock.ensures c.returns.ensures
