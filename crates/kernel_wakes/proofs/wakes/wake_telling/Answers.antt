use Rattle.std.proofs.Common.{refl}
use Rattle.rules_machine.specs.Turns.{changes}
use Rattle.kernel_state.proofs.Does.{quiet_does}
use Rattle.rules_machine.specs.Waking.{woken}
use Rattle.kernel_wakes.proofs.wakes.wake_telling.Goals as goal

pub returns : goal.returns
returns g c = quiet_does (changes c.args.t (woken c.args.res c.args.value)) refl c.wake_thread.ensures c.rise.ensures
