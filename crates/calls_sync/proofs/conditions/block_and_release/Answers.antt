use Rattle.rules_machine.specs.State.{for_condition}
use Rattle.rules_machine.specs.Waking.{blocks}
use Rattle.kernel_state.specs.Caller.{caller}
use Rattle.kernel_state.proofs.Does.{quiet_does}
use Rattle.std.proofs.Common.{refl}
use Rattle.calls_sync.proofs.conditions.block_and_release.Goals as goal

pub returns : goal.returns
returns g c = quiet_does (blocks (caller c.args.by.now) (for_condition c.args.c c.args.k) c.args.due) refl c.block.ensures c.release.ensures
