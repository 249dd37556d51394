use Rattle.rules_machine.proofs.Behind.{releases_behind}
use Rattle.kernel_state.proofs.Does.{then_does}
use Rattle.calls_sync.proofs.mutexes.give_up.Goals as goal

pub returns : goal.returns
returns g c = then_does (releases_behind c.args.k) c.returns.ensures c.release.ensures
