use Rattle.words_numbers.specs.declared.res.Res.TheVariants as res
use Rattle.rules_machine.proofs.Behind.{wakes_behind}
use Rattle.kernel_state.proofs.Does.{then_does}
use Rattle.calls_sync.proofs.semaphores.return_and_wake.Goals as goal

pub returns : goal.returns
returns g c = then_does (wakes_behind c.args.w res.Zero 0) c.returns.ensures c.wake.ensures
