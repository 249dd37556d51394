use Rattle.words_numbers.specs.declared.res.Res.TheVariants as res
use Rattle.rules_machine.proofs.Behind.{wakes_behind}
use Rattle.kernel_state.proofs.Does.{then_does}
use Rattle.calls_queues.proofs.sends.hand_to_receiver.Goals as goal

pub returns : goal.returns
returns g c = then_does (wakes_behind c.args.receiver res.Zero c.args.value) c.returns_by.ensures c.wake.ensures
