use Rattle.rules_machine.specs.Servers.{activates}
use Rattle.rules_machine.proofs.Behind.{activates_server_behind}
use Rattle.kernel_state.specs.Kernel.{starts_telling}
use Rattle.kernel_state.proofs.Does.{then_does_in}
use Rattle.kernel_wakes.proofs.wakes.start.Goals as goal

pub returns : goal.returns
returns g c = then_does_in (λ b. starts_telling b c.args.t c.args.mask) (λ b. activates c.args.t) (λ b told s. activates_server_behind c.args.t _ told s) c.start_telling.ensures.does c.activate.ensures
