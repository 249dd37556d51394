use Rattle.laws_machine.proofs.Scripts.{stays_good}
use Rattle.laws_machine.proofs.states_are_good.Goals as goal

pub returns : goal.returns
returns c = stays_good
