use Rattle.rules_machine.specs.Machine.{bodies_of}
use Rattle.rules_moves.proofs.Runs.Units.{bodies_fit}
use Rattle.laws_detail.proofs.Times.{ticks_in_time}
use Rattle.laws_detail.proofs.ticks_happen_in_time.Goals as goal

pub returns : goal.returns
returns c = λ script formed. ticks_in_time (bodies_of script) (bodies_fit script formed.priorities) script formed
