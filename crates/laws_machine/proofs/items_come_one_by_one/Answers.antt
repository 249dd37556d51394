use Rattle.rules_machine.specs.Machine.{bodies_of}
use Rattle.rules_machine.specs.Runs.{opening, ticks}
use Rattle.rules_machine.specs.Turns.{turn_of}
use Rattle.rules_machine.proofs.ItemsEnd.{instant_ends}
use Rattle.laws_machine.proofs.Items.{items_one_more}
use Rattle.laws_machine.proofs.items_come_one_by_one.Goals as goal

pub returns-clause-steps : goal.returns-clause-steps
returns-clause-steps c script n k = items_one_more (bodies_of script) k (turn_of (ticks (bodies_of script) n (opening script)).machine)

pub returns-clause-end : goal.returns-clause-end
returns-clause-end c script s = instant_ends (bodies_of script) s
