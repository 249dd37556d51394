use Rattle.laws_machine.proofs.Agenda.{due_are_of_agenda}
use Rattle.laws_machine.proofs.items_are_of_the_agenda.Goals as goal

pub returns : goal.returns
returns c = due_are_of_agenda
