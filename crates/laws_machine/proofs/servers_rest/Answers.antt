use Rattle.laws_machine.proofs.Scripts.{latest, rests}
use Rattle.laws_machine.proofs.servers_rest.Goals as goal

pub returns-clause-rest : goal.returns-clause-rest
returns-clause-rest c = rests

pub returns-clause-latest : goal.returns-clause-latest
returns-clause-latest c = latest
