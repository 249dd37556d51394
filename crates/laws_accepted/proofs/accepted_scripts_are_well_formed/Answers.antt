use Rattle.laws_accepted.proofs.Reading.{accepted_is_well_formed}
use Rattle.laws_accepted.proofs.accepted_scripts_are_well_formed.Goals as goal

pub returns : goal.returns
returns c = accepted_is_well_formed
