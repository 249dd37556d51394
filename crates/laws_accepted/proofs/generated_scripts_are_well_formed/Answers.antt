use Rattle.laws_accepted.proofs.Generated.{generated_is_well_formed}
use Rattle.laws_accepted.proofs.generated_scripts_are_well_formed.Goals as goal

pub returns : goal.returns
returns c = generated_is_well_formed
