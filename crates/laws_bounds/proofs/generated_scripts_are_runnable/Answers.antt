use Rattle.laws_bounds.proofs.Generated.{generated_can_be_run}
use Rattle.laws_bounds.proofs.generated_scripts_are_runnable.Goals as goal

pub returns : goal.returns
returns c = generated_can_be_run
