use Rattle.laws_bounds.proofs.Runnable.{accepted_can_be_run}
use Rattle.laws_bounds.proofs.accepted_scripts_are_runnable.Goals as goal

pub returns : goal.returns
returns c = accepted_can_be_run
