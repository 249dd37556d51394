use Rattle.std.proofs.Common.{subst, sym}
use Rattle.rules_flat_code.specs.Runnable.{IsRunnable}
use Rattle.rules_machine.specs.WellFormed.{IsWellFormed}
use Rattle.laws_bounds.proofs.Generated.{generated_can_be_run}
use Rattle.laws_accepted.proofs.Generated.{generated_is_well_formed}
use Rattle.tool_runs.proofs.long_runs.soak.Goals as goal

pub soak_script-requires-clause-runnable : goal.soak_script-requires-clause-runnable
soak_script-requires-clause-runnable g c = subst IsRunnable (sym c.in-Ok.ensures) (generated_can_be_run c.args.seed)

pub soak_script-requires-clause-well_formed : goal.soak_script-requires-clause-well_formed
soak_script-requires-clause-well_formed g c = subst IsWellFormed (sym c.in-Ok.ensures) (generated_is_well_formed c.args.seed)
