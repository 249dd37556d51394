use Rattle.laws_bounds.proofs.Runnable.{accepted_can_be_run}
use Rattle.laws_accepted.proofs.Reading.{accepted_is_well_formed}
use Rattle.test_tool.proofs.parts.run_to_three.Goals as goal

pub open-requires-clause-runnable : goal.open-requires-clause-runnable
open-requires-clause-runnable g c = accepted_can_be_run _ c.in-Ok.script c.in-Ok.ensures.script

pub open-requires-clause-well_formed : goal.open-requires-clause-well_formed
open-requires-clause-well_formed g c = accepted_is_well_formed _ c.in-Ok.script c.in-Ok.ensures.script
