use Rattle.std.proofs.Common.{refl}
use Rattle.laws_bounds.proofs.Runnable.{accepted_can_be_run}
use Rattle.laws_accepted.proofs.Reading.{accepted_is_well_formed}
use Rattle.script_table.specs.Table.{patterns}
use Rattle.script_table.specs.Read.{read}
use Rattle.tool_answers.specs.Answer.{compared_answer}
use Rattle.tool_runs.proofs.check.check_head.Goals as goal

pub check_script-requires-clause-runnable : goal.check_script-requires-clause-runnable
check_script-requires-clause-runnable g c = accepted_can_be_run c.args.head.now c.in-Ok.script c.in-Ok.ensures.script

pub check_script-requires-clause-well_formed : goal.check_script-requires-clause-well_formed
check_script-requires-clause-well_formed g c = accepted_is_well_formed c.args.head.now c.in-Ok.script c.in-Ok.ensures.script

pub returns-in-Err : goal.returns-in-Err
returns-in-Err g c = c.refuse.ensures (read patterns c.args.head.now) c.in-Err.ensures.refusal (compared_answer c.args.horizon c.args.have.now) (λ f. refl)
