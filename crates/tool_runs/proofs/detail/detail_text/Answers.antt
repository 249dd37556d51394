use Rattle.std.proofs.Common.{◌≤◌, ◌+◌, ◌*◌, subst, refl}
use Rattle.words_script.specs.declared.decl.Script.{Script}
use Rattle.script_table.specs.Table.{patterns}
use Rattle.script_table.specs.Read.{read}
use Rattle.rules_machine.specs.Promises.{busy_between}
use Rattle.laws_accepted.proofs.Reading.{accepted_is_well_formed}
use Rattle.laws_bounds.proofs.Runnable.{accepted_can_be_run}
use Rattle.tool_runs.proofs.FewObjects.{few_objects}
use Rattle.tool_answers.specs.Answer.{detail_answer}
use Rattle.tool_runs.proofs.SameScript.{same_script}
use Rattle.tool_runs.proofs.detail.detail_text.Goals as goal

pub tell_detail-requires-clause-runnable : goal.tell_detail-requires-clause-runnable
tell_detail-requires-clause-runnable g c = accepted_can_be_run c.args.text.now c.in-Ok.script c.in-Ok.ensures.script

pub tell_detail-requires-clause-well_formed : goal.tell_detail-requires-clause-well_formed
tell_detail-requires-clause-well_formed g c = accepted_is_well_formed c.args.text.now c.in-Ok.script c.in-Ok.ensures.script

pub tell_detail-requires-clause-few : goal.tell_detail-requires-clause-few
tell_detail-requires-clause-few g c = few_objects c.args.text.now c.in-Ok.script c.in-Ok.ensures.script

pub returns-in-Ok-clause-busy : goal.returns-in-Ok-clause-busy
returns-in-Ok-clause-busy g c script is =
    subst (λ (x : Script). c.tell_detail.new.steps ≤ c.args.steps.now + 2 * busy_between x 0 c.args.horizon + 2)
    (same_script c.in-Ok.script script (read patterns c.args.text.now) c.in-Ok.ensures.script is) c.tell_detail.ensures.busy

pub returns-in-Err-clause-gives : goal.returns-in-Err-clause-gives
returns-in-Err-clause-gives g c = c.refuse.ensures (read patterns c.args.text.now) c.in-Err.ensures.refusal (detail_answer c.args.horizon) (λ f. refl)
