use Rattle.script_table.specs.Table.{patterns}
use Rattle.script_reader.specs.Begun.{begun}
use Rattle.script_reader.proofs.Headings.{behind_heading, in_heading, of_ok, of_err}
use Rattle.script_reader.proofs.read.read_script.Goals as goal

pub returns-in-Err-clause-refusal : goal.returns-in-Err-clause-refusal
returns-in-Err-clause-refusal c = in_heading patterns c.args.text.now c.in-Err.end c.in-Err.ensures

pub returns-in-Ok-clause-script : goal.returns-in-Ok-clause-script
returns-in-Ok-clause-script c =
    let h = c.in-Ok.heading in
    of_ok c.read_in.result _ _ (behind_heading patterns c.args.text.now _ (begun h.version h.lines) c.in-Ok.ensures c.patterns.ensures) c.read_in.ensures

pub returns-in-Ok-clause-refusal : goal.returns-in-Ok-clause-refusal
returns-in-Ok-clause-refusal c =
    let h = c.in-Ok.heading in
    of_err c.read_in.result _ _ (behind_heading patterns c.args.text.now _ (begun h.version h.lines) c.in-Ok.ensures c.patterns.ensures) c.read_in.ensures
