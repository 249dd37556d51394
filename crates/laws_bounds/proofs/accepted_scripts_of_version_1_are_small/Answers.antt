use Rattle.script_table.specs.Table.{patterns}
use Rattle.laws_bounds.proofs.Bounds.{first_is_bounded}
use Rattle.laws_bounds.proofs.accepted_scripts_of_version_1_are_small.Goals as goal

pub returns : goal.returns
returns c = first_is_bounded patterns
