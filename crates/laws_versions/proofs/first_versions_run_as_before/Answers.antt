use Rattle.laws_versions.proofs.Before.{runs_as_before}
use Rattle.laws_versions.proofs.first_versions_run_as_before.Goals as goal

pub returns : goal.returns
returns c = runs_as_before
