use Rattle.laws_flat_code.proofs.Agrees.{flat_busy, flat_runs}
use Rattle.laws_flat_code.proofs.flat_code_has_the_run.Goals as goal

pub returns-clause-runs : goal.returns-clause-runs
returns-clause-runs c = flat_runs

pub returns-clause-busy : goal.returns-clause-busy
returns-clause-busy c = flat_busy
