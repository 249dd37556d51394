use Rattle.laws_leaps.proofs.Leaps.Scripts.{run_busy, run_in_leaps}
use Rattle.laws_leaps.proofs.leaps_are_bounded.Goals as goal

pub returns-clause-leaps : goal.returns-clause-leaps
returns-clause-leaps c = run_in_leaps

pub returns-clause-busy : goal.returns-clause-busy
returns-clause-busy c = run_busy
