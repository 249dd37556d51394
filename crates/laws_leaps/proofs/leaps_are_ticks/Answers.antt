use Rattle.laws_leaps.proofs.Leaps.Scripts.{run_leaps}
use Rattle.laws_leaps.proofs.leaps_are_ticks.Goals as goal

pub returns : goal.returns
returns c = run_leaps
