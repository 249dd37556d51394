use Rattle.laws_detail.proofs.LeapsTold.{leaps_are_told}
use Rattle.laws_detail.proofs.leaps_are_told.Goals as goal

pub returns : goal.returns
returns c = leaps_are_told
