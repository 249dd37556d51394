use Rattle.laws_detail.proofs.BehindLeaps.{none_changes_behind_leaps}
use Rattle.laws_detail.proofs.none_changes_behind_leaps_that_take_time.Goals as goal

pub returns : goal.returns
returns c = none_changes_behind_leaps
