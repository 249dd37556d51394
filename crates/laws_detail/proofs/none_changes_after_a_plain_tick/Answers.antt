use Rattle.laws_detail.proofs.Rest.{none_changes}
use Rattle.laws_detail.proofs.none_changes_after_a_plain_tick.Goals as goal

pub returns : goal.returns
returns c = none_changes
