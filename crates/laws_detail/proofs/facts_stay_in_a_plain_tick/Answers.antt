use Rattle.laws_detail.proofs.Rest.{plain_stays}
use Rattle.laws_detail.proofs.facts_stay_in_a_plain_tick.Goals as goal

pub returns : goal.returns
returns c = plain_stays
