use Rattle.laws_detail.proofs.Rest.{leap_rests}
use Rattle.laws_detail.proofs.facts_rest_within_a_leap.Goals as goal

pub returns : goal.returns
returns c = leap_rests
