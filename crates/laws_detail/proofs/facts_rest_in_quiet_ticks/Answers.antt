use Rattle.laws_detail.proofs.Rest.{quiet_rests}
use Rattle.laws_detail.proofs.facts_rest_in_quiet_ticks.Goals as goal

pub returns : goal.returns
returns c = quiet_rests
