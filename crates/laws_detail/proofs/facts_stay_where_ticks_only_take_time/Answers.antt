use Rattle.laws_detail.proofs.TimeTaken.{stays_behind}
use Rattle.laws_detail.proofs.facts_stay_where_ticks_only_take_time.Goals as goal

pub returns : goal.returns
returns c = stays_behind
