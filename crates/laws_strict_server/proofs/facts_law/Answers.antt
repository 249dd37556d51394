use Rattle.laws_strict_server.proofs.Order.{facts}
use Rattle.laws_strict_server.proofs.facts_law.Goals as goal

pub returns : goal.returns
returns c = facts
