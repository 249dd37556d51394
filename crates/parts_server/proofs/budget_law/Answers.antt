use Rattle.rules_server.proofs.Laws.{law}
use Rattle.parts_server.proofs.budget_law.Goals as goal

pub returns : goal.returns
returns c = law
