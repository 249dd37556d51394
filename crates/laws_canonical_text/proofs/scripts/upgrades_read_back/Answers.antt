use Rattle.laws_canonical_text.proofs.Again.{upgraded_again}
use Rattle.laws_canonical_text.proofs.scripts.upgrades_read_back.Goals as goal

pub returns : goal.returns
returns c = upgraded_again
