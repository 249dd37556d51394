use Rattle.test_parts.proofs.Many.{all_nowhere}
use Rattle.test_parts.proofs.waits.open_for_all.Goals as goal

pub returns-clause-nowhere : goal.returns-clause-nowhere
returns-clause-nowhere c = all_nowhere c.open.result 256 c.open.ensures
