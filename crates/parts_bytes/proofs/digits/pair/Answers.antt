use Rattle.parts_bytes.proofs.Pairs.{PAIRS_at}
use Rattle.parts_bytes.proofs.digits.pair.Goals as goal

pub returns : goal.returns
returns c = PAIRS_at c.args.n c.requires
