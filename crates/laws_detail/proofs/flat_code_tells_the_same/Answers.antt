use Rattle.laws_detail.proofs.Flat.{flat_tells_the_same}
use Rattle.laws_detail.proofs.flat_code_tells_the_same.Goals as goal

pub returns : goal.returns
returns c = flat_tells_the_same
