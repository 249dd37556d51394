use Rattle.laws_detail.proofs.Looks.{is_told}
use Rattle.laws_detail.proofs.detail_goes_on.Goals as goal

pub returns : goal.returns
returns c = is_told
