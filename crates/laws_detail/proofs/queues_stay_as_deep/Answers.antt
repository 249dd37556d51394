use Rattle.laws_detail.proofs.Depths.{depths_throughout}
use Rattle.laws_detail.proofs.queues_stay_as_deep.Goals as goal

pub returns : goal.returns
returns c = λ bodies ranges script fits. depths_throughout bodies ranges script fits
