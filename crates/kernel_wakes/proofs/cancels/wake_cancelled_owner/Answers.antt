use Rattle.kernel_wakes.proofs.Risen.{handed_rises}
use Rattle.kernel_wakes.proofs.cancels.wake_cancelled_owner.Goals as goal

pub rise-requires-clause-can : goal.rise-requires-clause-can
rise-requires-clause-can g c = rw c.hand_over.ensures (handed_rises c.args.p.now c.args.k c.args.t _ _ c.requires.can)
