use Rattle.std.proofs.Common.{subst, sym}
use Rattle.kernel_settling.specs.Settled.{Settles}
use Rattle.kernel_settling.proofs.SettleIs.{settle_is}
use Rattle.kernel_settling.proofs.settling.settle.Goals as goal

pub returns-clause-moves : goal.returns-clause-moves
returns-clause-moves c =
    subst (Settles c.args.p.now) (sym c.settle_by_lists.ensures.state) (settle_is c.args.p.now c.settle_by_lists.ensures.fits)
