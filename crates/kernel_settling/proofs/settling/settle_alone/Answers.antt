use Rattle.std.proofs.Common.{sym, ◌∙◌, arith}
use Rattle.kernel_settling.proofs.OneSettles.{no_items, one_settles}
use Rattle.kernel_settling.proofs.settling.settle_alone.Goals as goal

pub returns : goal.returns
returns c =
    c.settle_one.ensures
    ∙ sym (one_settles c.args.p.now c.args.t c.requires.fits c.requires.first c.requires.alone c.know_lists.ensures
    (no_items c.args.p.now.direct (omega (arith, c.if-direct_count-ne0.false, c.direct_count.ensures))))
