use Rattle.kernel_texts.specs.declared.rows.ThreadRow.{ThreadRow}
use Rattle.kernel_looks.specs.Nothing.{IsBare}
use Rattle.kernel_looks.proofs.BareRows.{each_inner}
use Rattle.kernel_looks.proofs.nothing.is_bare_in_each.Goals as goal

pub returns : goal.returns
returns c e row inner =
    each_inner (λ (r : ThreadRow). IsBare r c.args.thread.now) (c.is_bare.ensures c.if-not-is_bare.false) (c.is_bare-2.ensures c.if-not-is_bare-2.false) (c.is_bare-3.ensures c.if-not-is_bare-3.false)
    (c.is_bare-4.ensures e) row inner
