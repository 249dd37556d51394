use Rattle.std.proofs.Common.{◌+◌, below_more, ℕ}
use Rattle.kernel_looks.specs.Ahead.{IsToldAt}
use Rattle.kernel_looks.specs.Nothings.{list_at}
use Rattle.kernel_looks.proofs.look_lists.lists_ahead.Goals as goal

pub returns-then-is_list_ahead-clause-told : goal.returns-then-is_list_ahead-clause-told
returns-then-is_list_ahead-clause-told c =
    let d = c.args.desk.now in
    let same = c.args.stretch.now.same in
    let lists = c.args.parts.now.machine.lists in
    let here = c.is_list_ahead.ensures c.if-is_list_ahead.true in
    below_more (λ (i : ℕ). IsToldAt (d.at + (same + i)) d (list_at lists (c.args.from + i))) c.gap_ahead-gap.result.quiet c.gap_ahead-gap.ensures.told (rw (c.from-2.ensures, c.prio_of.ensures) at here)
