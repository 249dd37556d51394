use Rattle.std.proofs.Common.{◌≡◌, add-one, arith}
use Rattle.script_printer.proofs.Puts.{puts_both}
use Rattle.kernel_shown.proofs.state.put_lists.Goals as goal

pub loop-below-preserved : goal.loop-below-preserved
loop-below-preserved g c = rw add-one (puts_both _ _ _ _ _ _ _ c.loop-below.invariant (rw c.prio_of.ensures at c.put_list.ensures))

pub returns : goal.returns
returns g c =
    let all : c.loop-below.below ≡ 255 = omega arith in
    rw all at c.loop-below.invariant
