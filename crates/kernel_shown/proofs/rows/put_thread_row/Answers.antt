use Rattle.std.proofs.Common.{◌≡◌, add-one, arith, length}
use Rattle.script_printer.proofs.Puts.{puts_both}
use Rattle.kernel_shown.proofs.rows.put_thread_row.Goals as goal

pub loop-number-preserved : goal.loop-number-preserved
loop-number-preserved g c = rw add-one (puts_both _ _ _ _ _ _ _ c.loop-number.invariant (rw c.tid.ensures at c.put_thread_fact.ensures.text))

pub returns : goal.returns
returns g c =
    let all : c.loop-number.number ≡ length c.args.parts.now.machine.threads = omega (arith, c.count-number-end.ensures.threads) in
    rw all at c.loop-number.invariant
