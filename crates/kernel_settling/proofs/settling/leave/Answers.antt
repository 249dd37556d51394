use Rattle.kernel_settling.proofs.SettlingSteps.{left_in_the_end, leaving_on}
use Rattle.kernel_settling.proofs.settling.leave.Goals as goal

pub loop-t-preserved : goal.loop-t-preserved
loop-t-preserved c = rw c.get-from.ensures.value (leaving_on c.args.p.now c.loop-t.p c.leave_one.new.p c.loop-t.from c.in-Some.t c.loop-t.invariant c.in-Some.ensures.next c.leave_one.ensures)

pub returns : goal.returns
returns c = left_in_the_end c.args.p.now c.loop-t.p c.loop-t.from c.loop-t.invariant c.in_default.ensures.next
