use Rattle.kernel_settling.proofs.SettlingSteps.{placed_in_the_end, placing_on}
use Rattle.kernel_settling.proofs.settling.place_all.Goals as goal

pub loop-t-preserved : goal.loop-t-preserved
loop-t-preserved c = rw c.get-from.ensures.value (placing_on c.args.p.now c.loop-t.p c.place.new.p c.loop-t.from c.in-Some.t c.loop-t.invariant c.in-Some.ensures.next c.place.ensures)

pub returns : goal.returns
returns c = placed_in_the_end c.args.p.now c.loop-t.p c.loop-t.from c.loop-t.invariant c.in_default.ensures.next
