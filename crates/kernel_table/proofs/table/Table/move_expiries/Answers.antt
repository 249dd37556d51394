use Rattle.std.proofs.Common.{ap, sym, ◌∙◌}
use Rattle.kernel_table.specs.Settings.{move_of, timer_real_due}
use Rattle.kernel_table.proofs.Passes.{expiries_moved, expiry_moved, timer_ahead}
use Rattle.kernel_table.proofs.table.Table.move_expiries.Goals as goal

pub move_expiry-requires-clause-modest : goal.move_expiry-requires-clause-modest
move_expiry-requires-clause-modest c = λ at e.
    let k = c.in-Some.k in
    let here = timer_ahead (move_of c.args.set.now) c.args.self.now c.loop-k.self c.loop-k.from c.loop-k.invariant k c.in-Some.ensures.first.low in
    c.requires.modest k at (sym (ap timer_real_due here) ∙ e)

pub loop-k-preserved : goal.loop-k-preserved
loop-k-preserved c =
    rw c.get-from.ensures.value
    (expiry_moved (move_of c.args.set.now) c.args.self.now c.loop-k.self c.loop-k.from c.loop-k.invariant c.move_expiry.new.self c.in-Some.k c.in-Some.ensures.first c.move_expiry.ensures)

pub returns : goal.returns
returns c = expiries_moved (move_of c.args.set.now) c.args.self.now c.loop-k.self c.loop-k.from c.loop-k.invariant c.in_default.ensures.first
