use Rattle.std.proofs.Common.{arith}
use Rattle.kernel_threads.proofs.Moving.{moved_up_one, moved_up_two}
use Rattle.kernel_threads.proofs.frames.move_up.Goals as goal

pub returns-then-count-gt2-clause-moved : goal.returns-then-count-gt2-clause-moved
returns-then-count-gt2-clause-moved c =
    moved_up_two c.args.count c.args.items.now c.copy_up.new.items c.copy_up-then-count-gt2.new.items c.requires.three c.if-count-gt2.true c.requires.few c.copy_up.ensures c.copy_up-then-count-gt2.ensures

pub returns-then-count-gt1-clause-moved : goal.returns-then-count-gt1-clause-moved
returns-then-count-gt1-clause-moved c =
    moved_up_one c.args.count c.args.items.now c.copy_up-then-count-gt1.new.items c.requires.three (omega (arith, c.if-count-gt2.false, c.if-count-gt1.true)) c.copy_up-then-count-gt1.ensures
