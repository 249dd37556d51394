use Rattle.std.proofs.Common.{arith}
use Rattle.kernel_threads.proofs.Moving.{moved_down_one, moved_down_two}
use Rattle.kernel_threads.proofs.frames.move_down.Goals as goal

pub returns-then-count-gt1-clause-moved : goal.returns-then-count-gt1-clause-moved
returns-then-count-gt1-clause-moved c =
    moved_down_two c.args.count c.args.items.now c.copy_down.new.items c.copy_down-then-count-gt1.new.items c.requires.three c.if-count-gt1.true c.requires.room c.copy_down.ensures c.copy_down-then-count-gt1.ensures

pub returns-then-count-gt0-clause-moved : goal.returns-then-count-gt0-clause-moved
returns-then-count-gt0-clause-moved c =
    moved_down_one c.args.count c.args.items.now c.copy_down-then-count-gt0.new.items c.requires.three (omega (arith, c.if-count-gt1.false, c.if-count-gt0.true)) c.copy_down-then-count-gt0.ensures
