use Rattle.std.proofs.Common.{◌≡◌, add-one, arith, length}
use Rattle.kernel_looks.proofs.Looking.{went_both, went_none}
use Rattle.kernel_looks.proofs.look.look_at_queue_waiters.Goals as goal

pub loop-number-init : goal.loop-number-init
loop-number-init c = record { kept = went_none _ _; memory = c.requires.memory }

pub loop-number-preserved : goal.loop-number-preserved
loop-number-preserved c = record {
  kept =
      rw add-one (went_both _ _ _ _ _ _ _ _ c.loop-number.invariant.kept
      (went_both _ _ _ _ _ _ _ _ (rw c.object_of.ensures at c.look_at_waiters.ensures.kept) (rw c.object_of-in-loop-number.ensures at c.look_at_waiters-in-loop-number.ensures.kept)));
  memory = c.look_at_waiters-in-loop-number.ensures.memory;
}

pub returns-clause-kept : goal.returns-clause-kept
returns-clause-kept c =
    let all : c.loop-number.number ≡ length c.args.parts.now.machine.queues = omega (arith, c.queue_count-number-end.ensures) in
    rw all at c.loop-number.invariant.kept
