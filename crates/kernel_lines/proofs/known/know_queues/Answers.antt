use Rattle.std.proofs.Common.{◌≡◌, ◌≤◌, arith, below_more, length, subst, ℕ}
use Rattle.rules_machine.specs.Threads.{queue_at}
use Rattle.kernel_lines.proofs.known.know_queues.Goals as goal

pub loop-number-init : goal.loop-number-init
loop-number-init c = λ q low. absurd (omega (arith, low))

pub loop-number-preserved : goal.loop-number-preserved
loop-number-preserved c =
    let holds = λ (q : ℕ). length (queue_at c.args.parts.now.machine q).messages ≤ (queue_at c.args.parts.now.machine q).depth in
    below_more holds c.loop-number.number c.loop-number.invariant (subst holds c.object_of.ensures c.know_queue.ensures)

pub returns : goal.returns
returns c =
    let all : c.loop-number.number ≡ length c.args.parts.now.machine.queues = omega (arith, c.queue_count-number-end.ensures) in
    rw all at c.loop-number.invariant
