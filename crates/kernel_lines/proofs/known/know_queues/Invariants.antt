use Rattle.std.proofs.Common.{length, ◌<◌, ◌≤◌, ℕ}
use Rattle.rules_machine.specs.Threads.{queue_at}
use Rattle.kernel_lines.proofs.known.know_queues.Given as goal

abbrev pub invariant-loop-number : goal.invariant-loop-number
invariant-loop-number l = (q : ℕ) → q < l.number → length (queue_at l.parts.machine q).messages ≤ (queue_at l.parts.machine q).depth
