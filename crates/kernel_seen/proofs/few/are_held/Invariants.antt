use Rattle.std.proofs.Common.{◌≡◌, map, take}
use Rattle.rules_machine.specs.Threads.{queue_at}
use Rattle.kernel_seen.specs.FewSeen.{small_message}
use Rattle.kernel_seen.proofs.few.are_held.Given as goal

abbrev pub invariant-loop-place : goal.invariant-loop-place
invariant-loop-place l = take l.place (queue_at l.parts.machine l.q).messages ≡ map small_message (take l.place l.few.messages)
