use Rattle.std.proofs.Common.{◌≡◌, ◌-◌, ◌≤◌, length, map, take}
use Rattle.rules_machine.specs.Threads.{queue_at}
use Rattle.kernel_seen.specs.FewSeen.{small_message}
use Rattle.kernel_seen.proofs.few.see_messages.Given as goal

abbrev pub invariant-loop-count : goal.invariant-loop-count
invariant-loop-count l = record {
  few : l.count ≤ 8;
  room : length l.messages ≡ 8;
  same : take l.count (queue_at l.parts.machine l.q).messages ≡ map small_message (take l.count l.messages);
}

abbrev pub decreases-loop-count : goal.decreases-loop-count
decreases-loop-count l = 8 - l.count
