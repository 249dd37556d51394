use Rattle.std.proofs.Common.{◌<◌, ℕ}
use Rattle.rules_machine.specs.Threads.{thread_at}
use Rattle.kernel_texts.specs.Modest.{IsModestThread}
use Rattle.kernel_lines.proofs.known.know_threads.Given as goal

abbrev pub invariant-loop-number : goal.invariant-loop-number
invariant-loop-number l = (t : ℕ) → t < l.number → IsModestThread 112 (thread_at l.parts.machine t)
