use Rattle.std.proofs.Common.{◌≡◌, ◌<◌, None, ℕ}
use Rattle.rules_machine.specs.Delivery.{taken_by_sweep}
use Rattle.kernel_state.proofs.parts.Parts.no_thread_takes.Given as goal

abbrev pub invariant-loop-number : goal.invariant-loop-number
invariant-loop-number l = (t : ℕ) → t < l.number → taken_by_sweep l.fn.self.machine t ≡ None
