use Rattle.std.proofs.Common.{◌+◌, ◌<◌, ℕ}
use Rattle.kernel_texts.specs.Rows.{thread_fact_of}
use Rattle.kernel_looks.specs.Ahead.{IsToldAt}
use Rattle.kernel_looks.proofs.look_threads.told_ahead.Given as goal

abbrev pub invariant-loop-k : goal.invariant-loop-k
invariant-loop-k l = (i : ℕ) → i < l.k → IsToldAt (l.desk.at + (l.stretch.same + i)) l.desk (thread_fact_of l.row l.parts.machine (l.from + i))
