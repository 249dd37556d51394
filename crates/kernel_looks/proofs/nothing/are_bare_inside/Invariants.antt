use Rattle.std.proofs.Common.{◌<◌, ◌≡◌, true, ℕ}
use Rattle.kernel_texts.specs.Rows.{thread_fact_of}
use Rattle.kernel_texts.specs.declared.rows.ThreadRow.{ThreadRow}
use Rattle.kernel_looks.specs.Nothings.{is_inner}
use Rattle.kernel_looks.specs.Nothing.{TellsNothing}
use Rattle.kernel_looks.proofs.nothing.are_bare_inside.Given as goal

abbrev pub invariant-loop-number : goal.invariant-loop-number
invariant-loop-number l = (row : ThreadRow) → is_inner row ≡ true → (t : ℕ) → t < l.number → TellsNothing (thread_fact_of row l.parts.machine t)
