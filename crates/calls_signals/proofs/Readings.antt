-- A due tick that stands for no reading is a modest one.
use Rattle.std.proofs.Common.{ℕ}
use Rattle.std.specs.Prelude.{None, Option, Some, false}
use Rattle.rules_machine.specs.State.{Clock}
use Rattle.kernel_threads.specs.RealDues.{real_due_if}
use Rattle.kernel_state.specs.RealTimes.{ComesModestly}

pub no_reading : (clock : Clock) (due : Option ℕ) → ComesModestly clock (real_due_if due false)
no_reading clock None = tt
no_reading clock (Some due) = tt
