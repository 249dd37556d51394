-- The due ticks that stand for times on CLOCK_REALTIME.
use Rattle.std.specs.Prelude.{Bool, None, Option, Some, false, true, ℕ, option_and_then}
use Rattle.rules_machine.specs.Clock.{waits_on_real}
use Rattle.rules_machine.specs.State.{Status, Waiting}
use Rattle.rules_machine.specs.Threads.{waiting_in}

-- a due tick, where it stands for such a time
abbrev pub real_due_if : Option ℕ → Bool → Option ℕ
real_due_if None is_real = None
real_due_if (Some due) true = Some due
real_due_if (Some due) false = None

abbrev pub real_due : Waiting → Option ℕ
real_due w = real_due_if w.due (waits_on_real w.call)

-- when a wait for such a time ends by itself
abbrev pub real_due_in : Status → Option ℕ
real_due_in status = option_and_then real_due (waiting_in status)
