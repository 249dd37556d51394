-- The parts of a receive.
use Rattle.std.specs.Prelude.{None, Option, Some, ℕ}
use Rattle.words_numbers.specs.declared.res.Res.TheVariants as res
use Rattle.rules_machine.specs.Queues.{enters}
use Rattle.rules_machine.specs.Turns.{Caller, Turn, returns, ◌▷◌}
use Rattle.rules_machine.specs.Waking.{wakes}
use Rattle.kernel_state.specs.Messages.{waiting_message}

-- the message of the sender enters
abbrev pub takes_over_from : {P : Type 0} → Option ℕ → ℕ → Turn P → Turn P
takes_over_from None q s = s
takes_over_from (Some w) q s = enters q (waiting_message s.machine w) (wakes w res.Zero 0) s

-- the call returns with the value, and the message of the sender enters
abbrev pub hands_out : {P : Type 0} → Caller → ℕ → Option ℕ → ℕ → Turn P → Turn P
hands_out by value sender q s = s ▷ returns by res.Zero value ▷ takes_over_from sender q
