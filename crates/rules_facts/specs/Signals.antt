-- What is told of a signal: its pending records, in the order in which they became pending. That it is told so is this project's own.
use Rattle.std.specs.Prelude.{filter, map, ℕ, ◌==◌}
use Rattle.rules_machine.specs.State.{Machine, SignalRecord}
use Rattle.rules_facts.specs.Fact.{Fact, Pending, pending_signals}

abbrev pub pending_of : SignalRecord → Pending
pending_of r = record { code = r.code; value = r.value; target = r.target }

abbrev pub signal_fact : {P : Type 0} → Machine P → ℕ → Fact
signal_fact m signal = pending_signals signal (map pending_of (filter (λ (r : SignalRecord). r.signal == signal) m.pending))
