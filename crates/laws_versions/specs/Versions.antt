-- Scripts whose runs are alike.
use Rattle.std.specs.Prelude.{ℕ, ◌≡◌}
use Rattle.words_script.specs.declared.decl.Script.{Script}
use Rattle.rules_machine.specs.Machine.{closing, events, machine, names_of, trace}

-- the same events before tick n, the same closing lines there, and so the same trace
pub record RunsAlike (a b : Script) (n : ℕ) : Type 0 where
  pub events_same : events a n ≡ events b n
  pub closing_same : closing (names_of a) (machine a n) ≡ closing (names_of b) (machine b n)
  pub trace_same : trace a n ≡ trace b n
