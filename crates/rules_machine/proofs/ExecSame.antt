-- What leaves every execution priority as it is.
use Rattle.std.proofs.Common.{ap, ℕ, ◌≡◌}
use Rattle.rules_machine.specs.State.{Machine, Thread}
use Rattle.rules_machine.specs.Threads.{no_thread}
use Rattle.rules_machine.specs.Priorities.{claim_of, exec, exec_in}
use Rattle.rules_machine.specs.Turns.{with_thread}
use Rattle.rules_machine.proofs.Reading.{changed-map}

-- a change of a thread that leaves its assigned priority and the mutex that it waits for
pub exec_same : {P : Type 0} (m : Machine P) (t : ℕ) (f : Thread P → Thread P) → ((th : Thread P) → claim_of (f th) ≡ claim_of th) → (u : ℕ) →
    exec (with_thread t f m) u ≡ exec m u
exec_same m t f h u = ap (λ cs. exec_in cs m.mutexes u) (changed-map no_thread t f claim_of h m.threads)
