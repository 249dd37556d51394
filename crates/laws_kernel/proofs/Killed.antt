-- Once the process has ended, ticks leave the machine as it is, and nothing happens.
use Rattle.std.proofs.Common.{◌≡◌, ◌∙◌, ℕ, zero, suc, [], Some, ap, refl}
use Rattle.rules_machine.specs.Bodies.{Bodies}
use Rattle.rules_machine.specs.Runs.{Ran, follow, tick_of, ticks}
use Rattle.rules_machine.specs.State.{Machine}
use Rattle.rules_machine.proofs.Counting.{ended_stays}

module _ {P : Type 0} (bodies : Bodies P) (m : Machine P) (signal : ℕ) (ended : m.killed ≡ Some signal) where
  pub killed_stays : (n : ℕ) → ticks bodies n m ≡ record { machine = m; events = [] }
  killed_stays zero = refl
  killed_stays (suc n) = ap (λ (r : Ran P). follow r (tick_of bodies)) (killed_stays n) ∙ ap (λ (r : Ran P). follow (record { machine = m; events = [] }) (λ (x : Machine P). r)) (ended_stays bodies signal m ended)
