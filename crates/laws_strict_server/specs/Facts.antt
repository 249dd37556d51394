-- What holds of a strict server at each instant, before its due replenishments are carried out.
use Rattle.std.specs.Prelude.{ℕ, ◌≡◌, ◌+◌, ◌≤◌, ◌<◌, List, [], ◌∷◌, length}
use Rattle.words_numbers.specs.Parameters.{Parameters, AreParameters}
use Rattle.rules_server.specs.declared.Replenish.{Replenish}
use Rattle.rules_server.specs.declared.ServerKind.TheVariants as kind
use Rattle.rules_server.specs.Server.{ServerState, new_server_as, pending_total}
use Rattle.laws_strict_server.specs.Instants.{Step, after}

-- Each is due after those before it, and none before lo.
abbrev pub RisesFrom : ℕ → List Replenish → Type 0
RisesFrom lo [] = Unit {0}
RisesFrom lo (r ∷ rs) = (lo ≤ r.due) × RisesFrom (r.due + 1) rs

-- All are due before hi.
abbrev pub DueBefore : ℕ → List Replenish → Type 0
DueBefore hi [] = Unit {0}
DueBefore hi (r ∷ rs) = (r.due < hi) × DueBefore hi rs

abbrev pub NoneEmpty : List Replenish → Type 0
NoneEmpty [] = Unit {0}
NoneEmpty (r ∷ rs) = (1 ≤ r.amount) × NoneEmpty rs

pub record IsStrict (now : ℕ) (s : ServerState) : Type 0 where
  pub budget : s.capacity + pending_total s + s.consumed ≡ s.params.budget
  pub few : length s.pending ≤ s.params.max
  pub amounts : NoneEmpty s.pending
  -- due ticks rise, and none has passed: each replenishment is carried out at its due tick
  pub rising : RisesFrom now s.pending
  pub within_period : DueBefore (now + s.params.period) s.pending
  -- an open run is one of consecutive ticks, the last of them just before, and has capacity left
  pub run : 1 ≤ s.consumed → s.activation + s.consumed ≡ now
  pub capacity : 1 ≤ s.consumed → 1 ≤ s.capacity
  -- what is pending is due before the open run comes back
  pub fresh : 1 ≤ s.consumed → DueBefore (s.activation + s.params.period) s.pending

-- So it is after any ticks of a new server.
abbrev pub FactsLaw : Type 0
FactsLaw = (p : Parameters) (start : ℕ) (steps : List Step) → AreParameters p → IsStrict (start + length steps) (after steps start (new_server_as kind.Strict p start))
