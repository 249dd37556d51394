-- What holds of a thread's server at every time.
use Rattle.std.specs.Prelude.{◌≤◌, None, Option, Some}
use Rattle.words_script.specs.declared.policy.Policy.{Policy}
use Rattle.rules_server.specs.Calls.{MayPlan}
use Rattle.rules_server.specs.Server.{ServerState}
use Rattle.rules_machine.specs.GoodState.{HasParameters}

-- what was used can be planned
abbrev pub CanPlan : Option ServerState → Type 0
CanPlan None = Unit {0}
CanPlan (Some s) = 1 ≤ s.consumed → MayPlan s.kind s

pub record IsHeld (policy : Policy) (server : Option ServerState) : Type 0 where
  pub parameters : HasParameters policy server
  pub room : CanPlan server
