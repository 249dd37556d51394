-- A good state of the machine over flat code: all that is good of a state but its cleanup handlers, whose guards are places of trees.
use Rattle.std.specs.Prelude.{◌≡◌, None}
use Rattle.rules_bodies.specs.declared.cursor.Cursor.{Cursor}
use Rattle.rules_machine.specs.Bodies.{Bodies}
use Rattle.rules_machine.specs.GoodState.{IsSwept, ListsAreRight, MutexesAreRight, SerialsAreRight, ServersAreRight, SignalsAreRight, WaitsAreRight}
use Rattle.rules_machine.specs.State.{Machine}

pub record IsGood (bodies : Bodies Cursor) (m : Machine Cursor) : Type 0 where
  pub lists : ListsAreRight m
  pub mutexes : MutexesAreRight m
  pub servers : ServersAreRight m
  pub waits : WaitsAreRight m
  pub signals : SignalsAreRight m
  pub serials : SerialsAreRight m
  pub swept : m.killed ≡ None → IsSwept bodies m
