-- No thread has run longer than the machine: what a thread and its server count is at most the instant. All of it is this project's
-- own.
use Rattle.std.specs.Prelude.{None, Option, Some, ℕ, ◌≤◌}
use Rattle.words_script.specs.declared.decl.Script.{Script}
use Rattle.rules_server.specs.Server.{ServerState}
use Rattle.rules_machine.specs.State.{Machine, Thread}
use Rattle.rules_machine.specs.Threads.{thread_at}
use Rattle.rules_machine.specs.Runs.{opening}
use Rattle.rules_machine.specs.Throughout.{HoldsThroughout}
use Rattle.rules_machine.specs.Machine.{bodies_of}
use Rattle.rules_flat_code.specs.FlatBodies.{code_of, flat_bodies}

abbrev pub HighWithin : ℕ → Option ServerState → Type 0
HighWithin now None = Unit {0}
HighWithin now (Some s) = s.high_total ≤ now

pub record IsWithin {P : Type 0} (now : ℕ) (th : Thread P) : Type 0 where
  pub ticks : th.ticks ≤ now
  pub slice : th.slice ≤ now
  pub high : HighWithin now th.server

pub record EachWithin {P : Type 0} (m : Machine P) : Type 0 where
  pub each : (t : ℕ) → IsWithin m.now (thread_at m t)

-- at each instant of the run, and between its items, over the trees of the script and over its flat code
pub record RunStaysWithin (script : Script) : Type 0 where
  pub over_trees : HoldsThroughout (bodies_of script) (opening script) EachWithin
  pub over_code : HoldsThroughout (flat_bodies (code_of script)) (opening script) EachWithin
