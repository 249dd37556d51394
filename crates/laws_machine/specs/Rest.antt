-- Servers that rest: a thread that is blocked, or runs at its low priority, has consumed nothing that is not planned, and what is
-- consumed can be planned; and only the thread of the last tick has an open run. All of it is this project's own.
use Rattle.std.specs.Prelude.{Some, false, true, ℕ, ◌≡◌, ◌≤◌}
use Rattle.rules_server.specs.Calls.{MayPlan}
use Rattle.rules_server.specs.Server.{ServerState, is_high}
use Rattle.rules_machine.specs.declared.dispatch.LastDispatch.TheVariants as last
use Rattle.rules_machine.specs.Servers.{has_run}
use Rattle.rules_machine.specs.State.{Machine}
use Rattle.rules_machine.specs.Threads.{can_run, thread_at}

pub record ServersRest {P : Type 0} (m : Machine P) : Type 0 where
  pub idle : (t : ℕ) (s : ServerState) → (thread_at m t).server ≡ Some s → can_run m t ≡ false → s.consumed ≡ 0
  pub low : (t : ℕ) (s : ServerState) → (thread_at m t).server ≡ Some s → is_high s ≡ false → s.consumed ≡ 0
  pub room : (t : ℕ) (s : ServerState) → (thread_at m t).server ≡ Some s → 1 ≤ s.consumed → MayPlan s.kind s

-- a strict server's run of ticks is open at no other thread than the one that the last tick was given to
pub record RunsAreLatest {P : Type 0} (m : Machine P) : Type 0 where
  pub each : (t : ℕ) → has_run (thread_at m t).server ≡ true → m.last ≡ last.Ran t
