-- The machine as it was before there were strict servers: the dispatch, and the tick of the head. All of it is this project's own.
use Rattle.std.specs.Prelude.{Bool, [], false, suc, true, zero, ℕ, ◌≡◌}
use Rattle.words_script.specs.declared.call.Call.TheVariants as call
use Rattle.words_script.specs.declared.policy.Policy.{Policy}
use Rattle.words_script.specs.declared.policy.Policy.TheVariants as policy
use Rattle.rules_bodies.specs.declared.unit.Unit.{Unit}
use Rattle.rules_bodies.specs.declared.unit.Unit.TheVariants as unit
use Rattle.rules_machine.specs.declared.frame.BodyOf.{BodyOf}
use Rattle.rules_machine.specs.Bodies.{Bodies, Seen}
use Rattle.rules_machine.specs.State.{Machine}
use Rattle.rules_machine.specs.Threads.{thread_at}
use Rattle.rules_machine.specs.Turns.{Turn, turn_of, ◌▷◌}
use Rattle.rules_machine.specs.DueItems.{instant}
use Rattle.rules_machine.specs.Dispatch.{dispatches, head}
use Rattle.rules_machine.specs.Ticks.{runs, unless_killed}
use Rattle.rules_machine.specs.Runs.{Ran, follow, ran, ticks}

module _ {P : Type 0} (bodies : Bodies P) where
  abbrev pub runs_head_before : Turn P → Turn P
  runs_head_before s = s ▷ dispatches (head s.machine) ▷ runs bodies (head s.machine)

  abbrev pub tick_before : Turn P → Turn P
  tick_before s = let ready = instant bodies s in unless_killed ready.machine.killed runs_head_before ready

  abbrev pub ticks_before : ℕ → Machine P → Ran P
  ticks_before zero m = record { machine = m; events = [] }
  ticks_before (suc n) m = follow (ticks_before n m) (λ x. ran (tick_before (turn_of x)))

-- ---- scripts without strict threads

abbrev pub is_strict_policy : Policy → Bool
is_strict_policy (policy.Fifo p) = false
is_strict_policy (policy.Rr p) = false
is_strict_policy (policy.Sporadic params) = false
is_strict_policy (policy.Strict params) = true

abbrev pub IsPlainUnit : Unit → Type 0
IsPlainUnit (unit.Make (call.Setsched u new)) = is_strict_policy new ≡ false
IsPlainUnit other = true ≡ true

abbrev pub AreBodiesPlain : {P : Type 0} → Bodies P → Type 0
AreBodiesPlain {P} bodies = (body : BodyOf) (place : P) (seen : Seen) → IsPlainUnit (bodies.next body place seen).unit

abbrev pub AreThreadsPlain : {P : Type 0} → Machine P → Type 0
AreThreadsPlain m = (u : ℕ) → is_strict_policy (thread_at m u).policy ≡ false

-- Where no thread and no setsched is strict, each run is what it was.
pub record RunsAsBefore {P : Type 0} (bodies : Bodies P) (start : Machine P) : Type 0 where
  pub each : (n : ℕ) → ticks bodies n start ≡ ticks_before bodies n start
