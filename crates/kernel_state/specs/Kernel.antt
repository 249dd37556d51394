-- What contracts see of the parts of a kernel, and how they say which turn of the machine a call is.
use Rattle.std.specs.Prelude.{ℕ, Bool, List, None, Option, Some, [], ◌&&◌}
use Rattle.words_trace.specs.Text.{Entry}
use Rattle.words_script.specs.declared.call.Call.{Call}
use Rattle.rules_bodies.specs.declared.cursor.Cursor.{Cursor}
use Rattle.rules_bodies.specs.declared.op.Op.{Op}
use Rattle.rules_bodies.specs.Flat as flat
use Rattle.rules_machine.specs.State.{Machine}
use Rattle.rules_machine.specs.declared.dispatch.LastDispatch.{LastDispatch}
use Rattle.rules_machine.specs.declared.dispatch.LastDispatch.TheVariants as last
use Rattle.words_trace.specs.declared.event.Event.TheVariants as event
use Rattle.rules_server.specs.Server.{activate}
use Rattle.rules_machine.specs.Servers.{activates_if, with_server}
use Rattle.kernel_threads.specs.declared.ends.Refilled.{Refilled}
use Rattle.words_numbers.specs.declared.res.Res.TheVariants as res
use Rattle.words_script.specs.declared.policy.Policy.{Policy}
use Rattle.words_script.specs.declared.decl.Script.{Script}
use Rattle.rules_machine.specs.Turns.{Caller, Turn, changes, moves, returns, tells, ◌▷◌}
use Rattle.rules_machine.specs.Scheduling.{with_policy}
use Rattle.rules_machine.specs.Runs.{opening}
use Rattle.rules_machine.specs.Machine.{names_of}
use Rattle.rules_flat_code.specs.FlatBodies.{code_of}
use Rattle.rules_machine.specs.Waking.{started}
use Rattle.rules_machine.specs.Bodies.{Bodies}

-- the names of the threads, the flat code, the machine over its places, and the direct moves since the last settling
pub record Kernel : Type 0 where
  pub names : List (List ℕ)
  pub code : flat.NumberedBodies (List Op)
  pub machine : Machine Cursor
  pub direct : List ℕ

-- the turn that a kernel is in, with nothing told yet
abbrev pub turn : Kernel → Turn Cursor
turn k = record { machine = k.machine; direct = k.direct; events = [] }

-- the kernel after an effect, and the events of it
abbrev pub after : (Turn Cursor → Turn Cursor) → Kernel → Kernel
after effect k = record k { machine = (effect (turn k)).machine; direct = (effect (turn k)).direct }

abbrev pub told : (Turn Cursor → Turn Cursor) → Kernel → List Entry
told effect k = (effect (turn k)).events

-- a server with that capacity is activated
abbrev pub activates_now : ℕ → ℕ → Turn Cursor → Turn Cursor
activates_now t capacity s = s ▷ changes t (with_server (activate s.machine.now)) ▷ tells (event.Activate t capacity)

-- a thread starts, and its server is not activated yet
abbrev pub starts_telling : Bodies Cursor → ℕ → ℕ → Turn Cursor → Turn Cursor
starts_telling bodies t mask s = s ▷ changes t (started bodies t mask s.machine.now) ▷ moves t ▷ tells (event.Start t)

-- a refill is told, and the thread is activated where it got its high priority back and can run
abbrev pub refilled_telling : ℕ → Refilled → Bool → Turn Cursor → Turn Cursor
refilled_telling t r runs s = s ▷ tells (event.Refill t r.amount r.capacity) ▷ activates_if (r.regains_high && runs) t

-- the call returns, and the thread has its new policy
abbrev pub changes_policy : Caller → ℕ → Policy → ℕ → Turn Cursor → Turn Cursor
changes_policy by u new now s = s ▷ returns by res.Zero 0 ▷ changes u (with_policy new now)

-- the lists alone change
abbrev pub with_lists : (List (List ℕ) → List (List ℕ)) → Kernel → Kernel
with_lists change k = record k { machine = record (k.machine) { lists = change k.machine.lists } }

-- who calls, and what
abbrev pub by : ℕ → Call → Caller
by t call = record { thread = t; call = call }

-- the kernel of a script, before the first tick
abbrev pub opened : Script → Kernel
opened script = record { names = names_of script; code = code_of script; machine = opening script; direct = [] }

-- the thread that the last dispatch gave the processor to
abbrev pub ran : LastDispatch → Option ℕ
ran last.NoTick = None
ran last.Idle = None
ran (last.Ran t) = Some t
