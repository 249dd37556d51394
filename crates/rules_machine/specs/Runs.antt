-- A run: the opening state, and n ticks from it.
use Rattle.std.specs.Prelude.{List, None, Option, [], map, suc, zero, ℕ, ◌++◌}
use Rattle.words_script.specs.declared.decl.Script.{Script}
use Rattle.words_trace.specs.Text.{Entry}
use Rattle.rules_lists.specs.Lists.{empty_lists}
use Rattle.rules_machine.specs.declared.dispatch.LastDispatch.TheVariants as last
use Rattle.rules_machine.specs.Bodies.{Bodies}
use Rattle.rules_machine.specs.State.{Machine, Thread, dormant}
use Rattle.rules_machine.specs.Threads.{no_thread}
use Rattle.rules_machine.specs.Declarations.{ThreadDecl, actions_of, mutexes_of, queues_of, semaphores_of, threads_of, timers_of}
use Rattle.rules_machine.specs.Turns.{Turn, turn_of}
use Rattle.rules_machine.specs.DueItems.{instant}
use Rattle.rules_machine.specs.Dispatch.{head}
use Rattle.rules_machine.specs.Ticks.{goes_on, prepares, runs, tick, unless_killed}

-- a dormant thread, with nothing masked and cancellation enabled
abbrev pub thread_opened : {P : Type 0} → ThreadDecl → Thread P
thread_opened d = record no_thread { status = dormant d.start; policy = d.policy }

-- All threads are dormant, all mutexes free, both clocks at 0, and nothing is pending.
abbrev pub opening : {P : Type 0} → Script → Machine P
opening script = record {
  now = 0;
  clock = record { ahead = 0; behind = 0 };
  last = last.NoTick;
  next_serial = 0;
  killed = None;
  quantum = script.quantum;
  lists = empty_lists;
  threads = map thread_opened (threads_of script);
  mutexes = mutexes_of script;
  semaphores = semaphores_of script;
  queues = queues_of script;
  timers = timers_of script;
  actions = actions_of script;
  pending = [];
}

-- what came of some ticks: the machine after them, and what happened
pub record Ran (P : Type 0) : Type 0 where
  pub machine : Machine P
  pub events : List Entry

abbrev pub ran : {P : Type 0} → Turn P → Ran P
ran s = record { machine = s.machine; events = s.events }

-- some ticks, and more from the machine that they leave
abbrev pub follow : {P : Type 0} → Ran P → (Machine P → Ran P) → Ran P
follow first more = let second = more first.machine in record { machine = second.machine; events = first.events ++ second.events }

module _ {P : Type 0} (bodies : Bodies P) where
  abbrev pub tick_of : Machine P → Ran P
  tick_of m = ran (tick bodies (turn_of m))

  -- The same in two parts, what begins it and what finishes it: each tick is the one, and the other from the machine that it leaves.
  abbrev pub tick_begun : Machine P → Ran P
  tick_begun m = ran (instant bodies (turn_of m))

  abbrev pub tick_finished : Machine P → Ran P
  tick_finished m = ran (goes_on bodies (turn_of m))

  -- What finishes it in two parts again, unless the process has ended: what precedes the tick of the head, and that tick.
  abbrev pub tick_prepared : Machine P → Ran P
  tick_prepared m = ran (unless_killed m.killed (prepares (head m)) (turn_of m))

  abbrev pub tick_run : Option ℕ → Machine P → Ran P
  tick_run to m = ran (unless_killed m.killed (runs bodies to) (turn_of m))

  -- n ticks
  abbrev pub ticks : ℕ → Machine P → Ran P
  ticks zero m = record { machine = m; events = [] }
  ticks (suc n) m = follow (ticks n m) tick_of
