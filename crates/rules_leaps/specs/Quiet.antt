-- Spans of a run in which nothing but the running of one thread goes on, and what so many ticks of it are at once. All of it is this
-- project's own.
use Rattle.std.specs.Prelude.{List, None, Option, Some, [], false, option_map, ℕ, ◌≡◌, ◌≤◌, ◌<◌, ◌+◌, ◌-◌, ◌∷◌, if◌then◌else◌}
use Rattle.words_script.specs.declared.decl.Script.{Script}
use Rattle.words_script.specs.declared.policy.Policy.{Policy}
use Rattle.words_script.specs.declared.policy.Policy.TheVariants as policy
use Rattle.rules_bodies.specs.Next.{Place}
use Rattle.words_trace.specs.Text.{Entry}
use Rattle.rules_server.specs.Server.{ServerState, charge_ticks, is_high}
use Rattle.rules_machine.specs.declared.dispatch.LastDispatch.TheVariants as last
use Rattle.rules_machine.specs.Bodies.{Bodies}
use Rattle.rules_machine.specs.State.{Frame, Machine, Thread}
use Rattle.rules_machine.specs.Threads.{thread_at}
use Rattle.rules_machine.specs.Turns.{Turn, turn_of, with_thread}
use Rattle.rules_machine.specs.DueItems.{instant, next_item}
use Rattle.rules_machine.specs.Dispatch.{head}
use Rattle.rules_machine.specs.Units.{in_unit}
use Rattle.rules_machine.specs.Ticks.{prepares, tick_charged}
use Rattle.rules_machine.specs.Delivery.{taken_by_sweep}
use Rattle.rules_machine.specs.GoodState.{ListsAreRight}
use Rattle.rules_machine.specs.Runs.{opening, ticks}
use Rattle.rules_machine.specs.Machine.{bodies_of, machine}
use Rattle.rules_machine.specs.Eventful.{is_eventful}

-- ---- a charge

-- the machine as its head begins its tick: Close, the dispatch and Open are made
abbrev pub at_head : {P : Type 0} → Machine P → Machine P
at_head m = (prepares (head m) (turn_of m)).machine

-- a tick's first part alone, from a machine whose items are handled: what precedes the tick of the head, and its charge
abbrev pub after_quiet : {P : Type 0} → Bodies P → ℕ → Machine P → Machine P
after_quiet bodies t m = record (with_thread t (λ th. tick_charged (in_unit bodies (thread_at m t)).thread) m) { now = m.now + 1; last = last.Ran t }

abbrev pub charged_head : {P : Type 0} → Bodies P → Option ℕ → Machine P → Machine P
charged_head bodies None m = record m { now = m.now + 1; last = last.Idle }
charged_head bodies (Some t) m = after_quiet bodies t m

-- an ended process stays as it is
abbrev pub charged_unless_killed : {P : Type 0} → Bodies P → Option ℕ → Machine P → Machine P
charged_unless_killed bodies None m = charged_head bodies (head m) (at_head m)
charged_unless_killed bodies (Some signal) m = m

abbrev pub one_charge : {P : Type 0} → Bodies P → Machine P → Machine P
one_charge bodies m = charged_unless_killed bodies m.killed m

-- ---- so many at once

abbrev pub slice_after : ℕ → Policy → ℕ → ℕ
slice_after k (policy.Fifo p) slice = slice
slice_after k (policy.Rr p) slice = slice + k
slice_after k (policy.Sporadic params) slice = slice
slice_after k (policy.Strict params) slice = slice

-- a server is charged where the thread runs at its high priority
abbrev pub server_after : ℕ → ServerState → ServerState
server_after k s = if is_high s then charge_ticks k s else s

abbrev pub frames_after : {P : Type 0} → ℕ → List (Frame P) → List (Frame P)
frames_after k [] = []
frames_after k (f ∷ fs) = record f { left = f.left - k } ∷ fs

-- k ticks of a thread at once
abbrev pub after_ticks : {P : Type 0} → ℕ → Thread P → Thread P
after_ticks k th = record th {
  ticks = th.ticks + k;
  slice = slice_after k th.policy th.slice;
  server = option_map (server_after k) th.server;
  frames = frames_after k th.frames;
}

-- k ticks of a head at once, in the unit that it is in or takes next
abbrev pub head_after : {P : Type 0} → Bodies P → ℕ → ℕ → Machine P → Machine P
head_after bodies k t m = record (with_thread t (λ th. after_ticks k (in_unit bodies (thread_at m t)).thread) m) { now = m.now + k; last = last.Ran t }

-- k ticks of what the machine runs
abbrev pub ticks_of_head : {P : Type 0} → Bodies P → ℕ → Option ℕ → Machine P → Machine P
ticks_of_head bodies k None m = record m { now = m.now + k; last = last.Idle }
ticks_of_head bodies k (Some t) m = head_after bodies k t m

abbrev pub ticks_unless_killed : {P : Type 0} → Bodies P → ℕ → Option ℕ → Machine P → Machine P
ticks_unless_killed bodies k None m = ticks_of_head bodies k (head m) (at_head m)
ticks_unless_killed bodies k (Some signal) m = m

abbrev pub ticks_at_once : {P : Type 0} → Bodies P → ℕ → Machine P → Machine P
ticks_at_once bodies k m = ticks_unless_killed bodies k m.killed m

-- what is told: the items of the instant, the runs that are closed, the dispatch that follows where it is a change, and the opening
abbrev pub told_with_dispatch : {P : Type 0} → Option ℕ → Turn P → List Entry
told_with_dispatch None s = (prepares (head s.machine) s).events
told_with_dispatch (Some signal) s = s.events

-- ---- spans

-- the items of the instant are handled, the ready lists are right, and no signal can be taken
pub record IsHandled {P : Type 0} (m : Machine P) : Type 0 where
  pub nothing : next_item m ≡ None
  pub lists : ListsAreRight m
  pub swept : m.killed ≡ None → (t : ℕ) → taken_by_sweep m t ≡ None

-- none of the next k instants is eventful
abbrev pub IsQuiet : {P : Type 0} → Bodies P → ℕ → Machine P → Type 0
IsQuiet bodies k m = (i : ℕ) → 1 ≤ i → i ≤ k → is_eventful bodies m i ≡ false

-- of any machine: each of the next k ticks, and then the first part of one more
pub record AreCharges {P : Type 0} (bodies : Bodies P) (k : ℕ) (m : Machine P) : Type 0 where
  pub each : (j : ℕ) → 1 ≤ j → j ≤ k → ticks bodies j m ≡ record { machine = ticks_at_once bodies j m; events = told_with_dispatch m.killed (turn_of m) }
  pub last : one_charge bodies (ticks bodies k m).machine ≡ ticks_at_once bodies (k + 1) m

-- an instant with its items handled
abbrev pub handled_at : Script → ℕ → Turn Place
handled_at script a = instant (bodies_of script) (turn_of (machine script a))

-- none of the instants between two is eventful
abbrev pub IsQuietBetween : Script → ℕ → ℕ → Type 0
IsQuietBetween script a b = (i : ℕ) → a < i → i < b → is_eventful (bodies_of script) (opening script) i ≡ false
