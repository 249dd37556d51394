-- Where facts rest: within a leap they change at the instant behind its start alone, and not there either where it begins plainly. All
-- of it is this project's own.
use Rattle.std.specs.Prelude.{None, Some, [], false, flat_map, ℕ, ◌+◌, ◌++◌, ◌<◌, ◌≤◌, ◌==◌, ◌&&◌, ◌≡◌}
use Rattle.std.specs.List.{range_with_len}
use Rattle.words_script.specs.declared.decl.Script.{Script}
use Rattle.rules_machine.specs.Bodies.{Bodies}
use Rattle.rules_machine.specs.Calls.{unit_effect}
use Rattle.rules_machine.specs.Dispatch.{head}
use Rattle.rules_machine.specs.DueItems.{next_item}
use Rattle.rules_machine.specs.Eventful.{is_eventful}
use Rattle.rules_machine.specs.Lists.{is}
use Rattle.rules_machine.specs.Machine.{bodies_of, machine}
use Rattle.rules_machine.specs.Runs.{ticks}
use Rattle.rules_machine.specs.Servers.{has_high, has_run}
use Rattle.rules_machine.specs.State.{Machine, Thread}
use Rattle.rules_machine.specs.Threads.{thread_at}
use Rattle.rules_machine.specs.Ticks.{capacity_in, slice_is_used}
use Rattle.rules_machine.specs.Turns.{Turn, turn_of}
use Rattle.rules_machine.specs.Units.{in_unit}
use Rattle.rules_facts.specs.Detail.{facts_changed_at, fact_lines_at}
use Rattle.rules_facts.specs.Facts.{facts}
use Rattle.rules_facts.specs.Shown.{shown_machine}
use Rattle.rules_leaps.specs.Leap.{leap, leap_length}
use Rattle.rules_leaps.specs.Quiet.{after_ticks, at_head, handled_at}
use Rattle.laws_facts.specs.Shows.{shown_of}

-- of any machine: k ticks on the facts are those one tick on
abbrev pub RestsAt : {P : Type 0} → Bodies P → Script → ℕ → Machine P → Type 0
RestsAt bodies script k m = facts script (shown_of bodies (ticks bodies k m).machine) ≡ facts script (shown_of bodies (ticks bodies 1 m).machine)

-- the ticks of the leap from an instant of a run, at most so many
abbrev pub leap_at : Script → ℕ → ℕ → ℕ
leap_at script most n = leap_length (bodies_of script) most (machine script n)

-- The leap from an instant, of at most so many ticks.
pub record FactsRest (script : Script) (most n : ℕ) : Type 0 where
  -- within it the facts are those of the instant behind its start
  pub same : (i : ℕ) → 1 ≤ i → i < leap_at script most n → facts script (shown_machine script (n + i)) ≡ facts script (shown_machine script (n + 1))
  -- so that behind that instant none changes
  pub still : (i : ℕ) → 1 < i → i < leap_at script most n → facts_changed_at script (n + i) ≡ []
  -- and what is told of its instants is told of the first two
  pub told : (end : ℕ) → 2 ≤ leap_at script most n
      → flat_map (fact_lines_at script end) (range_with_len n (leap_at script most n)) ≡ fact_lines_at script end n ++ fact_lines_at script end (n + 1)

-- ---- a tick that begins plainly

-- No run of a server but the head's is open, so that none plans as the tick begins; and the head, where there is one, is not ending, so
-- that it begins no cleanup handler.
pub record BeginsPlainly {P : Type 0} (m : Machine P) : Type 0 where
  pub closed : (u : ℕ) → is (head m) u ≡ false → has_run (thread_at m u).server ≡ false
  pub going : (t : ℕ) → head m ≡ Some t → (thread_at m t).is_ending ≡ false

-- of any machine: one tick on the facts are those of now
abbrev pub StaysAt : {P : Type 0} → Bodies P → Script → Machine P → Type 0
StaysAt bodies script m = facts script (shown_of bodies (ticks bodies 1 m).machine) ≡ facts script (shown_of bodies m)

-- Of a run: where the tick from an instant begins plainly, and the next instant is no eventful one, no fact changes there.
abbrev pub NoneChangesAfter : Script → ℕ → Type 0
NoneChangesAfter script n = BeginsPlainly (handled_at script n).machine → is_eventful (bodies_of script) (machine script n) 1 ≡ false → facts_changed_at script (n + 1) ≡ []

-- ---- ticks that only take time

-- k ticks of a thread at once
abbrev pub spent_by : {P : Type 0} → Bodies P → ℕ → Thread P → Thread P
spent_by bodies k th = after_ticks k (in_unit bodies th).thread

-- Such ticks only take time: what the unit does at its end is nothing, and they use up neither an interval nor a capacity.
pub record OnlyTakeTime {P : Type 0} (bodies : Bodies P) (k t : ℕ) (m : Machine P) : Type 0 where
  pub idle : (s : Turn P) → unit_effect bodies t (in_unit bodies (thread_at m t)).unit s ≡ s
  pub interval : slice_is_used (spent_by bodies k (thread_at m t)).policy (spent_by bodies k (thread_at m t)).slice m.quantum ≡ false
  pub capacity : (has_high (thread_at m t).server && capacity_in (spent_by bodies k (thread_at m t)).server == 0) ≡ false

-- so it is of the ticks of the head, where there is one
abbrev pub HeadOnlyTakesTime : {P : Type 0} → Bodies P → ℕ → Machine P → Type 0
HeadOnlyTakesTime bodies k m = (t : ℕ) → head m ≡ Some t → OnlyTakeTime bodies k t (at_head m)

-- of any machine: behind a leap of k ticks, where nothing is due there, the facts are those of now
abbrev pub StaysBehind : {P : Type 0} → Bodies P → Script → ℕ → Machine P → Type 0
StaysBehind bodies script k m = let left = (leap bodies k (turn_of m)).machine in
    next_item left ≡ None → facts script (shown_of bodies left) ≡ facts script (shown_of bodies m)

-- Of a run: where the tick from an instant begins plainly, the ticks of the leap from there only take time, and nothing is due behind
-- them, no fact changes there.
abbrev pub NoneChangesBehind : Script → ℕ → ℕ → Type 0
NoneChangesBehind script most n = let ready = (handled_at script n).machine in let behind = n + leap_at script most n in
    BeginsPlainly ready → HeadOnlyTakesTime (bodies_of script) (leap_at script most n) ready → next_item (machine script behind) ≡ None → facts_changed_at script behind ≡ []
