-- What `detail` has told of a run up to an instant, and how it goes on. All of it is this project's own.
use Rattle.std.specs.Prelude.{List, [], flat_map, ℕ, ◌+◌, ◌∷◌, ◌++◌, ◌≡◌, ◌≤◌}
use Rattle.std.specs.List.{range_with_len}
use Rattle.words_script.specs.declared.decl.Script.{Script}
use Rattle.words_trace.specs.Text.{Entry, lines}
use Rattle.rules_machine.specs.Machine.{closing, names_of, run}
use Rattle.rules_machine.specs.Bodies.{Bodies}
use Rattle.rules_machine.specs.Dispatch.{head}
use Rattle.rules_machine.specs.DueItems.{instant}
use Rattle.rules_machine.specs.State.{Machine}
use Rattle.rules_machine.specs.Ticks.{prepares, runs}
use Rattle.rules_machine.specs.Turns.{Turn, turn_of}
use Rattle.rules_facts.specs.Detail.{facts_changed_at, detail, events_at, timed_line}

-- the facts that change at an instant, as lines of it
abbrev pub facts_told : Script → ℕ → List ℕ
facts_told script n = flat_map (timed_line script.decls n) (facts_changed_at script n)

-- and those of so many instants
abbrev pub facts_told_from : Script → ℕ → ℕ → List ℕ
facts_told_from script n count = flat_map (facts_told script) (range_with_len n count)

-- the lines of the events of an instant
abbrev pub lines_at : Script → List Entry → ℕ → List ℕ
lines_at script entries n = lines (names_of script) (events_at n entries)

abbrev pub instant_told : Script → List Entry → ℕ → List ℕ
instant_told script entries n = lines_at script entries n ++ facts_told script n

-- what is told before the facts of an instant: whole instants, and what happened at this one
abbrev pub told_until : Script → List Entry → ℕ → List ℕ
told_until script entries n = flat_map (instant_told script entries) (range_with_len 0 n) ++ lines_at script entries n

-- all of them happened at that instant
abbrev pub AllAt : ℕ → List Entry → Type 0
AllAt n [] = Unit {0}
AllAt n (e ∷ es) = (e.time ≡ n) × AllAt n es

-- none of them happened later
abbrev pub NoneAfter : ℕ → List Entry → Type 0
NoneAfter n [] = Unit {0}
NoneAfter n (e ∷ es) = (e.time ≤ n) × NoneAfter n es

-- How `detail` is told. First nothing is told. What happens at the instant that is reached comes behind what is told; and then the
-- facts of it and of each instant that is passed without an event. Of a run that is told to its end the closing lines come last.
pub record IsTold (script : Script) : Type 0 where
  pub first : told_until script [] 0 ≡ []
  pub event : (told more : List Entry) → (n : ℕ) → AllAt n more → told_until script (told ++ more) n ≡ told_until script told n ++ lines (names_of script) more
  pub passed : (told : List Entry) → (n count : ℕ) → NoneAfter n told → told_until script told (n + count) ≡ told_until script told n ++ facts_told_from script n count
  pub whole : (n : ℕ) → let done = run script n in detail script n ≡ told_until script done.events done.machine.now ++ closing (names_of script) done.machine

-- ---- the times of a tick's events

-- what begins the tick of a machine: the items of its instant, and what precedes the tick of the head
abbrev pub begun_turn : {P : Type 0} → Bodies P → Machine P → Turn P
begun_turn bodies m = let ready = instant bodies (turn_of m) in prepares (head ready.machine) ready

-- What begins the tick of a machine happens at its instant, and what ends it one tick later.
pub record TickInTime {P : Type 0} (bodies : Bodies P) (m : Machine P) : Type 0 where
  pub begun : AllAt m.now (begun_turn bodies m).events
  pub ended : AllAt (m.now + 1) (runs bodies (head (instant bodies (turn_of m)).machine) (turn_of (begun_turn bodies m).machine)).events
