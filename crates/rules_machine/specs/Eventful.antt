-- Eventful instants, between which nothing but the running of one thread goes on. All of it is this project's own.
use Rattle.std.specs.Prelude.{Bool, None, Option, Some, false, filter, is_some, length, suc, zero, ℕ, ◌+◌, ◌-◌, ◌==◌, ◌&&◌, ◌||◌}
use Rattle.std.specs.List.{range_with_len}
use Rattle.rules_machine.specs.Bodies.{Bodies}
use Rattle.rules_machine.specs.State.{Machine, Thread}
use Rattle.rules_machine.specs.Threads.{thread_at, top_left}
use Rattle.rules_machine.specs.Turns.{turn_of}
use Rattle.rules_machine.specs.Servers.{has_high}
use Rattle.rules_machine.specs.DueItems.{instant, next_item}
use Rattle.rules_machine.specs.Dispatch.{head}
use Rattle.rules_machine.specs.Units.{in_unit}
use Rattle.rules_machine.specs.Ticks.{capacity_in, slice_is_used, tick_charged}
use Rattle.rules_machine.specs.Runs.{ticks}

-- whether an item is handled at the machine's instant
abbrev pub has_item : {P : Type 0} → Machine P → Bool
has_item m = is_some (next_item m)

-- whether a tick completed a unit, used up a round robin interval or brought a capacity to 0; the thread is as the tick's charge left it
abbrev pub tick_matters : {P : Type 0} → Bool → ℕ → Thread P → Bool
tick_matters was_high quantum th =
    top_left th.frames == 0 || slice_is_used th.policy th.slice quantum || (was_high && capacity_in th.server == 0)

module _ {P : Type 0} (bodies : Bodies P) where
  abbrev pub head_matters : Option ℕ → Machine P → Bool
  head_matters None m = false
  head_matters (Some t) m = tick_matters (has_high (thread_at m t).server) m.quantum (tick_charged (in_unit bodies (thread_at m t)).thread)

  abbrev pub unless_ended : Option ℕ → Machine P → Bool
  unless_ended (Some signal) m = false
  unless_ended None m = head_matters (head m) m

  -- whether the tick that begins at the machine's instant does so; there is none where the process has ended
  abbrev pub next_tick_matters : Machine P → Bool
  next_tick_matters m = let ready = (instant bodies (turn_of m)).machine in unless_ended ready.killed ready

  -- the instants of a run from an opening state
  abbrev pub is_eventful : Machine P → ℕ → Bool
  is_eventful start zero = has_item start
  is_eventful start (suc j) = has_item (ticks bodies (suc j) start).machine || next_tick_matters (ticks bodies j start).machine

  -- how many eventful instants there are between two instants, neither of them counted
  abbrev pub busy : Machine P → ℕ → ℕ → ℕ
  busy start a b = length (filter (is_eventful start) (range_with_len (a + 1) (b - a - 1)))
