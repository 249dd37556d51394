-- A leap: k ticks of the head at once, the last of them whole. All of it is this project's own.
use Rattle.std.specs.Prelude.{List, None, Option, Some, [], false, max, min, suc, true, zero, ℕ, ◌+◌, ◌-◌, ◌<◌, ◌≤◌, ◌≡◌, ◌∷◌, ◌++◌, if◌then◌else◌}
use Rattle.words_script.specs.declared.policy.Policy.{Policy}
use Rattle.words_script.specs.declared.policy.Policy.TheVariants as policy
use Rattle.rules_server.specs.Server.{ServerState, is_high}
use Rattle.rules_machine.specs.Bodies.{Bodies}
use Rattle.rules_machine.specs.State.{Machine, Thread}
use Rattle.rules_machine.specs.Threads.{thread_at, top_left}
use Rattle.rules_machine.specs.Turns.{Turn, becomes, changes, settles_since, turn_of, ◌▷◌}
use Rattle.rules_machine.specs.Servers.{has_high}
use Rattle.rules_machine.specs.Delivery.{sweeps}
use Rattle.rules_machine.specs.Agenda.{Coming, agenda}
use Rattle.rules_machine.specs.DueItems.{instant}
use Rattle.rules_machine.specs.Dispatch.{head}
use Rattle.rules_machine.specs.Units.{InUnit, in_unit}
use Rattle.rules_machine.specs.Ticks.{completes, prepares, tick_ends, unless_killed}
use Rattle.rules_machine.specs.Eventful.{busy, is_eventful}
use Rattle.rules_machine.specs.Runs.{Ran, ran, ticks}
use Rattle.rules_leaps.specs.Quiet.{after_ticks, at_head}

abbrev pub later_by : {P : Type 0} → ℕ → Machine P → Machine P
later_by k m = record m { now = m.now + k }

module _ {P : Type 0} (bodies : Bodies P) (k : ℕ) where
  -- the charge of k ticks, the effect of a unit that is complete, and the moves of both
  abbrev pub unit_leapt : Machine P → ℕ → InUnit P → Turn P → Turn P
  unit_leapt before t taken s = s ▷ changes t (λ th. after_ticks k taken.thread) ▷ becomes (later_by k) ▷ completes bodies t taken.unit ▷ settles_since before

  abbrev pub leap_runs : Option ℕ → Turn P → Turn P
  leap_runs None s = becomes (later_by k) s
  leap_runs (Some t) s =
      s ▷ unit_leapt s.machine t (in_unit bodies (thread_at s.machine t)) ▷ tick_ends (has_high (thread_at s.machine t).server) t ▷ sweeps bodies

  abbrev pub leap_head : Turn P → Turn P
  leap_head s = s ▷ prepares (head s.machine) ▷ leap_runs (head s.machine)

  abbrev pub leap_goes_on : Turn P → Turn P
  leap_goes_on s = unless_killed s.machine.killed leap_head s

  -- the items of the instant, what precedes the tick of the head, and k ticks of it at once
  abbrev pub leap : Turn P → Turn P
  leap s = s ▷ instant bodies ▷ leap_goes_on

-- ---- how long a leap is

-- the ticks to the nearest due tick, at most so many
abbrev pub ticks_to_next : ℕ → ℕ → List Coming → ℕ
ticks_to_next most now [] = most
ticks_to_next most now (c ∷ comings) = min (c.due - now) (ticks_to_next most now comings)

-- the rest of the interval of a round robin thread
abbrev pub slice_left : ℕ → ℕ → Policy → ℕ → ℕ
slice_left most quantum (policy.Fifo p) slice = most
slice_left most quantum (policy.Rr p) slice = quantum - slice
slice_left most quantum (policy.Sporadic params) slice = most
slice_left most quantum (policy.Strict params) slice = most

-- the capacity of a sporadic or strict thread at its high priority
abbrev pub capacity_left : ℕ → Option ServerState → ℕ
capacity_left most None = most
capacity_left most (Some s) = if is_high s then s.capacity else most

-- how long a thread that has taken its unit runs before its unit, its interval or its capacity ends, at most so many ticks
abbrev pub thread_lasts : {P : Type 0} → ℕ → ℕ → Thread P → ℕ
thread_lasts most quantum th = min (top_left th.frames) (min (slice_left most quantum th.policy th.slice) (capacity_left most th.server))

module _ {P : Type 0} (bodies : Bodies P) where
  abbrev pub head_lasts : ℕ → Option ℕ → Machine P → ℕ
  head_lasts most None m = most
  head_lasts most (Some t) m = thread_lasts most m.quantum (in_unit bodies (thread_at m t)).thread

  -- from an instant whose items are handled to where something falls due or the head's unit, interval or capacity ends; at least one
  -- tick, and at most so many, which is where an ended process goes at once
  abbrev pub length_of : ℕ → Option ℕ → Machine P → ℕ
  length_of most to m = max 1 (min most (min (ticks_to_next most m.now (agenda m)) (head_lasts most to m)))

  abbrev pub length_from : Option ℕ → ℕ → Machine P → ℕ
  length_from (Some signal) most m = most
  length_from None most m = length_of most (head m) (at_head m)

  abbrev pub leap_length : ℕ → Machine P → ℕ
  leap_length most m = let ready = (instant bodies (turn_of m)).machine in length_from ready.killed most ready

-- ---- a run in leaps

-- how many leaps there were, and what came of them
pub record Leapt (P : Type 0) : Type 0 where
  pub count : ℕ
  pub ran : Ran P

abbrev pub nothing_leapt : {P : Type 0} → Machine P → Leapt P
nothing_leapt m = record { count = 0; ran = record { machine = m; events = [] } }

abbrev pub one_before : {P : Type 0} → Ran P → Leapt P → Leapt P
one_before first rest = record { count = rest.count + 1; ran = record { machine = rest.ran.machine; events = first.events ++ rest.ran.events } }

module _ {P : Type 0} (bodies : Bodies P) where
  -- so many ticks in leaps, each as long as it can be; the first number bounds the leaps, and as many as there are ticks are enough
  abbrev pub leaps : ℕ → ℕ → Machine P → Leapt P
  leaps zero most m = nothing_leapt m
  leaps (suc bound) zero m = nothing_leapt m
  leaps (suc bound) (suc most) m =
      let k = leap_length bodies (suc most) m in let first = ran (leap bodies k (turn_of m)) in one_before first (leaps bound (suc most - k) first.machine)

  abbrev pub in_leaps : ℕ → Machine P → Leapt P
  in_leaps most m = leaps most most m

  -- ---- what is claimed of them

  -- a leap is ticks, as long as is said, with no eventful instant inside; and it ends at one, unless it goes as far as it may
  pub record IsLeap (most k : ℕ) (m : Machine P) : Type 0 where
    pub some : 1 ≤ k
    pub within : k ≤ most
    pub same : ran (leap bodies k (turn_of m)) ≡ ticks bodies k m
    pub inside : (i : ℕ) → 1 ≤ i → i < k → is_eventful bodies m i ≡ false
    pub ends : k < most → is_eventful bodies m k ≡ true

  -- so many ticks in leaps are these ticks, and there is one leap more than there are eventful instants inside, at most
  pub record AreLeaps (most : ℕ) (m : Machine P) (l : Leapt P) : Type 0 where
    pub same : l.ran ≡ ticks bodies most m
    pub few : l.count ≤ busy bodies m 0 most + 1
    pub none : most ≡ 0 → l.count ≡ 0
