-- One tick of the machine: the due items, the dispatch, and a tick of the head.
use Rattle.std.specs.Prelude.{Bool, List, None, Option, Some, [], false, nat_lt, option_map, suc, zero, ℕ, ◌+◌, ◌-◌, ◌==◌, ◌&&◌, ◌∷◌, if◌then◌else◌}
use Rattle.words_script.specs.declared.policy.Policy.{Policy}
use Rattle.words_script.specs.declared.policy.Policy.TheVariants as policy
use Rattle.words_trace.specs.declared.event.Event.TheVariants as event
use Rattle.rules_server.specs.Server.{ServerState}
use Rattle.rules_bodies.specs.declared.unit.Unit.{Unit}
use Rattle.rules_machine.specs.State.{Frame, Machine, Thread}
use Rattle.rules_machine.specs.Threads.{can_run, is_blocked, is_runnable, thread_at, top_left}
use Rattle.rules_machine.specs.Bodies.{Bodies}
use Rattle.rules_machine.specs.Turns.{Turn, becomes, changes, moves_if, settles_since, tells, ◌▷◌}
use Rattle.rules_machine.specs.Servers.{charged, closes, has_high, opens, plans}
use Rattle.rules_machine.specs.Mutexes.{moves_unless_boosted}
use Rattle.rules_machine.specs.Delivery.{sweeps}
use Rattle.rules_machine.specs.Calls.{unit_effect}
use Rattle.rules_machine.specs.DueItems.{instant}
use Rattle.rules_machine.specs.Dispatch.{dispatches, head}
use Rattle.rules_machine.specs.Units.{InUnit, in_unit}

-- ---- the charge

-- XSH 2.8.4 SCHED_RR: a tick counts towards the round robin interval
abbrev pub slice_charged : Policy → ℕ → ℕ
slice_charged (policy.Fifo p) slice = slice
slice_charged (policy.Rr p) slice = slice + 1
slice_charged (policy.Sporadic params) slice = slice
slice_charged (policy.Strict params) slice = slice

abbrev pub frames_charged : {P : Type 0} → List (Frame P) → List (Frame P)
frames_charged [] = []
frames_charged (f ∷ fs) = record f { left = f.left - 1 } ∷ fs

-- one tick of the thread
abbrev pub tick_charged : {P : Type 0} → Thread P → Thread P
tick_charged th = record th {
  ticks = th.ticks + 1;
  slice = slice_charged th.policy th.slice;
  server = option_map charged th.server;
  frames = frames_charged th.frames;
}

abbrev pub later : {P : Type 0} → Machine P → Machine P
later m = record m { now = m.now + 1 }

-- ---- the rule of the tick's end

pub data TickEnd : Type 0 where
  -- it blocked, and what it consumed is planned
  planning : TickEnd
  -- its capacity is used up
  exhausting : TickEnd
  -- its round robin interval is used up
  slicing : TickEnd
  nothing : TickEnd

abbrev pub consumed_in : Option ServerState → ℕ
consumed_in None = 0
consumed_in (Some server) = server.consumed

abbrev pub capacity_in : Option ServerState → ℕ
capacity_in None = 0
capacity_in (Some server) = server.capacity

abbrev pub slice_is_used : Policy → ℕ → ℕ → Bool
slice_is_used (policy.Fifo p) slice quantum = false
slice_is_used (policy.Rr p) slice quantum = slice == quantum
slice_is_used (policy.Sporadic params) slice quantum = false
slice_is_used (policy.Strict params) slice quantum = false

-- Whether the thread's server, as the tick's effect left it, is the one that the tick charged. A tick at the high priority made it
-- consume one, and only the rule below plans that away; a server that a setsched put in its place has consumed nothing yet.
abbrev pub is_charged : Bool → Option ServerState → Bool
is_charged was_high server = was_high && nat_lt 0 (consumed_in server)

abbrev pub tick_end : {P : Type 0} → Bool → ℕ → Thread P → TickEnd
tick_end was_high quantum th =
    if is_charged was_high th.server && is_blocked th.status then planning
    else if is_charged was_high th.server && is_runnable th.status && capacity_in th.server == 0 then exhausting
    else if slice_is_used th.policy th.slice quantum then slicing
    else nothing

abbrev pub without_slice : {P : Type 0} → Thread P → Thread P
without_slice th = record th { slice = 0 }

-- XSH 2.8.4 SCHED_SPORADIC and SCHED_RR: blocking and exhaustion plan a replenishment, and a preemption does not. The order of the
-- cases is this project's own.
abbrev pub ends_tick : {P : Type 0} → TickEnd → ℕ → Turn P → Turn P
ends_tick planning t s = plans t s
ends_tick exhausting t s = s ▷ tells (event.Exhaust t) ▷ plans t ▷ moves_unless_boosted t
ends_tick slicing t s = s ▷ changes t without_slice ▷ moves_if (can_run s.machine t) t
ends_tick nothing t s = s

abbrev pub tick_ends : {P : Type 0} → Bool → ℕ → Turn P → Turn P
tick_ends was_high t s = s ▷ ends_tick (tick_end was_high s.machine.quantum (thread_at s.machine t)) t ▷ settles_since s.machine

abbrev pub unless_killed : {P : Type 0} → Option ℕ → (Turn P → Turn P) → Turn P → Turn P
unless_killed None next s = next s
unless_killed (Some signal) next s = s

-- ---- a tick of the head

-- What precedes it: the runs of other strict threads close, the processor is given to the head, and its own run may open.
abbrev pub prepares : {P : Type 0} → Option ℕ → Turn P → Turn P
prepares to s = s ▷ closes to ▷ dispatches to ▷ opens to

module _ {P : Type 0} (bodies : Bodies P) where
  abbrev pub completes_at : ℕ → ℕ → Unit → Turn P → Turn P
  completes_at zero t unit s = unit_effect bodies t unit s
  completes_at (suc left) t unit s = s

  -- the effect of the unit, where no tick of it is left
  abbrev pub completes : ℕ → Unit → Turn P → Turn P
  completes t unit s = completes_at (top_left (thread_at s.machine t).frames) t unit s

  -- the charge, the effect, and the moves of both
  abbrev pub unit_ticked : Machine P → ℕ → InUnit P → Turn P → Turn P
  unit_ticked before t taken s = s ▷ changes t (λ th. tick_charged taken.thread) ▷ becomes later ▷ completes t taken.unit ▷ settles_since before

  abbrev pub runs : Option ℕ → Turn P → Turn P
  runs None s = becomes later s
  runs (Some t) s =
      s ▷ unit_ticked s.machine t (in_unit bodies (thread_at s.machine t)) ▷ tick_ends (has_high (thread_at s.machine t).server) t ▷ sweeps bodies

  abbrev pub runs_head : Turn P → Turn P
  runs_head s = s ▷ prepares (head s.machine) ▷ runs (head s.machine)

  -- the tick from its dispatch on, unless the process has ended
  abbrev pub goes_on : Turn P → Turn P
  goes_on s = unless_killed s.machine.killed runs_head s

  -- one tick: the items of the instant begin it, and the dispatch and what runs then finish it
  abbrev pub tick : Turn P → Turn P
  tick s = s ▷ instant bodies ▷ goes_on
