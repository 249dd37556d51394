-- What holds of the machine at every instant. The parts follow from the rules; that they are these is this project's own.
use Rattle.std.specs.Prelude.{All, Bool, List, None, Option, Some, [], false, filter, filter_map, is_some, length, map, true, ℕ, ◌≡◌, ◌≤◌, ◌<◌, ◌+◌, ◌*◌, ◌==◌, ◌&&◌, ◌∷◌, ◌++◌, if◌then◌else◌}
use Rattle.std.specs.List.{IsDistinct, AllAdjacentBelow}
use Rattle.words_script.specs.declared.policy.Policy.{Policy}
use Rattle.words_script.specs.declared.policy.Policy.TheVariants as policy
use Rattle.rules_server.specs.declared.Replenish.{Replenish}
use Rattle.rules_server.specs.declared.ServerKind.TheVariants as kind
use Rattle.rules_server.specs.Server.{ServerState, is_high, pending_total}
use Rattle.rules_lists.specs.Threads.{times}
use Rattle.rules_lists.specs.Lists.{list_of}
use Rattle.rules_machine.specs.declared.frame.BodyOf.{BodyOf}
use Rattle.rules_machine.specs.Lists.{is}
use Rattle.rules_machine.specs.Bodies.{Bodies}
use Rattle.rules_machine.specs.Clock.{clock_limit}
use Rattle.rules_machine.specs.State.{Clock, Frame, Machine, SignalRecord, Wait, Waiting, for_condition, for_end, for_mutex_again, for_time}
use Rattle.rules_machine.specs.Threads.{can_run, catches_signal, is_main, lives, mutex_at, queue_at, semaphore_at, thread_at, waiting_in}
use Rattle.rules_machine.specs.Priorities.{exec, mutex_awaited_by}
use Rattle.rules_machine.specs.Waiters.{somebody_waits, waits_so}
use Rattle.rules_machine.specs.Turns.{turn_of}
use Rattle.rules_machine.specs.Mutexes.{leads_within, owned_by, waits_for_mutex}
use Rattle.rules_machine.specs.Semaphores.{waits_on_semaphore}
use Rattle.rules_machine.specs.Signals.{is_counted, record_limit}
use Rattle.rules_machine.specs.Queues.{waits_to_receive, waits_to_send}
use Rattle.rules_machine.specs.Delivery.{sweeps}
use Rattle.rules_machine.specs.WellFormed.{IsPriority}
use Rattle.rules_machine.specs.Throughout.{HoldsThroughout}

-- ---- the lists

-- A runnable thread stands once, on the list of its execution priority, which is one of 1 to 255, and no other thread stands on any.
pub record ListsAreRight {P : Type 0} (m : Machine P) : Type 0 where
  pub each_priority : length m.lists ≡ 255
  pub in_range : (t : ℕ) → can_run m t ≡ true → IsPriority (exec m t)
  pub placed : (t p : ℕ) → 1 ≤ p → p ≤ 255 → times t (list_of p m.lists) ≡ (if can_run m t && exec m t == p then 1 else 0)

-- ---- mutexes

-- An owned mutex is counted, and a free one is not and has no waiters.
abbrev pub OwnerIsRight : {P : Type 0} → Machine P → ℕ → Option ℕ → Type 0
OwnerIsRight m k None = ((mutex_at m k).count ≡ 0) × (somebody_waits m (waits_for_mutex k) ≡ false)
OwnerIsRight m k (Some t) = (1 ≤ (mutex_at m k).count) × (t < length m.threads)

abbrev pub is_in_condition_wait : Wait → Bool
is_in_condition_wait (for_condition c k) = true
is_in_condition_wait (for_mutex_again k how) = true
is_in_condition_wait wait = false

pub record MutexesAreRight {P : Type 0} (m : Machine P) : Type 0 where
  pub owners : (k : ℕ) → OwnerIsRight m k (mutex_at m k).owner
  -- owners and their mutex waits never lead back to a thread
  pub no_cycle : (t steps : ℕ) → leads_within m.threads m.mutexes steps (mutex_awaited_by (thread_at m t)) t ≡ false
  -- a thread in a condition wait, or after it without its mutex, owns none
  pub owns_none : (t : ℕ) → waits_so is_in_condition_wait (thread_at m t) ≡ true → owned_by m t ≡ []

-- ---- servers

abbrev pub HasParameters : Policy → Option ServerState → Type 0
HasParameters (policy.Fifo p) server = server ≡ None
HasParameters (policy.Rr p) server = server ≡ None
HasParameters (policy.Sporadic params) None = Unit {0}
HasParameters (policy.Sporadic params) (Some s) = (s.params ≡ params) × (s.kind ≡ kind.Sporadic)
HasParameters (policy.Strict params) None = Unit {0}
HasParameters (policy.Strict params) (Some s) = (s.params ≡ params) × (s.kind ≡ kind.Strict)

abbrev pub has_server_policy : Policy → Bool
has_server_policy (policy.Fifo p) = false
has_server_policy (policy.Rr p) = false
has_server_policy (policy.Sporadic params) = true
has_server_policy (policy.Strict params) = true

-- what is consumed was consumed by a thread that still runs at its high priority
pub record ConsumesInTime {P : Type 0} (m : Machine P) (t : ℕ) (s : ServerState) : Type 0 where
  pub runnable : can_run m t ≡ true
  pub high : is_high s ≡ true
  pub before : s.activation < m.now
  -- what a strict server consumed was consumed without a break, up to now
  pub unbroken : s.kind ≡ kind.Strict → s.activation + s.consumed ≡ m.now

pub record ServerIsRight {P : Type 0} (m : Machine P) (t : ℕ) (s : ServerState) : Type 0 where
  pub budget : s.capacity + pending_total s + s.consumed ≡ s.params.budget
  pub amounts : All (λ (r : Replenish). 1 ≤ r.amount) s.pending
  pub few : length s.pending ≤ s.params.max
  -- the pending replenishments are due one after another, each before another period has passed
  pub rising : AllAdjacentBelow (λ (a b : Replenish). a.due < b.due) s.pending (length s.pending)
  pub within_period : All (λ (r : Replenish). r.due < m.now + s.params.period) s.pending
  pub activated : s.activation ≤ m.now
  pub consuming : 1 ≤ s.consumed → ConsumesInTime m t s

-- exactly the live sporadic and strict threads have servers
pub record ServersAreRight {P : Type 0} (m : Machine P) : Type 0 where
  pub having : (t : ℕ) → is_some (thread_at m t).server ≡ (lives m t && has_server_policy (thread_at m t).policy)
  pub parameters : (t : ℕ) → HasParameters (thread_at m t).policy (thread_at m t).server
  pub each : (t : ℕ) (s : ServerState) → (thread_at m t).server ≡ Some s → ServerIsRight m t s

-- ---- waits and bounds

-- nobody waits for what is there
pub record WaitsAreRight {P : Type 0} (m : Machine P) : Type 0 where
  pub semaphores : (k : ℕ) → somebody_waits m (waits_on_semaphore k) ≡ true → semaphore_at m k ≡ 0
  pub receivers : (q : ℕ) → somebody_waits m (waits_to_receive q) ≡ true → (queue_at m q).messages ≡ []
  pub senders : (q : ℕ) → somebody_waits m (waits_to_send q) ≡ true → length (queue_at m q).messages ≡ (queue_at m q).depth

-- whether a wait has a place in an order of waiters, and so a serial
abbrev pub is_ordered : Wait → Bool
is_ordered (for_end u) = false
is_ordered for_time = false
is_ordered wait = true

abbrev pub serial_of : Option Waiting → Option ℕ
serial_of None = None
serial_of (Some w) = if is_ordered w.wait then Some w.serial else None

-- all serials that stand for an order
abbrev pub serials : {P : Type 0} → Machine P → List ℕ
serials m = filter_map (λ th. serial_of (waiting_in th.status)) m.threads ++ map (λ (r : SignalRecord). r.serial) m.pending

abbrev pub waits_on_any_condition : Wait → Bool
waits_on_any_condition (for_condition c k) = true
waits_on_any_condition wait = false

abbrev pub count_of : {X : Type 0} → (X → Bool) → List X → ℕ
count_of passes xs = length (filter passes xs)

-- how many records are pending of a timer or a queue
abbrev pub from_timers_and_queues : List SignalRecord → ℕ
from_timers_and_queues pending = count_of (λ (r : SignalRecord). is_some r.timer) pending + count_of (λ (r : SignalRecord). is_some r.queue) pending

pub record SignalsAreRight {P : Type 0} (m : Machine P) : Type 0 where
  pub few : count_of (λ (r : SignalRecord). is_counted r.code) m.pending ≤ record_limit
  pub one_of_timer : (k : ℕ) → count_of (λ (r : SignalRecord). is r.timer k) m.pending ≤ 1
  pub one_of_queue : (q : ℕ) → count_of (λ (r : SignalRecord). is r.queue q) m.pending ≤ 1

pub record SerialsAreRight {P : Type 0} (m : Machine P) : Type 0 where
  pub distinct : IsDistinct (λ (a b : ℕ). a == b) (serials m)
  pub below : All (λ (n : ℕ). n < m.next_serial) (serials m)
  -- each is paid for by a tick, but for a fixed number
  pub few : m.next_serial + count_of (waits_so waits_on_any_condition) m.threads
      ≤ 2 * m.now + from_timers_and_queues m.pending + count_of catches_signal m.threads + 1

-- The cleanup handlers that the blocks round a place have pushed, the innermost first, are a parameter, as places are.
abbrev pub main_guards : {P : Type 0} → (BodyOf → P → List ℕ) → List (Frame P) → List ℕ
main_guards guards [] = []
main_guards guards (f ∷ fs) = if is_main f.kind then guards f.body f.place else main_guards guards fs

pub record CleanupsAreRight {P : Type 0} (guards : BodyOf → P → List ℕ) (m : Machine P) : Type 0 where
  pub each : (t : ℕ) → lives m t ≡ true → (thread_at m t).is_ending ≡ false →
      ((thread_at m t).cleanups ≡ main_guards guards (thread_at m t).frames) × (length (thread_at m t).cleanups ≤ 8)

-- no signal can be delivered, since each that could be was
pub record IsSwept {P : Type 0} (bodies : Bodies P) (m : Machine P) : Type 0 where
  pub machine : (sweeps bodies (turn_of m)).machine ≡ m
  pub events : (sweeps bodies (turn_of m)).events ≡ []

-- ---- the clock

-- CLOCK_REALTIME reads a time that is not below 0, and at most 10^18 ticks ahead of CLOCK_MONOTONIC.
pub record ClockFits (now : ℕ) (clock : Clock) : Type 0 where
  pub behind : clock.behind ≤ now
  pub ahead : clock.ahead ≤ clock_limit

-- ---- all of it

pub record Good {P : Type 0} (bodies : Bodies P) (guards : BodyOf → P → List ℕ) (m : Machine P) : Type 0 where
  pub lists : ListsAreRight m
  pub mutexes : MutexesAreRight m
  pub servers : ServersAreRight m
  pub waits : WaitsAreRight m
  pub slices : (t : ℕ) → t < length m.threads → (thread_at m t).slice < m.quantum
  pub clock : ClockFits m.now m.clock
  pub signals : SignalsAreRight m
  pub serials : SerialsAreRight m
  pub cleanups : CleanupsAreRight guards m
  pub swept : m.killed ≡ None → IsSwept bodies m

-- Every state of a run is good, also those between the items of an instant.
abbrev pub StaysGood : {P : Type 0} → Bodies P → (BodyOf → P → List ℕ) → Machine P → Type 0
StaysGood bodies guards start = HoldsThroughout bodies start (Good bodies guards)
