-- How large the numbers of a machine and of its events are: none is above 3 * 10 ^ 18, but the serials, of which nothing is said here.
-- The limit is this project's own.
use Rattle.std.specs.Prelude.{Bool, List, None, Option, Some, [], false, length, true, ℕ, ◌+◌, ◌*◌, ◌^◌, ◌≤◌, ◌<◌, ◌≡◌, ◌∷◌, slice_index_or}
use Rattle.words_script.specs.declared.call.Call.{Call}
use Rattle.words_script.specs.declared.policy.Policy.{Policy}
use Rattle.words_script.specs.declared.policy.Policy.TheVariants as policy
use Rattle.rules_server.specs.declared.Replenish.{Replenish}
use Rattle.rules_server.specs.Server.{ServerState, pending_total}
use Rattle.words_trace.specs.declared.event.Event.{Event}
use Rattle.words_trace.specs.declared.event.Event.TheVariants as event
use Rattle.words_trace.specs.Text.{Entry}
use Rattle.rules_machine.specs.State.{Clock, Frame, Joiner, Machine, Message, Mutex, Queue, Registration, SignalRecord, Status, Thread, Timer, Wait, Waiting, blocked, dormant, ended, for_room, has_joined, nobody, runnable, waits_to_join}
use Rattle.rules_machine.specs.Threads.{mutex_in, no_queue, no_timer, thread_in}
use Rattle.rules_machine.specs.Clock.{waits_on_real}
use Rattle.rules_machine.specs.GoodState.{ClockFits}
use Rattle.rules_machine.specs.Mutexes.{recursion_limit}
use Rattle.rules_machine.specs.Semaphores.{semaphore_limit}
use Rattle.rules_machine.specs.Timers.{overrun_limit}
use Rattle.rules_machine.specs.Turns.{Turn}

-- a number of a machine
abbrev pub IsSmall : ℕ → Type 0
IsSmall n = n ≤ 3 * 10 ^ 18

-- what a register may hold
abbrev pub IsRegister : ℕ → Type 0
IsRegister n = n ≤ 2 * 10 ^ 18

-- a number of a script
abbrev pub IsNumber : ℕ → Type 0
IsNumber n = n ≤ 10 ^ 18

abbrev pub Each : {X : Type 0} → (X → Type 0) → List X → Type 0
Each Law [] = Unit {0}
Each Law (x ∷ xs) = Law x × Each Law xs

abbrev pub DueSmall : Option ℕ → Type 0
DueSmall None = Unit {0}
DueSmall (Some n) = IsSmall n

-- what CLOCK_REALTIME reads at a due tick is what a register may hold, where the tick stands for a time on that clock
abbrev pub ReadingSmall : Clock → Option ℕ → Bool → Type 0
ReadingSmall clock None is_real = Unit {0}
ReadingSmall clock (Some n) false = Unit {0}
ReadingSmall clock (Some n) true = n + clock.ahead ≤ 2 * 10 ^ 18 + clock.behind

-- the due tick of a wait in a call
pub record TimeSmall (clock : Clock) (c : Call) (at : Option ℕ) : Type 0 where
  pub due : DueSmall at
  pub reading : ReadingSmall clock at (waits_on_real c)

-- ---- threads

pub record FrameSmall {P : Type 0} (f : Frame P) : Type 0 where
  pub register : IsRegister f.register
  pub value : IsSmall f.value
  pub left : IsSmall f.left

pub record MessageSmall (x : Message) : Type 0 where
  pub priority : x.priority < 32
  pub value : IsSmall x.value

abbrev pub WaitSmall : Wait → Type 0
WaitSmall (for_room q x) = MessageSmall x
WaitSmall wait = Unit {0}

pub record WaitingSmall (clock : Clock) (w : Waiting) : Type 0 where
  pub wait : WaitSmall w.wait
  pub time : TimeSmall clock w.call w.due

abbrev pub StatusSmall : Clock → Status → Type 0
StatusSmall clock (dormant at) = DueSmall at
StatusSmall clock runnable = Unit {0}
StatusSmall clock (blocked w) = WaitingSmall clock w
StatusSmall clock ended = Unit {0}

abbrev pub PolicySmall : Policy → Type 0
PolicySmall (policy.Fifo p) = Unit {0}
PolicySmall (policy.Rr p) = Unit {0}
PolicySmall (policy.Sporadic params) = IsNumber params.budget × IsNumber params.period
PolicySmall (policy.Strict params) = IsNumber params.budget × IsNumber params.period

-- a server of a thread that has run so many ticks
pub record ServerSmall (ticks : ℕ) (s : ServerState) : Type 0 where
  pub budget : IsNumber s.params.budget
  pub period : IsNumber s.params.period
  pub activation : IsNumber s.activation
  pub parts : s.capacity + s.consumed + pending_total s ≤ 10 ^ 18
  pub refilled : s.refilled_total + s.consumed + pending_total s ≤ s.high_total
  pub high : s.high_total ≤ ticks
  pub dues : Each (λ (r : Replenish). IsSmall r.due) s.pending

abbrev pub HasSmall : ℕ → Option ServerState → Type 0
HasSmall ticks None = Unit {0}
HasSmall ticks (Some s) = ServerSmall ticks s

-- the thread that waits to join is one of so many
abbrev pub JoinerWithin : ℕ → Joiner → Type 0
JoinerWithin count nobody = Unit {0}
JoinerWithin count (waits_to_join t) = t < count
JoinerWithin count has_joined = Unit {0}

pub record ThreadSmall {P : Type 0} (count : ℕ) (clock : Clock) (th : Thread P) : Type 0 where
  pub status : StatusSmall clock th.status
  pub policy : PolicySmall th.policy
  pub server : HasSmall th.ticks th.server
  pub frames : Each FrameSmall th.frames
  pub exit_value : IsSmall th.exit_value
  pub joiner : JoinerWithin count th.joiner

-- ---- objects

abbrev pub RegistrationSmall : Option Registration → Type 0
RegistrationSmall None = Unit {0}
RegistrationSmall (Some r) = (r.signal < 32) × IsSmall r.value

pub record QueueSmall (q : Queue) : Type 0 where
  pub depth : q.depth ≤ 64
  pub longest : q.longest ≤ 65536
  pub messages : Each MessageSmall q.messages
  pub registration : RegistrationSmall q.registration

pub record TimerSmall (clock : Clock) (k : Timer) : Type 0 where
  pub signal : k.signal < 32
  pub value : IsSmall k.value
  pub due : DueSmall k.due
  pub reading : ReadingSmall clock k.due k.is_reading
  pub interval : IsNumber k.interval
  pub extra : k.extra ≤ overrun_limit
  pub overrun : k.overrun ≤ overrun_limit

pub record RecordSmall (r : SignalRecord) : Type 0 where
  pub signal : r.signal < 32
  pub value : IsSmall r.value

-- ---- events: their threads are some of so many, and their numbers are small

abbrev pub EventSmall : ℕ → Event → Type 0
EventSmall count (event.Dispatch t prio) = (t < count) × IsSmall prio
EventSmall count event.Idle = Unit {0}
EventSmall count (event.Start t) = t < count
EventSmall count (event.Return t call res value) = (t < count) × IsSmall value
EventSmall count (event.Deliver t sig code value) = (t < count) × (sig < 32) × IsSmall value
EventSmall count (event.Activate t capacity) = (t < count) × IsSmall capacity
EventSmall count (event.Exhaust t) = t < count
EventSmall count (event.Plan t amount due) = (t < count) × IsSmall amount × IsSmall due
EventSmall count (event.Refill t amount capacity) = (t < count) × IsSmall amount × IsSmall capacity
EventSmall count (event.Cancel t) = t < count
EventSmall count (event.Exit t) = t < count
EventSmall count (event.Killed sig) = sig < 32
EventSmall count event.End = Unit {0}

pub record EntrySmall (count : ℕ) (e : Entry) : Type 0 where
  pub time : IsSmall e.time
  pub event : EventSmall count e.event

-- ---- the machine and what it tells, up to an instant

pub record AreSmall {P : Type 0} (count top now : ℕ) (clock : Clock) (quantum : ℕ) (threads : List (Thread P)) (mutexes : List Mutex) (semaphores : List ℕ) (queues : List Queue) (timers : List Timer) (pending : List SignalRecord) (events : List Entry) : Type 0 where
  pub early : now ≤ top
  pub of_clock : ClockFits now clock
  pub of_quantum : IsNumber quantum
  pub counted : length threads ≡ count
  pub of_threads : (t : ℕ) → ThreadSmall count clock (thread_in threads t)
  pub of_mutexes : (k : ℕ) → (mutex_in mutexes k).count ≤ recursion_limit
  pub of_semaphores : (k : ℕ) → slice_index_or semaphores k 0 ≤ semaphore_limit
  pub of_queues : (q : ℕ) → QueueSmall (slice_index_or queues q no_queue)
  pub of_timers : (k : ℕ) → TimerSmall clock (slice_index_or timers k no_timer)
  pub of_records : Each RecordSmall pending
  pub of_events : Each (EntrySmall count) events

abbrev pub TurnSmall : {P : Type 0} → ℕ → ℕ → Turn P → Type 0
TurnSmall count top s =
    AreSmall count top s.machine.now s.machine.clock s.machine.quantum s.machine.threads s.machine.mutexes s.machine.semaphores s.machine.queues s.machine.timers s.machine.pending s.events

-- a machine of so many threads, at that instant or an earlier one
abbrev pub NumbersAreSmall : {P : Type 0} → ℕ → ℕ → Machine P → Type 0
NumbersAreSmall count top m = AreSmall count top m.now m.clock m.quantum m.threads m.mutexes m.semaphores m.queues m.timers m.pending []
