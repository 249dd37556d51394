-- The moves that calls, due items and sweeps are made of, each with what must hold where it is made. A law that each move keeps
-- is kept by every call. All of it is this project's own.
use Rattle.std.specs.Prelude.{Bool, List, None, Option, Some, [], false, is_some, map, nat_lt, pred, suc, true, ℕ, ◌≡◌, ◌==◌, ◌∷◌, ◌⊎◌}
use Rattle.std.specs.List.{list_any}
use Rattle.std.specs.Option.{option_map}
use Rattle.words_numbers.specs.declared.res.Res.{Res}
use Rattle.words_script.specs.declared.policy.Policy.{Policy}
use Rattle.words_trace.specs.declared.event.Event.{Event}
use Rattle.words_trace.specs.declared.event.Event.TheVariants as event
use Rattle.rules_server.specs.Server.{ServerState}
use Rattle.rules_machine.specs.declared.frame.BodyOf.{BodyOf}
use Rattle.rules_machine.specs.declared.frame.FrameKind.{FrameKind}
use Rattle.rules_machine.specs.Bodies.{Bodies}
use Rattle.rules_machine.specs.State.{Clock, Frame, Joiner, Machine, Message, Registration, SignalRecord, Status, Thread, Timer, Wait, Waiting, blocked, dormant, ended, for_condition, for_end, for_message, for_mutex, for_mutex_again, for_room, for_semaphore, for_signal, for_time, runnable, waits_to_join}
use Rattle.rules_machine.specs.Threads.{action_of, can_run, is_blocked, is_dormant, lives, mutex_at, queue_at, semaphore_at, thread_at, waiting_of}
use Rattle.rules_machine.specs.Waiters.{somebody_waits, waits_so}
use Rattle.rules_machine.specs.Turns.{Caller, Turn, becomes, changes, changes_mutex, changes_pending, changes_queue, changes_semaphore, changes_timer, moves, tells, ◌▷◌}
use Rattle.rules_machine.specs.Servers.{activates_if, refills}
use Rattle.rules_machine.specs.Waking.{blocks, blocks_unordered, ending_with, on_top, starts, wakes_telling}
use Rattle.rules_machine.specs.Mutexes.{closes_cycle, counted_down, counted_up, freed, is_free, owned_by, taken_by, waits_for_mutex}
use Rattle.rules_machine.specs.Semaphores.{waits_on_semaphore}
use Rattle.rules_machine.specs.Signals.{becomes_pending, is_counted, is_full, is_ignore, without_record}
use Rattle.rules_machine.specs.Timers.{is_pending_from}
use Rattle.rules_machine.specs.Queues.{has_room, next_message, record_of_notification, registered, waits_to_receive, waits_to_send, with_message, without_message}
use Rattle.rules_machine.specs.Lives.{is_nobody, with_joiner, without_life, without_target, without_top}
use Rattle.rules_machine.specs.Cancellation.{without_cleanup}
use Rattle.rules_machine.specs.Scheduling.{takes_priority, with_policy, with_priority}
use Rattle.rules_machine.specs.DueItems.{has_come, refill_due, timer_due}
use Rattle.rules_machine.specs.GoodState.{ClockFits, is_in_condition_wait}
use Rattle.rules_machine.specs.Lists.{is}
use Rattle.rules_machine.specs.WellFormed.{IsPriority, PolicyFits}

-- ---- what others go by of a thread

pub record Shape (P : Type 0) : Type 0 where
  pub kind : FrameKind
  pub body : BodyOf
  pub place : P

abbrev pub shape_of : {P : Type 0} → Frame P → Shape P
shape_of f = record { kind = f.kind; body = f.body; place = f.place }

pub record Core (P : Type 0) : Type 0 where
  pub status : Status
  pub policy : Policy
  pub server : Option ServerState
  pub slice : ℕ
  pub ticks : ℕ
  pub shapes : List (Shape P)
  pub is_ending : Bool
  pub cleanups : List ℕ
  pub joiner : Joiner

-- others go by whether a wait ends at a time, and not by which
abbrev pub at_some_time : Status → Status
at_some_time (dormant at) = dormant at
at_some_time runnable = runnable
at_some_time (blocked w) = blocked (record w { due = option_map (λ (due : ℕ). 0) w.due })
at_some_time ended = ended

abbrev pub core_of : {P : Type 0} → Thread P → Core P
core_of th = record {
  status = at_some_time th.status;
  policy = th.policy;
  server = th.server;
  slice = th.slice;
  ticks = th.ticks;
  shapes = map shape_of th.frames;
  is_ending = th.is_ending;
  cleanups = th.cleanups;
  joiner = th.joiner;
}

-- ---- moves

pub data Move (P : Type 0) : Type 0 where
  -- a thread changes in nothing that others go by
  alters : ℕ → (Thread P → Thread P) → Move P
  tells_of : Event → Move P
  directs : ℕ → Move P
  ends_with : ℕ → ℕ → Move P
  enters_frame : ℕ → Frame P → Move P
  leaves_frame : ℕ → Move P
  pushes : ℕ → ℕ → Move P
  drops : ℕ → Move P
  prices : ℕ → ℕ → Move P
  -- a new policy; the flag says whether the thread is activated
  renews_with : Bool → ℕ → Policy → Move P
  wakes_with : ℕ → Event → Res → ℕ → Move P
  blocks_for : Caller → Wait → Option ℕ → Move P
  blocks_plainly : Caller → Wait → Option ℕ → Move P
  begins : ℕ → ℕ → Move P
  lives_no_more : ℕ → Move P
  -- a thread changes, and its status stays; no call does so alone
  recasts : ℕ → (Thread P → Thread P) → Move P
  -- nobody waits to join the thread any more
  rejoins : ℕ → Joiner → Move P
  counts_up counts_down frees : ℕ → Move P
  -- a mutex comes to be owned by a thread
  takes_for : ℕ → ℕ → Move P
  sem_up sem_down : ℕ → Move P
  message_in : ℕ → Message → Move P
  message_out : ℕ → ℕ → Move P
  -- one message goes out, and that of a sender comes in
  message_through : ℕ → ℕ → Message → Move P
  registers : ℕ → Option Registration → Move P
  sets_timer_by : ℕ → (Timer → Timer) → Move P
  record_in : SignalRecord → Move P
  -- a registration fires, and its record becomes pending
  fires : ℕ → Registration → Move P
  record_out : SignalRecord → Move P
  records_of_ended : ℕ → Move P
  ends_process : ℕ → Move P
  refills_one : ℕ → Move P
  -- CLOCK_REALTIME is set
  sets_clock_to : Clock → Move P

abbrev pub pushed : {P : Type 0} → ℕ → Thread P → Thread P
pushed u th = record th { cleanups = u ∷ th.cleanups }

module _ {P : Type 0} (bodies : Bodies P) where
  abbrev pub does : Move P → Turn P → Turn P
  does (alters t f) s = changes t f s
  does (tells_of e) s = tells e s
  does (directs t) s = moves t s
  does (ends_with t v) s = changes t (ending_with v) s
  does (enters_frame t f) s = changes t (on_top f) s
  does (leaves_frame t) s = changes t without_top s
  does (pushes t u) s = changes t (pushed u) s
  does (drops t) s = changes t without_cleanup s
  does (prices t p) s = changes t (with_priority p) s
  does (renews_with active t new) s = s ▷ changes t (with_policy new s.machine.now) ▷ activates_if active t
  does (wakes_with t e r v) s = wakes_telling e t r v s
  does (blocks_for by wait due) s = blocks by wait due s
  does (blocks_plainly by wait due) s = blocks_unordered by wait due s
  does (begins t mask) s = starts bodies t mask s
  does (lives_no_more t) s = s ▷ changes t without_life ▷ tells (event.Exit t)
  does (recasts t f) s = changes t f s
  does (rejoins t joiner) s = changes t (with_joiner joiner) s
  does (counts_up k) s = changes_mutex k counted_up s
  does (counts_down k) s = changes_mutex k counted_down s
  does (frees k) s = changes_mutex k freed s
  does (takes_for t k) s = changes_mutex k (taken_by t) s
  does (sem_up k) s = changes_semaphore k suc s
  does (sem_down k) s = changes_semaphore k pred s
  does (message_in q x) s = changes_queue q (with_message x) s
  does (message_out q n) s = changes_queue q (without_message n) s
  does (message_through q n x) s = s ▷ changes_queue q (without_message n) ▷ changes_queue q (with_message x)
  does (registers q r) s = changes_queue q (registered r) s
  does (sets_timer_by k f) s = changes_timer k f s
  does (record_in r) s = becomes_pending r s
  does (fires q r) s = s ▷ changes_queue q (registered None) ▷ becomes_pending (record_of_notification q r)
  does (record_out r) s = changes_pending (without_record r) s
  does (records_of_ended t) s = changes_pending (without_target t) s
  does (ends_process signal) s = becomes (λ m. record m { killed = Some signal }) s
  does (refills_one t) s = refills t s
  does (sets_clock_to clock) s = becomes (λ m. record m { clock = clock }) s

-- ---- where each may be made

-- an event that says nothing of a server
abbrev pub is_plain : Event → Bool
is_plain (event.Start t) = false
is_plain (event.Activate t capacity) = false
is_plain (event.Plan t amount due) = false
is_plain (event.Refill t amount capacity) = false
is_plain e = true

-- an event of a call or a signal, which says nothing of what runs or lives either
abbrev pub is_quiet : Event → Bool
is_quiet (event.Return t call res value) = true
is_quiet (event.Deliver t sig code value) = true
is_quiet (event.Cancel t) = true
is_quiet (event.Killed sig) = true
is_quiet e = false

-- it runs, and is the one whose unit is under way
abbrev pub Runs : {P : Type 0} → Option ℕ → Machine P → ℕ → Type 0
Runs who m t = (can_run m t ≡ true) × (who ≡ Some t)

-- when a thread may begin to wait so
abbrev pub MayWait : {P : Type 0} → Option ℕ → Machine P → ℕ → Wait → Type 0
MayWait who m t (for_mutex k) = (Runs who m t) × (is_free m k ≡ false) × (closes_cycle m k t ≡ false)
MayWait who m t (for_mutex_again k how) = (waits_so is_in_condition_wait (thread_at m t) ≡ true) × (is_free m k ≡ false)
MayWait who m t (for_condition c k) = (Runs who m t) × (owned_by m t ≡ [])
MayWait who m t (for_end u) = ⊥
MayWait who m t (for_semaphore k) = (Runs who m t) × (semaphore_at m k ≡ 0)
MayWait who m t for_time = ⊥
MayWait who m t (for_room q x) = (Runs who m t) × (has_room (queue_at m q) ≡ false)
MayWait who m t (for_message q) = (Runs who m t) × ((queue_at m q).messages ≡ [])
MayWait who m t (for_signal set) = Runs who m t

abbrev pub MayWaitPlainly : {P : Type 0} → Option ℕ → Machine P → ℕ → Wait → Type 0
MayWaitPlainly who m t (for_end u) = Runs who m t
MayWaitPlainly who m t for_time = Runs who m t
MayWaitPlainly who m t wait = ⊥

pub record MayPend {P : Type 0} (m : Machine P) (r : SignalRecord) : Type 0 where
  pub few : is_counted r.code ≡ true → is_full m ≡ false
  pub timer : (k : ℕ) → is r.timer k ≡ true → is_pending_from k m ≡ false
  pub queue : r.queue ≡ None
  -- a timer sends it when it is due
  pub due : (k : ℕ) → is r.timer k ≡ true → has_come (timer_due m k) m.now ≡ true
  -- a timer's signal is for the process
  pub aimed : is_some r.target ≡ true → r.timer ≡ None

abbrev pub is_for_end : Wait → Bool
is_for_end (for_end u) = true
is_for_end wait = false

-- a thread that no other counts on as its joiner: it waits for something else, or so it is
abbrev pub Unawaited : {P : Type 0} → Machine P → ℕ → Type 0
Unawaited m t = ((w : Waiting) × (waiting_of m t ≡ Some w) × (is_for_end w.wait ≡ false)) ⊎ ((u : ℕ) → (thread_at m u).joiner ≡ waits_to_join t → ⊥)

abbrev pub MayWake : {P : Type 0} → Machine P → ℕ → Type 0
MayWake m t = (is_blocked (thread_at m t).status ≡ true) × Unawaited m t

abbrev pub May : {P : Type 0} → Option ℕ → Move P → Turn P → Type 0
May {P} who (alters t f) s = (th : Thread P) → core_of (f th) ≡ core_of th
May who (tells_of e) s = is_quiet e ≡ true
May who (directs t) s = Unit {0}
May who (ends_with t v) s = Unit {0}
May who (enters_frame t f) s = Unit {0}
May who (leaves_frame t) s = Unit {0}
May who (pushes t u) s = Unit {0}
May who (drops t) s = Unit {0}
May who (prices t p) s = (lives s.machine t ≡ true) × (takes_priority (thread_at s.machine t).policy p ≡ true) × IsPriority p
May who (renews_with active t new) s = (lives s.machine t ≡ true) × (active ≡ can_run s.machine t) × PolicyFits new
May who (wakes_with t e r v) s = (is_blocked (thread_at s.machine t).status ≡ true) × (is_quiet e ≡ true) × Unawaited s.machine t
May who (blocks_for by wait due) s = MayWait who s.machine by.thread wait
May who (blocks_plainly by wait due) s = MayWaitPlainly who s.machine by.thread wait
May who (begins t mask) s = is_dormant (thread_at s.machine t).status ≡ true
May who (lives_no_more t) s = Runs who s.machine t
May who (recasts t f) s = (f (thread_at s.machine t)).status ≡ (thread_at s.machine t).status
May who (rejoins t joiner) s = (u : ℕ) → joiner ≡ waits_to_join u → ⊥
May who (counts_up k) s = is_free s.machine k ≡ false
May who (counts_down k) s = nat_lt 1 (mutex_at s.machine k).count ≡ true
May who (frees k) s = somebody_waits s.machine (waits_for_mutex k) ≡ false
May who (takes_for t k) s = can_run s.machine t ≡ true
May who (sem_up k) s = somebody_waits s.machine (waits_on_semaphore k) ≡ false
May who (sem_down k) s = Unit {0}
May who (message_in q x) s = (somebody_waits s.machine (waits_to_receive q) ≡ false) × (has_room (queue_at s.machine q) ≡ true)
May who (message_out q n) s = (next_message (queue_at s.machine q).messages ≡ Some n) × (somebody_waits s.machine (waits_to_send q) ≡ false)
May who (message_through q n x) s = next_message (queue_at s.machine q).messages ≡ Some n
May who (registers q o) s = (r : Registration) → o ≡ Some r → list_any (λ (x : SignalRecord). is x.queue q) s.machine.pending ≡ false
May who (sets_timer_by k f) s = Unit {0}
May who (record_in r) s = MayPend s.machine r × (is_ignore (action_of s.machine r.signal) ≡ false)
May who (fires q r) s = ((queue_at s.machine q).registration ≡ Some r) × (is_ignore (action_of s.machine r.signal) ≡ false)
May who (record_out r) s = Unit {0}
May who (records_of_ended t) s = Unit {0}
May who (ends_process signal) s = Unit {0}
May who (refills_one t) s = (has_come (refill_due s.machine t) s.machine.now ≡ true) × (who ≡ None)
May who (sets_clock_to clock) s = ClockFits s.machine.now clock

-- a law that every move keeps, in a unit of that thread or in none
abbrev pub Keeps : {P : Type 0} → Bodies P → Option ℕ → (Turn P → Type 0) → Type 0
Keeps {P} bodies who Law = (move : Move P) (s : Turn P) → May who move s → Law s → Law (does bodies move s)

-- ---- a unit's own thread blocks last

-- what is left of that while nobody's own call blocks: a thread that contends for the mutex of its condition wait
abbrev pub MayContend : {P : Type 0} → Option ℕ → Machine P → ℕ → Wait → Type 0
MayContend who m t (for_mutex_again k how) = MayWait who m t (for_mutex_again k how)
MayContend who m t wait = ⊥

abbrev pub MayAwake : {P : Type 0} → Option ℕ → Move P → Turn P → Type 0
MayAwake who (blocks_for by wait due) s = MayContend who s.machine by.thread wait
MayAwake who (blocks_plainly by wait due) s = ⊥
MayAwake who (recasts t f) s = ⊥
MayAwake who (renews_with active t new) s = ⊥
MayAwake who move s = May who move s

-- a law that every move keeps in which the unit's own thread does not block, and no thread has a new policy
abbrev pub KeepsAwake : {P : Type 0} → Bodies P → Option ℕ → (Turn P → Type 0) → Type 0
KeepsAwake {P} bodies who Law = (move : Move P) (s : Turn P) → MayAwake who move s → Law s → Law (does bodies move s)

-- what is left of it where a thread may have a new policy as well
abbrev pub MayRenewing : {P : Type 0} → Option ℕ → Move P → Turn P → Type 0
MayRenewing who (renews_with active t new) s = May who (renews_with active t new) s
MayRenewing who move s = MayAwake who move s

abbrev pub KeepsRenewing : {P : Type 0} → Bodies P → Option ℕ → (Turn P → Type 0) → Type 0
KeepsRenewing {P} bodies who Law = (move : Move P) (s : Turn P) → MayRenewing who move s → Law s → Law (does bodies move s)

-- The unit's own thread blocks last: Law holds before, and Done after it.
pub record Sleeps {P : Type 0} (who : Option ℕ) (Law Done : Turn P → Type 0) : Type 0 where
  pub done : (s : Turn P) → Law s → Done s
  pub sleeps : (by : Caller) (wait : Wait) (due : Option ℕ) (s : Turn P) → Runs who s.machine by.thread → MayWait who s.machine by.thread wait → Law s → Done (blocks by wait due s)
  pub dozes : (by : Caller) (wait : Wait) (due : Option ℕ) (s : Turn P) → Runs who s.machine by.thread → MayWaitPlainly who s.machine by.thread wait → is_for_end wait ≡ false → Law s → Done (blocks_unordered by wait due s)
  pub joins : (by : Caller) (u : ℕ) (s : Turn P) → Runs who s.machine by.thread → (u == by.thread) ≡ false → is_nobody (thread_at s.machine u).joiner ≡ true → Law s →
      Done (blocks_unordered by (for_end u) None (changes u (with_joiner (waits_to_join by.thread)) s))

-- And the threads are named that may have a new policy.
pub record Stops {P : Type 0} (who : Option ℕ) (Law Done : Turn P → Type 0) : Type 0 where
  pub done : (s : Turn P) → Law s → Done s
  pub renewable : ℕ → Bool
  pub renewing : (active : Bool) (u : ℕ) (new : Policy) (s : Turn P) → renewable u ≡ true → lives s.machine u ≡ true → active ≡ can_run s.machine u → PolicyFits new → Law s → Law (activates_if active u (changes u (with_policy new s.machine.now) s))
  pub sleeps : (by : Caller) (wait : Wait) (due : Option ℕ) (s : Turn P) → Runs who s.machine by.thread → MayWait who s.machine by.thread wait → Law s → Done (blocks by wait due s)
  pub dozes : (by : Caller) (wait : Wait) (due : Option ℕ) (s : Turn P) → Runs who s.machine by.thread → MayWaitPlainly who s.machine by.thread wait → is_for_end wait ≡ false → Law s → Done (blocks_unordered by wait due s)
  pub joins : (by : Caller) (u : ℕ) (s : Turn P) → Runs who s.machine by.thread → (u == by.thread) ≡ false → is_nobody (thread_at s.machine u).joiner ≡ true → Law s →
      Done (blocks_unordered by (for_end u) None (changes u (with_joiner (waits_to_join by.thread)) s))
