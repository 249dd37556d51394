-- A turn of the machine between two settlings, and what the effects of calls and items are made of.
use Rattle.std.specs.Prelude.{Bool, List, None, Option, Some, [], false, true, nat_le, ℕ, ◌+◌, ◌∷◌, ◌++◌}
use Rattle.words_numbers.specs.declared.res.Res.{Res}
use Rattle.words_script.specs.declared.call.Call.{Call}
use Rattle.words_trace.specs.declared.event.Event.{Event}
use Rattle.words_trace.specs.declared.event.Event.TheVariants as event
use Rattle.words_trace.specs.Text.{Entry}
use Rattle.rules_machine.specs.Lists.{changed_at}
use Rattle.rules_machine.specs.State.{Frame, Machine, Mutex, Queue, SignalRecord, Thread, Timer}
use Rattle.rules_machine.specs.Threads.{no_mutex, no_queue, no_thread, no_timer}
use Rattle.rules_machine.specs.CallNames.{name_of}
use Rattle.rules_machine.specs.Settling.{settled}

-- the machine, the direct moves that the next settling makes, and what happened
pub record Turn (P : Type 0) : Type 0 where
  pub machine : Machine P
  pub direct : List ℕ
  pub events : List Entry

abbrev pub turn_of : {P : Type 0} → Machine P → Turn P
turn_of m = record { machine = m; direct = []; events = [] }

-- who calls, and what
pub record Caller : Type 0 where
  pub thread : ℕ
  pub call : Call

-- first the one, then the other
infixl 6 ◌▷◌
abbrev pub ◌▷◌ : {X : Type 0} → X → (X → X) → X
x ▷ next = next x

-- ---- one part of the machine changes

abbrev pub becomes : {P : Type 0} → (Machine P → Machine P) → Turn P → Turn P
becomes change s = record s { machine = change s.machine }

abbrev pub with_thread : {P : Type 0} → ℕ → (Thread P → Thread P) → Machine P → Machine P
with_thread t change m = record m { threads = changed_at no_thread t change m.threads }

abbrev pub with_mutex : {P : Type 0} → ℕ → (Mutex → Mutex) → Machine P → Machine P
with_mutex k change m = record m { mutexes = changed_at no_mutex k change m.mutexes }

abbrev pub with_semaphore : {P : Type 0} → ℕ → (ℕ → ℕ) → Machine P → Machine P
with_semaphore k change m = record m { semaphores = changed_at 0 k change m.semaphores }

abbrev pub with_queue : {P : Type 0} → ℕ → (Queue → Queue) → Machine P → Machine P
with_queue q change m = record m { queues = changed_at no_queue q change m.queues }

abbrev pub with_timer : {P : Type 0} → ℕ → (Timer → Timer) → Machine P → Machine P
with_timer k change m = record m { timers = changed_at no_timer k change m.timers }

abbrev pub with_pending : {P : Type 0} → (List SignalRecord → List SignalRecord) → Machine P → Machine P
with_pending change m = record m { pending = change m.pending }

abbrev pub changes : {P : Type 0} → ℕ → (Thread P → Thread P) → Turn P → Turn P
changes t change s = becomes (with_thread t change) s

abbrev pub changes_mutex : {P : Type 0} → ℕ → (Mutex → Mutex) → Turn P → Turn P
changes_mutex k change s = becomes (with_mutex k change) s

abbrev pub changes_semaphore : {P : Type 0} → ℕ → (ℕ → ℕ) → Turn P → Turn P
changes_semaphore k change s = becomes (with_semaphore k change) s

abbrev pub changes_queue : {P : Type 0} → ℕ → (Queue → Queue) → Turn P → Turn P
changes_queue q change s = becomes (with_queue q change) s

abbrev pub changes_timer : {P : Type 0} → ℕ → (Timer → Timer) → Turn P → Turn P
changes_timer k change s = becomes (with_timer k change) s

abbrev pub changes_pending : {P : Type 0} → (List SignalRecord → List SignalRecord) → Turn P → Turn P
changes_pending change s = becomes (with_pending change) s

-- a serial is used up
abbrev pub takes_serial : {P : Type 0} → Turn P → Turn P
takes_serial s = becomes (λ m. record m { next_serial = m.next_serial + 1 }) s

-- ---- what happens, direct moves, and the settling

-- something happens now
abbrev pub tells : {P : Type 0} → Event → Turn P → Turn P
tells e s = record s { events = s.events ++ record { time = s.machine.now; event = e } ∷ [] }

-- the thread becomes the tail of its list at the next settling
abbrev pub moves : {P : Type 0} → ℕ → Turn P → Turn P
moves t s = record s { direct = s.direct ++ t ∷ [] }

abbrev pub moves_if : {P : Type 0} → Bool → ℕ → Turn P → Turn P
moves_if true t s = moves t s
moves_if false t s = s

-- the moves of what was done since the machine was `before`
abbrev pub settles_since : {P : Type 0} → Machine P → Turn P → Turn P
settles_since before s = record s { machine = settled before s.direct s.machine; direct = [] }

-- ---- answers

abbrev pub frames_answered : {P : Type 0} → Res → ℕ → List (Frame P) → List (Frame P)
frames_answered result value [] = []
frames_answered result value (f ∷ fs) = record f { result = result; value = value } ∷ fs

abbrev pub answered : {P : Type 0} → Res → ℕ → Thread P → Thread P
answered result value th = record th { frames = frames_answered result value th.frames }

-- the caller's call returns
abbrev pub returns : {P : Type 0} → Caller → Res → ℕ → Turn P → Turn P
returns by result value s = s ▷ changes by.thread (answered result value) ▷ tells (event.Return by.thread (name_of by.call) result value)

-- whether an absolute time is not in the future
abbrev pub has_passed : {P : Type 0} → ℕ → Machine P → Bool
has_passed at m = nat_le at m.now

abbrev pub is_late : {P : Type 0} → Option ℕ → Machine P → Bool
is_late None m = false
is_late (Some at) m = has_passed at m
