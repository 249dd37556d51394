-- What the moves of a turn keep small: one part changes, something is told, a call answers, a thread blocks.
use Rattle.std.proofs.Common.{Bool, List, None, Option, Some, [], arith, false, length, suc, true, zero, ℕ, ◌*◌, ◌+◌, ◌-◌, ◌^◌, ◌<◌, ◌≤◌, ◌∷◌, ◌≡◌}
use Rattle.std.specs.Prelude.{not, if◌then◌else◌}
use mathlib.Core.Path.{subst, ◌∙◌}
use Rattle.words_numbers.specs.declared.res.Res.{Res}
use Rattle.words_script.specs.declared.call.Call.{Call}
use Rattle.words_script.specs.declared.call.Moment.{Moment}
use Rattle.words_script.specs.declared.call.Moment.TheVariants as moment
use Rattle.words_script.specs.declared.call.Operand.{Operand}
use Rattle.words_script.specs.declared.call.Operand.TheVariants as operand
use Rattle.rules_bodies.specs.Next.{capped}
use Rattle.words_trace.specs.declared.event.Event.{Event}
use Rattle.words_trace.specs.declared.event.Event.TheVariants as event
use Rattle.rules_server.specs.Server.{ServerState}
use Rattle.rules_machine.specs.State.{Mutex, Frame, Queue, SignalRecord, Status, Thread, Timer, Wait, Waiting, blocked, Clock}
use Rattle.rules_machine.specs.Threads.{mutex_at, no_mutex, no_queue, no_thread, no_timer, moment_of, number_of, queue_at, real_time, semaphore_at, thread_at, timer_at, top_register, top_value, waiting_in, waiting_of}
use Rattle.rules_machine.specs.Clock.{is_on_real, waits_on_real}
use Rattle.rules_machine.specs.Timers.{first_expiry, timer_moment}
use Rattle.rules_machine.specs.Turns.{Caller, Turn, answered, changes, changes_mutex, changes_pending, changes_queue, changes_semaphore, changes_timer, frames_answered, moves_if, returns, tells}
use Rattle.rules_machine.specs.CallNames.{name_of}
use Rattle.rules_machine.specs.Servers.{high_server}
use Rattle.rules_machine.specs.Waking.{blocks, blocks_unordered, put_to_wait}
use Rattle.rules_machine.specs.Mutexes.{recursion_limit, moves_unless_boosted, owns_boosting}
use Rattle.rules_machine.specs.Semaphores.{semaphore_limit}
use Rattle.rules_machine.proofs.Reading.{changed-length}
use Rattle.rules_flat_code.specs.KnownCalls.{IsMoment, IsOperand}
use Rattle.laws_numbers.specs.Numbers.{DueSmall, Each, EntrySmall, EventSmall, FrameSmall, HasSmall, IsNumber, IsRegister, IsSmall, QueueSmall, ReadingSmall, RecordSmall, StatusSmall, ThreadSmall, TimeSmall, TimerSmall, TurnSmall, WaitSmall, WaitingSmall}
use Rattle.laws_numbers.proofs.Lists.{changed, each_last}

pub capped_small : (n : ℕ) → IsRegister (capped n)
capped_small n = omega arith

pub number_small : (n : ℕ) → IsNumber n → IsSmall n
number_small n h = omega arith

pub sum_small : (a b : ℕ) → a ≤ 10 ^ 18 → b ≤ 10 ^ 18 → IsSmall (a + b)
sum_small a b h k = omega arith

module _ {P : Type 0} where
  pub frames_answered_small : (r : Res) (value : ℕ) (fs : List (Frame P)) → IsSmall value → Each FrameSmall fs → Each FrameSmall (frames_answered r value fs)
  frames_answered_small r value [] v h = tt
  frames_answered_small r value (f ∷ fs) v h = (record { register = h.0.register; value = v; left = h.0.left }, h.1)

  pub register_small : (fs : List (Frame P)) → Each FrameSmall fs → IsRegister (top_register fs)
  register_small [] h = omega arith
  register_small (f ∷ fs) h = h.0.register

  pub value_small : (fs : List (Frame P)) → Each FrameSmall fs → IsSmall (top_value fs)
  value_small [] h = omega arith
  value_small (f ∷ fs) h = h.0.value

pub waiting_small : (clock : Clock) (status : Status) (w : Waiting) → StatusSmall clock status → waiting_in status ≡ Some w → WaitingSmall clock w
waiting_small clock (blocked v) w h e = let it : v ≡ w = cc in subst (WaitingSmall clock) it h
waiting_small clock status w h e = absurd (cc)

-- ---- due ticks as a clock stands

pub not_on_real : (clock : Clock) (at : Option ℕ) (on : Bool) → on ≡ false → ReadingSmall clock at on
not_on_real clock None on e = tt
not_on_real clock (Some n) false e = tt
not_on_real clock (Some n) true e = absurd (cc)

on_real : (clock : Clock) (n : ℕ) (on : Bool) → n + clock.ahead ≤ 2 * 10 ^ 18 + clock.behind → ReadingSmall clock (Some n) on
on_real clock n false h = tt
on_real clock n true h = h

pub no_time : (clock : Clock) (c : Call) → TimeSmall clock c None
no_time clock c = record { due = tt; reading = tt }

pub plain_time : (clock : Clock) (c : Call) (n : ℕ) → waits_on_real c ≡ false → IsSmall n → TimeSmall clock c (Some n)
plain_time clock c n e h = record { due = h; reading = not_on_real clock (Some n) (waits_on_real c) e }

pub high_small : (ticks : ℕ) (o : Option ServerState) → HasSmall ticks o → HasSmall ticks (high_server o)
high_small ticks None h = tt
high_small ticks (Some s) h = by (Rattle.rules_server.specs.Server.is_high s)
  where
    by : (b : Bool) → HasSmall ticks (if b then Some s else None)
    by true = h
    by false = tt

-- what is not there

pub no_thread_small : {P : Type 0} (count : ℕ) (clock : Clock) → ThreadSmall count clock (no_thread {P = P})
no_thread_small count clock = record { status = tt; policy = tt; server = tt; frames = tt; exit_value = omega arith; joiner = tt }

pub no_timer_small : (clock : Clock) → TimerSmall clock no_timer
no_timer_small clock = record { signal = omega arith; value = omega arith; due = tt; reading = tt; interval = omega arith; extra = omega arith; overrun = omega arith }

module _ {P : Type 0} (count top : ℕ) (low : top ≤ 10 ^ 18) where
  abbrev pub Small : Turn P → Type 0
  Small s = TurnSmall count top s

  pub now_low : (s : Turn P) → Small s → s.machine.now ≤ 10 ^ 18
  now_low s h = omega (arith, h.early)

  pub if_small : (b : Bool) (x y : Turn P) → Small x → Small y → Small (if b then x else y)
  if_small true x y h k = h
  if_small false x y h k = k

  pub within : (t : ℕ) (s : Turn P) → t < length s.machine.threads → Small s → t < count
  within t s lt h = let e = h.counted in omega arith

  -- ---- one part changes

  pub changes_small : (t : ℕ) (f : Thread P → Thread P) (s : Turn P) → (ThreadSmall count s.machine.clock (thread_at s.machine t) → ThreadSmall count s.machine.clock (f (thread_at s.machine t))) → Small s → Small (changes t f s)
  changes_small t f s new h = record {
    early = h.early;
    of_clock = h.of_clock;
    of_quantum = h.of_quantum;
    counted = changed-length no_thread t f s.machine.threads ∙ h.counted;
    of_threads = changed (ThreadSmall count s.machine.clock) no_thread t f s.machine.threads (new (h.of_threads t)) h.of_threads;
    of_mutexes = h.of_mutexes;
    of_semaphores = h.of_semaphores;
    of_queues = h.of_queues;
    of_timers = h.of_timers;
    of_records = h.of_records;
    of_events = h.of_events;
  }

  pub mutex_small : (k : ℕ) (f : Mutex → Mutex) (s : Turn P) → (f (mutex_at s.machine k)).count ≤ recursion_limit → Small s → Small (changes_mutex k f s)
  mutex_small k f s new h = record {
    early = h.early;
    of_clock = h.of_clock;
    of_quantum = h.of_quantum;
    counted = h.counted;
    of_threads = h.of_threads;
    of_mutexes = changed (λ (x : Mutex). x.count ≤ recursion_limit) no_mutex k f s.machine.mutexes new h.of_mutexes;
    of_semaphores = h.of_semaphores;
    of_queues = h.of_queues;
    of_timers = h.of_timers;
    of_records = h.of_records;
    of_events = h.of_events;
  }

  pub semaphore_small : (k : ℕ) (f : ℕ → ℕ) (s : Turn P) → f (semaphore_at s.machine k) ≤ semaphore_limit → Small s → Small (changes_semaphore k f s)
  semaphore_small k f s new h = record {
    early = h.early;
    of_clock = h.of_clock;
    of_quantum = h.of_quantum;
    counted = h.counted;
    of_threads = h.of_threads;
    of_mutexes = h.of_mutexes;
    of_semaphores = changed (λ (n : ℕ). n ≤ semaphore_limit) 0 k f s.machine.semaphores new h.of_semaphores;
    of_queues = h.of_queues;
    of_timers = h.of_timers;
    of_records = h.of_records;
    of_events = h.of_events;
  }

  pub queue_small : (q : ℕ) (f : Queue → Queue) (s : Turn P) → (QueueSmall (queue_at s.machine q) → QueueSmall (f (queue_at s.machine q))) → Small s → Small (changes_queue q f s)
  queue_small q f s new h = record {
    early = h.early;
    of_clock = h.of_clock;
    of_quantum = h.of_quantum;
    counted = h.counted;
    of_threads = h.of_threads;
    of_mutexes = h.of_mutexes;
    of_semaphores = h.of_semaphores;
    of_queues = changed QueueSmall no_queue q f s.machine.queues (new (h.of_queues q)) h.of_queues;
    of_timers = h.of_timers;
    of_records = h.of_records;
    of_events = h.of_events;
  }

  pub timer_small : (k : ℕ) (f : Timer → Timer) (s : Turn P) → (TimerSmall s.machine.clock (timer_at s.machine k) → TimerSmall s.machine.clock (f (timer_at s.machine k))) → Small s → Small (changes_timer k f s)
  timer_small k f s new h = record {
    early = h.early;
    of_clock = h.of_clock;
    of_quantum = h.of_quantum;
    counted = h.counted;
    of_threads = h.of_threads;
    of_mutexes = h.of_mutexes;
    of_semaphores = h.of_semaphores;
    of_queues = h.of_queues;
    of_timers = changed (TimerSmall s.machine.clock) no_timer k f s.machine.timers (new (h.of_timers k)) h.of_timers;
    of_records = h.of_records;
    of_events = h.of_events;
  }

  pub pending_small : (f : List SignalRecord → List SignalRecord) (s : Turn P) → (Each RecordSmall s.machine.pending → Each RecordSmall (f s.machine.pending)) → Small s → Small (changes_pending f s)
  pending_small f s new h = record {
    early = h.early;
    of_clock = h.of_clock;
    of_quantum = h.of_quantum;
    counted = h.counted;
    of_threads = h.of_threads;
    of_mutexes = h.of_mutexes;
    of_semaphores = h.of_semaphores;
    of_queues = h.of_queues;
    of_timers = h.of_timers;
    of_records = new h.of_records;
    of_events = h.of_events;
  }

  pub tells_small : (e : Event) (s : Turn P) → EventSmall count e → Small s → Small (tells e s)
  tells_small e s new h =
      let early : IsSmall s.machine.now = omega (arith, h.early) in
      record {
        early = h.early;
        of_clock = h.of_clock;
        of_quantum = h.of_quantum;
        counted = h.counted;
        of_threads = h.of_threads;
        of_mutexes = h.of_mutexes;
        of_semaphores = h.of_semaphores;
        of_queues = h.of_queues;
        of_timers = h.of_timers;
        of_records = h.of_records;
        of_events = each_last (EntrySmall count) s.events (record { time = s.machine.now; event = e }) h.of_events (record { time = early; event = new });
      }

  pub moves_if_small : (b : Bool) (t : ℕ) (s : Turn P) → Small s → Small (moves_if b t s)
  moves_if_small true t s h = h
  moves_if_small false t s h = h

  pub moves_unless_boosted_small : (t : ℕ) (s : Turn P) → Small s → Small (moves_unless_boosted t s)
  moves_unless_boosted_small t s h = moves_if_small (not (owns_boosting s.machine t)) t s h

  -- ---- numbers that are read

  pub number_of_small : (t : ℕ) (v : Operand) (s : Turn P) → IsOperand v → Small s → IsSmall (number_of s.machine t v)
  number_of_small t (operand.Num n) s h small = number_small n h
  number_of_small t operand.Reg s h small = (let register = register_small (thread_at s.machine t).frames (small.of_threads t).frames in omega (arith, register))

  operand_small : (t : ℕ) (v : Operand) (s : Turn P) → IsOperand v → Small s → IsRegister (number_of s.machine t v)
  operand_small t (operand.Num n) s h small = omega (arith, h)
  operand_small t operand.Reg s h small = register_small (thread_at s.machine t).frames (small.of_threads t).frames

  -- a time on CLOCK_REALTIME comes by a small tick
  real_tick : (n : ℕ) (s : Turn P) → IsRegister n → Small s → IsSmall (s.machine.now + (n - real_time s.machine))
  real_tick n s h small = let now = now_low s small in omega (arith, h, now)

  -- and the clock reads that time then, or has read it
  real_reading : (n : ℕ) (s : Turn P) → IsRegister n → Small s → s.machine.now + (n - real_time s.machine) + s.machine.clock.ahead ≤ 2 * 10 ^ 18 + s.machine.clock.behind
  real_reading n s h small =
      let now = now_low s small in
      let ahead = small.of_clock.ahead in
      let behind = small.of_clock.behind in
      omega (arith, h, now, ahead, behind)

  pub moment_small : (by : Caller) (at : Moment) (s : Turn P) → waits_on_real by.call ≡ is_on_real at → IsMoment at → Small s → TimeSmall s.machine.clock by.call (Some (moment_of s.machine by.thread at))
  moment_small by (moment.Monotonic at) s on h small = plain_time s.machine.clock by.call (number_of s.machine by.thread at) on (number_of_small by.thread at s h small)
  moment_small by (moment.Realtime at) s on h small =
      let n = number_of s.machine by.thread at in
      let register = operand_small by.thread at s h small in
      record {
        due = real_tick n s register small;
        reading = on_real s.machine.clock (s.machine.now + (n - real_time s.machine)) (waits_on_real by.call) (real_reading n s register small);
      }

  -- the first expiry of a timer at an absolute time, on its clock or on the other
  expiry_on_small : (n : ℕ) (on : Bool) (s : Turn P) → IsRegister n → Small s → DueSmall (first_expiry n (if on then s.machine.now + (n - real_time s.machine) else n))
  expiry_on_small zero on s h small = tt
  expiry_on_small (suc n) true s h small = real_tick (suc n) s h small
  expiry_on_small (suc n) false s h small = omega (arith, h)

  reading_on_small : (n : ℕ) (on : Bool) (s : Turn P) → IsRegister n → Small s → ReadingSmall s.machine.clock (first_expiry n (if on then s.machine.now + (n - real_time s.machine) else n)) on
  reading_on_small zero on s h small = tt
  reading_on_small (suc n) true s h small = real_reading (suc n) s h small
  reading_on_small (suc n) false s h small = tt

  pub expiry_at_small : (k t : ℕ) (v : Operand) (s : Turn P) → IsOperand v → Small s → DueSmall (first_expiry (number_of s.machine t v) (timer_moment s.machine k (number_of s.machine t v)))
  expiry_at_small k t v s h small = expiry_on_small (number_of s.machine t v) (timer_at s.machine k).is_real s (operand_small t v s h small) small

  pub expiry_read_small : (k t : ℕ) (v : Operand) (s : Turn P) → IsOperand v → Small s →
      ReadingSmall s.machine.clock (first_expiry (number_of s.machine t v) (timer_moment s.machine k (number_of s.machine t v))) (timer_at s.machine k).is_real
  expiry_read_small k t v s h small = reading_on_small (number_of s.machine t v) (timer_at s.machine k).is_real s (operand_small t v s h small) small

  pub real_small : (s : Turn P) → Small s → IsSmall (real_time s.machine)
  real_small s small = let now = now_low s small in let ahead = small.of_clock.ahead in omega (arith, now, ahead)

  pub wait_of_small : (t : ℕ) (w : Waiting) (s : Turn P) → waiting_of s.machine t ≡ Some w → Small s → WaitingSmall s.machine.clock w
  wait_of_small t w s e h = waiting_small s.machine.clock (thread_at s.machine t).status w (h.of_threads t).status e

  -- ---- answers and waits

  pub returns_small : (by : Caller) (r : Res) (value : ℕ) (s : Turn P) → by.thread < count → IsSmall value → Small s → Small (returns by r value s)
  returns_small by r value s lt v h =
      tells_small (event.Return by.thread (name_of by.call) r value) (changes by.thread (answered r value) s) (lt, v)
      (changes_small by.thread (answered r value) s (λ th. record {
        status = th.status;
        policy = th.policy;
        server = th.server;
        frames = frames_answered_small r value (thread_at s.machine by.thread).frames v th.frames;
        exit_value = th.exit_value;
        joiner = th.joiner;
      }) h)

  pub sleeps_small : (t : ℕ) (w : Waiting) (s : Turn P) → WaitingSmall s.machine.clock w → Small s → Small (changes t (put_to_wait w) s)
  sleeps_small t w s small h =
      changes_small t (put_to_wait w) s (λ th. record { status = small; policy = th.policy; server = th.server; frames = th.frames; exit_value = th.exit_value; joiner = th.joiner }) h

  pub blocks_small : (by : Caller) (wait : Wait) (due : Option ℕ) (s : Turn P) → WaitSmall wait → TimeSmall s.machine.clock by.call due → Small s → Small (blocks by wait due s)
  blocks_small by wait due s w d h = sleeps_small by.thread (record { wait = wait; serial = s.machine.next_serial; due = due; call = by.call }) s (record { wait = w; time = d }) h

  pub blocks_unordered_small : (by : Caller) (wait : Wait) (due : Option ℕ) (s : Turn P) → WaitSmall wait → TimeSmall s.machine.clock by.call due → Small s → Small (blocks_unordered by wait due s)
  blocks_unordered_small by wait due s w d h = sleeps_small by.thread (record { wait = wait; serial = 0; due = due; call = by.call }) s (record { wait = w; time = d }) h
