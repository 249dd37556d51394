-- Threads, mutexes and the other parts by their numbers, and what can be asked of them.
use Rattle.std.specs.Prelude.{Bool, List, None, Option, Some, [], false, is_some, slice_index_or, true, ℕ, ◌+◌, ◌-◌, ◌||◌, ◌∷◌}
use Rattle.words_numbers.specs.declared.res.Res.{Res}
use Rattle.words_numbers.specs.declared.res.Res.TheVariants as res
use Rattle.words_script.specs.declared.call.Moment.{Moment}
use Rattle.words_script.specs.declared.call.Moment.TheVariants as moment
use Rattle.words_script.specs.declared.call.Operand.{Operand}
use Rattle.words_script.specs.declared.call.Operand.TheVariants as operand
use Rattle.words_script.specs.declared.policy.Policy.TheVariants as policy
use Rattle.words_script.specs.declared.policy.Protocol.TheVariants as protocol
use Rattle.rules_machine.specs.declared.frame.FrameKind.{FrameKind}
use Rattle.rules_machine.specs.declared.frame.FrameKind.TheVariants as frame
use Rattle.rules_machine.specs.declared.signal.SigAction.{SigAction}
use Rattle.rules_machine.specs.declared.signal.SigAction.TheVariants as action
use Rattle.rules_machine.specs.Lists.{numbers}
use Rattle.rules_machine.specs.State.{Frame, Machine, Mutex, Queue, Status, Thread, Timer, Waiting, blocked, dormant, ended, nobody, runnable}

-- ---- what stands for a number that nothing has

abbrev pub no_thread : {P : Type 0} → Thread P
no_thread = record {
  status = ended;
  policy = policy.Fifo 1;
  server = None;
  slice = 0;
  ticks = 0;
  mask = 0;
  frames = [];
  is_requested = false;
  is_enabled = true;
  is_ending = false;
  cleanups = [];
  exit_value = 0;
  joiner = nobody;
}

abbrev pub no_mutex : Mutex
no_mutex = record { protocol = protocol.Plain; is_recursive = false; owner = None; count = 0 }

abbrev pub no_queue : Queue
no_queue = record { depth = 0; longest = 0; is_nonblock = false; messages = []; registration = None }

abbrev pub no_timer : Timer
no_timer = record { signal = 0; value = 0; is_real = false; due = None; is_reading = false; interval = 0; extra = 0; overrun = 0 }

-- ---- the parts by number

abbrev pub thread_in : {P : Type 0} → List (Thread P) → ℕ → Thread P
thread_in threads t = slice_index_or threads t no_thread

abbrev pub thread_at : {P : Type 0} → Machine P → ℕ → Thread P
thread_at m t = thread_in m.threads t

abbrev pub mutex_in : List Mutex → ℕ → Mutex
mutex_in mutexes k = slice_index_or mutexes k no_mutex

abbrev pub mutex_at : {P : Type 0} → Machine P → ℕ → Mutex
mutex_at m k = mutex_in m.mutexes k

abbrev pub semaphore_at : {P : Type 0} → Machine P → ℕ → ℕ
semaphore_at m k = slice_index_or m.semaphores k 0

abbrev pub queue_at : {P : Type 0} → Machine P → ℕ → Queue
queue_at m q = slice_index_or m.queues q no_queue

abbrev pub timer_at : {P : Type 0} → Machine P → ℕ → Timer
timer_at m k = slice_index_or m.timers k no_timer

abbrev pub action_of : {P : Type 0} → Machine P → ℕ → SigAction
action_of m signal = slice_index_or m.actions signal action.Kill

abbrev pub thread_numbers : {P : Type 0} → Machine P → List ℕ
thread_numbers m = numbers m.threads

-- ---- statuses

abbrev pub is_dormant : Status → Bool
is_dormant (dormant at) = true
is_dormant runnable = false
is_dormant (blocked w) = false
is_dormant ended = false

abbrev pub is_runnable : Status → Bool
is_runnable (dormant at) = false
is_runnable runnable = true
is_runnable (blocked w) = false
is_runnable ended = false

-- its wait, where it is blocked
abbrev pub waiting_in : Status → Option Waiting
waiting_in (dormant at) = None
waiting_in runnable = None
waiting_in (blocked w) = Some w
waiting_in ended = None

abbrev pub is_blocked : Status → Bool
is_blocked status = is_some (waiting_in status)

-- A thread lives from its start to its end.
abbrev pub is_live : Status → Bool
is_live status = is_runnable status || is_blocked status

abbrev pub can_run : {P : Type 0} → Machine P → ℕ → Bool
can_run m t = is_runnable (thread_at m t).status

abbrev pub waiting_of : {P : Type 0} → Machine P → ℕ → Option Waiting
waiting_of m t = waiting_in (thread_at m t).status

abbrev pub lives : {P : Type 0} → Machine P → ℕ → Bool
lives m t = is_live (thread_at m t).status

-- ---- the top frame

abbrev pub top_kind : {P : Type 0} → List (Frame P) → FrameKind
top_kind [] = frame.Main
top_kind (f ∷ fs) = f.kind

-- the ticks left of the unit that it is in
abbrev pub top_left : {P : Type 0} → List (Frame P) → ℕ
top_left [] = 0
top_left (f ∷ fs) = f.left

abbrev pub top_register : {P : Type 0} → List (Frame P) → ℕ
top_register [] = 0
top_register (f ∷ fs) = f.register

-- what its last call answered
abbrev pub top_result : {P : Type 0} → List (Frame P) → Res
top_result [] = res.Zero
top_result (f ∷ fs) = f.result

abbrev pub top_value : {P : Type 0} → List (Frame P) → ℕ
top_value [] = 0
top_value (f ∷ fs) = f.value

abbrev pub is_main : FrameKind → Bool
is_main frame.Main = true
is_main frame.Cleanup = false
is_main frame.Signal = false

abbrev pub is_signal : FrameKind → Bool
is_signal frame.Main = false
is_signal frame.Cleanup = false
is_signal frame.Signal = true

-- whether a thread is in a signal-catching function
abbrev pub catches_signal : {P : Type 0} → Thread P → Bool
catches_signal th = is_signal (top_kind th.frames)

-- the number that an operand stands for in a call of t: itself, or what the register holds
abbrev pub number_of : {P : Type 0} → Machine P → ℕ → Operand → ℕ
number_of m t (operand.Num n) = n
number_of m t operand.Reg = top_register (thread_at m t).frames

-- the reading of CLOCK_REALTIME (clock_gettime)
abbrev pub real_time : {P : Type 0} → Machine P → ℕ
real_time m = m.now + m.clock.ahead - m.clock.behind

-- When an absolute time of a call of t comes, as the clocks stand: at the first instant at which its clock reads that time, and now where
-- it does or has passed (XSH 2.8.5).
abbrev pub moment_of : {P : Type 0} → Machine P → ℕ → Moment → ℕ
moment_of m t (moment.Monotonic at) = number_of m t at
moment_of m t (moment.Realtime at) = m.now + (number_of m t at - real_time m)
