-- The state of the machine as plain data. Nothing stands here that can be derived from the rest, and each part of the
-- simulated kernel has a field of its own. What a field means is the standard's; that these are the fields is this project's own.
--
-- P is the type of a place in a body. A kernel over flat code has cursors there, and the definition of a run has paths in a tree.
use Rattle.std.specs.Prelude.{Bool, List, Option, ℕ}
use Rattle.words_numbers.specs.declared.res.Res.{Res}
use Rattle.words_numbers.specs.declared.sig_code.SigCode.{SigCode}
use Rattle.words_script.specs.declared.call.Call.{Call}
use Rattle.words_script.specs.declared.policy.Policy.{Policy}
use Rattle.words_script.specs.declared.policy.Protocol.{Protocol}
use Rattle.rules_server.specs.Server.{ServerState}
use Rattle.rules_machine.specs.declared.dispatch.LastDispatch.{LastDispatch}
use Rattle.rules_machine.specs.declared.frame.BodyOf.{BodyOf}
use Rattle.rules_machine.specs.declared.frame.FrameKind.{FrameKind}
use Rattle.rules_machine.specs.declared.signal.SigAction.{SigAction}
use Rattle.rules_machine.specs.declared.thread.CondEnd.{CondEnd}

-- a body that a thread is in: where it is, what its register holds, what its last call answered, and how many ticks of
-- the present unit are left
pub record Frame (P : Type 0) : Type 0 where
  pub kind : FrameKind
  pub body : BodyOf
  pub place : P
  pub register : ℕ
  pub result : Res
  pub value : ℕ
  pub left : ℕ

-- a message of a queue, XSH mq_send: its bytes are one number here
pub record Message : Type 0 where
  pub priority : ℕ
  pub value : ℕ

-- what a blocked thread waits for
pub data Wait : Type 0 where
  for_mutex : ℕ → Wait
  -- the mutex of its condition wait, which has ended (pthread_cond_wait returns with the mutex owned)
  for_mutex_again : ℕ → CondEnd → Wait
  -- a condition, with the mutex that it released for it
  for_condition : ℕ → ℕ → Wait
  -- that a thread ends
  for_end : ℕ → Wait
  for_semaphore : ℕ → Wait
  for_time : Wait
  -- room in a queue for its message
  for_room : ℕ → Message → Wait
  for_message : ℕ → Wait
  -- a signal of a set
  for_signal : ℕ → Wait

-- a wait: for what, since which serial, until when where there is a limit, and in which call
pub record Waiting : Type 0 where
  pub wait : Wait
  pub serial : ℕ
  pub due : Option ℕ
  pub call : Call

-- A thread is dormant until it starts, and then it may have a tick to start at; it is runnable or blocked while it lives.
pub data Status : Type 0 where
  dormant : Option ℕ → Status
  runnable : Status
  blocked : Waiting → Status
  ended : Status

-- who joins a thread, XSH pthread_join: nobody yet, a thread that waits for its end, or one that has joined it
pub data Joiner : Type 0 where
  nobody : Joiner
  waits_to_join : ℕ → Joiner
  has_joined : Joiner

-- a thread: `frames` has the top frame first, `cleanups` the cleanup handler that was pushed last
pub record Thread (P : Type 0) : Type 0 where
  pub status : Status
  pub policy : Policy
  pub server : Option ServerState
  -- the ticks of its round robin interval that it has run
  pub slice : ℕ
  -- all ticks that it has run
  pub ticks : ℕ
  -- the signals that it blocks
  pub mask : ℕ
  pub frames : List (Frame P)
  -- cancellation, XSH 2.9.5: asked for, enabled, and acting
  pub is_requested : Bool
  pub is_enabled : Bool
  pub is_ending : Bool
  pub cleanups : List ℕ
  pub exit_value : ℕ
  pub joiner : Joiner

pub record Mutex : Type 0 where
  pub protocol : Protocol
  pub is_recursive : Bool
  pub owner : Option ℕ
  -- how often its owner has locked it
  pub count : ℕ

-- a notification that is asked for, XSH mq_notify
pub record Registration : Type 0 where
  pub signal : ℕ
  pub value : ℕ

-- a message queue; `messages` has the oldest first, whatever its priority
pub record Queue : Type 0 where
  pub depth : ℕ
  pub longest : ℕ
  pub is_nonblock : Bool
  pub messages : List Message
  pub registration : Option Registration

-- an interval timer, XSH timer_create and timer_settime: the expiries since its signal became pending, and those that were
-- told with the last one
pub record Timer : Type 0 where
  pub signal : ℕ
  pub value : ℕ
  -- whether its clock is CLOCK_REALTIME
  pub is_real : Bool
  pub due : Option ℕ
  -- whether that is when its clock reads the time that it was set to
  pub is_reading : Bool
  pub interval : ℕ
  pub extra : ℕ
  pub overrun : ℕ

-- a generated signal; without a target it is for the process, XSH 2.4.1
pub record SignalRecord : Type 0 where
  pub signal : ℕ
  pub code : SigCode
  pub value : ℕ
  pub target : Option ℕ
  pub timer : Option ℕ
  pub queue : Option ℕ
  pub serial : ℕ

-- how far CLOCK_REALTIME is ahead of CLOCK_MONOTONIC, and how far behind: at most one of them is above 0
pub record Clock : Type 0 where
  pub ahead : ℕ
  pub behind : ℕ

-- the whole machine at an instant
pub record Machine (P : Type 0) : Type 0 where
  -- the reading of CLOCK_MONOTONIC
  pub now : ℕ
  pub clock : Clock
  pub last : LastDispatch
  pub next_serial : ℕ
  -- the signal that ended the process
  pub killed : Option ℕ
  -- the round robin interval
  pub quantum : ℕ
  -- the lists of runnable threads, the lowest priority first
  pub lists : List (List ℕ)
  pub threads : List (Thread P)
  pub mutexes : List Mutex
  -- the values of the semaphores
  pub semaphores : List ℕ
  pub queues : List Queue
  pub timers : List Timer
  -- what each signal does
  pub actions : List SigAction
  -- the pending signals
  pub pending : List SignalRecord
