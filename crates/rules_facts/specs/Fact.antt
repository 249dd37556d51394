-- What is told of a state of the machine, fact by fact. A fact holds what its line tells, and nothing else; threads and objects are
-- named by their numbers. That these are the facts is this project's own.
use Rattle.std.specs.Prelude.{Bool, List, Option, ℕ}
use Rattle.words_numbers.specs.declared.res.Res.{Res}
use Rattle.words_numbers.specs.declared.sig_code.SigCode.{SigCode}
use Rattle.words_script.specs.declared.name_kind.NameKind.{NameKind}
use Rattle.words_trace.specs.declared.event.CallName.{CallName}
use Rattle.rules_server.specs.declared.Replenish.{Replenish}
use Rattle.rules_machine.specs.declared.frame.BodyOf.{BodyOf}
use Rattle.rules_machine.specs.State.{Message, Registration}

-- what a blocked thread waits for now: nothing but a time, a thread or an object of some kind, or a signal of a set
pub data Awaited : Type 0 where
  nothing : Awaited
  thing : NameKind → ℕ → Awaited
  one_signal_of : ℕ → Awaited

-- the call in which a thread is blocked, what it waits for, and until when where there is a limit
pub record Blocking : Type 0 where
  pub call : CallName
  pub awaited : Awaited
  pub due : Option ℕ

-- the assigned priority of a thread, and its execution priority
pub record Priorities : Type 0 where
  pub assigned : ℕ
  pub exec : ℕ

pub record Cancelability : Type 0 where
  pub is_requested : Bool
  pub is_disabled : Bool
  pub is_ending : Bool

-- who owns a mutex, and how often it has locked it
pub record Owner : Type 0 where
  pub thread : ℕ
  pub count : ℕ

-- when an armed timer is due, and its interval
pub record Arming : Type 0 where
  pub due : ℕ
  pub interval : ℕ

-- a pending signal; without a target it is for the process
pub record Pending : Type 0 where
  pub code : SigCode
  pub value : ℕ
  pub target : Option ℕ

pub data Fact : Type 0 where
  -- of a priority, the threads on its list, the head first
  on_list : ℕ → List ℕ → Fact
  -- of a thread, whether it has started and ended, or its priorities, and what it waits for where it is blocked
  dormant_thread : ℕ → Fact
  ended_thread : ℕ → Fact
  ready_thread : ℕ → Priorities → Fact
  blocked_thread : ℕ → Priorities → Blocking → Fact
  -- of a thread, whose bodies it runs above its own, the innermost first
  inner_frames : ℕ → List BodyOf → Fact
  masked : ℕ → ℕ → Fact
  cancelability : ℕ → Cancelability → Fact
  -- of a thread, its cleanup handlers, the last one pushed first
  pushed_cleanups : ℕ → List ℕ → Fact
  -- of a thread, what its server has planned, the oldest first
  replenishments : ℕ → List Replenish → Fact
  owner : ℕ → Option Owner → Fact
  -- of a mutex, a condition or a semaphore, who waits for it, in the order of service
  waiters_of : NameKind → ℕ → List ℕ → Fact
  semaphore_value : ℕ → ℕ → Fact
  -- of a queue, its messages in the order in which they are received, who waits in the order of service, and whom a message tells
  messages_of : ℕ → List Message → Fact
  senders_of : ℕ → List ℕ → Fact
  receivers_of : ℕ → List ℕ → Fact
  registration_of : ℕ → Option Registration → Fact
  arming_of : ℕ → Option Arming → Fact
  -- of a signal, its records in the order in which they became pending
  pending_signals : ℕ → List Pending → Fact

-- what changes at each tick, of a thread that lives
pub data Number : Type 0 where
  -- its ticks, and of its top frame the register and the last call's result and value
  counted : ℕ → ℕ → ℕ → Res → ℕ → Number
  -- the ticks left of the unit that it has begun
  left_of_unit : ℕ → ℕ → Number
  -- what its round robin interval has used
  used_of_slice : ℕ → ℕ → Number
  -- of its server the capacity, the ticks used since the last plan, the activation time, and both totals
  budget : ℕ → ℕ → ℕ → ℕ → ℕ → ℕ → Number
