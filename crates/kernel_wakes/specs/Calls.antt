-- What a call asks of a kernel.
use Rattle.std.specs.Prelude.{◌≡◌, ℕ, ◌≤◌, ◌<◌, ◌^◌, length, true}
use Rattle.rules_bodies.specs.declared.cursor.Cursor.{Cursor}
use Rattle.words_script.specs.declared.call.Call.{Call}
use Rattle.words_script.specs.declared.call.Call.TheVariants as call
use Rattle.rules_machine.specs.State.{Thread}
use Rattle.rules_flat_code.specs.KnownCalls.{Objects}
use Rattle.rules_flat_code.specs.Runnable.{CallIsRunnable}
use Rattle.kernel_threads.specs.Handlers.{AreHandlers}
use Rattle.rules_machine.specs.Threads.{can_run, thread_at}
use Rattle.kernel_state.specs.Kernel.{Kernel}
use Rattle.kernel_state.specs.Pending.{PendingFits, SignalsFit}
use Rattle.kernel_wakes.specs.Waits.{WaitsFit}
use Rattle.kernel_wakes.specs.Joins.{JoinsFit}

-- how many objects of each kind a kernel has
abbrev pub objects_in : Kernel → Objects
objects_in k = record {
  threads = length k.names;
  cleanups = length k.code.cleanups;
  mutexes = length k.machine.mutexes;
  semaphores = length k.machine.semaphores;
  queues = length k.machine.queues;
  timers = length k.machine.timers;
}

-- there is room for one more cleanup handler that is pushed, and for the frame of one that is popped, of so many
abbrev pub HasRoomFor : ℕ → Thread Cursor → Call → Type 0
HasRoomFor n th (call.Push u) = length th.cleanups < 8
HasRoomFor n th (call.Pop runs) = AreHandlers n th.cleanups × (length th.frames ≤ 2)
HasRoomFor n th other = Unit {0}

-- a call names what there is, and there is room for what it pushes or pops
pub record CanMake (o : Objects) (th : Thread Cursor) (c : Call) : Type 0 where
  pub runnable : CallIsRunnable o c
  pub room : HasRoomFor o.cleanups th c

-- A thread that can run can make whatever call: blocked threads have used nothing, a thread that waits to join another is blocked, there
-- is a place for what becomes pending, a serial is left, and there is room for all that move.
pub record CanCall (k : Kernel) (t : ℕ) : Type 0 where
  pub known : t < length k.names
  pub runs : can_run k.machine t ≡ true
  pub threads : length k.machine.threads ≡ length k.names
  pub fits : WaitsFit k.machine
  pub joins : JoinsFit k.machine
  pub pends : PendingFits k.machine
  pub signals : SignalsFit k.machine
  pub serial : k.machine.next_serial < 2 ^ 62
  pub room : length k.direct < 128
  pub early : k.machine.now ≤ 10 ^ 18

-- a thread can make that call
pub record CanMakeCall (k : Kernel) (t : ℕ) (c : Call) : Type 0 where
  pub caller : CanCall k t
  pub can : CanMake (objects_in k) (thread_at k.machine t) c

-- a thread can start another, or give it a policy: there is room for its move, and its server can be activated
pub record CanStart (k : Kernel) (t u : ℕ) : Type 0 where
  pub known : t < length k.names
  pub thread : u < length k.names
  pub room : length k.direct < 256
  pub early : k.machine.now ≤ 10 ^ 18
