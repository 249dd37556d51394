-- The threads of a kernel with the mutexes and the timers, and what a thread may begin to wait for.
use Rattle.std.specs.Prelude.{◌≡◌, ◌<◌, ℕ, Bool, IsSome, List, [], None, Option, Some, false, length, option_map}
use Rattle.rules_bodies.specs.declared.cursor.Cursor.{Cursor}
use Rattle.rules_machine.specs.declared.dispatch.LastDispatch.TheVariants as last
use Rattle.rules_machine.specs.Lists.{changed_at}
use Rattle.rules_machine.specs.Priorities.{claims, exec_in}
use Rattle.rules_machine.specs.State.{Machine, Mutex, Thread, Timer, Wait}
use Rattle.rules_machine.specs.Threads.{mutex_in, no_mutex, no_thread, no_timer, thread_in}
use Rattle.rules_machine.specs.Waiters.{Waiter, best_waiter}
use Rattle.parts_owners.specs.Chains.{closes_cycle_in}

pub record Table : Type 0 where
  pub threads : List (Thread Cursor)
  pub mutexes : List Mutex
  pub timers : List Timer

abbrev pub with_thread : ℕ → (Thread Cursor → Thread Cursor) → Table → Table
with_thread t change table = record table { threads = changed_at no_thread t change table.threads }

abbrev pub with_mutex : ℕ → (Mutex → Mutex) → Table → Table
with_mutex k change table = record table { mutexes = changed_at no_mutex k change table.mutexes }

abbrev pub with_timer : ℕ → (Timer → Timer) → Table → Table
with_timer k change table = record table { timers = changed_at no_timer k change table.timers }

abbrev pub thread_at : Table → ℕ → Thread Cursor
thread_at table t = thread_in table.threads t

abbrev pub mutex_at : Table → ℕ → Mutex
mutex_at table k = mutex_in table.mutexes k

-- the execution priority
abbrev pub exec : Table → ℕ → ℕ
exec table t = exec_in (claims table.threads) table.mutexes t

-- a mutex that a thread is to await is owned, and to await it closes no cycle
abbrev pub CanAwait : Table → ℕ → Option ℕ → Type 0
CanAwait table t None = Unit {0}
CanAwait table t (Some k) = (k < length table.mutexes) × IsSome (mutex_at table k).owner × (closes_cycle_in (claims table.threads) table.mutexes t k ≡ false)

-- ---- the machine of a table

-- a machine with these threads, mutexes and timers, and nothing else
abbrev pub machine_with : List (Thread Cursor) → List Mutex → List Timer → Machine Cursor
machine_with threads mutexes timers = record {
  now = 0;
  clock = record { ahead = 0; behind = 0 };
  last = last.NoTick;
  next_serial = 0;
  killed = None;
  quantum = 0;
  lists = [];
  threads = threads;
  mutexes = mutexes;
  semaphores = [];
  queues = [];
  timers = timers;
  actions = [];
  pending = [];
}

-- the same at an instant
abbrev pub machine_at : ℕ → Table → Machine Cursor
machine_at now table = record (machine_with table.threads table.mutexes table.timers) { now = now }

-- the thread that is served first of those whose waits pass
abbrev pub best_in : Table → (Wait → Bool) → Option ℕ
best_in table passes = option_map (λ (w : Waiter). w.thread) (best_waiter (machine_with table.threads table.mutexes table.timers) passes)
