-- What calls count on, beside the objects that they name. This project's own.
use Rattle.std.specs.Prelude.{◌≡◌, ◌≤◌, ◌<◌, ◌^◌, ℕ, Some, length, true}
use Rattle.rules_bodies.specs.declared.cursor.Cursor.{Cursor}
use Rattle.rules_machine.specs.State.{Machine, Thread}
use Rattle.rules_machine.specs.Threads.{can_run, is_blocked, mutex_at, thread_at}
use Rattle.kernel_threads.specs.Unused.{IsUnused}
use Rattle.kernel_state.specs.Kernel.{Kernel}

-- the server of a thread that waits has consumed nothing that is not planned
abbrev pub RestsBlocked : Thread Cursor → Type 0
RestsBlocked th = is_blocked th.status ≡ true → IsUnused th.server

-- nor has that of any thread
abbrev pub AllRest : Machine Cursor → Type 0
AllRest m = (u : ℕ) → RestsBlocked (thread_at m u)

-- a thread that can run
pub record IsRunning (k : Kernel) (t : ℕ) : Type 0 where
  pub known : t < length k.names
  pub runs : can_run k.machine t ≡ true

-- the server of a thread can be activated
pub record CanActivate (k : Kernel) (t : ℕ) : Type 0 where
  pub known : t < length k.names
  pub unused : IsUnused (thread_at k.machine t).server
  pub early : k.machine.now ≤ 10 ^ 18

-- a thread can be started: there is room for its move
pub record CanBeStarted (k : Kernel) (t : ℕ) : Type 0 where
  pub known : t < length k.names
  pub room : length k.direct < 512
  pub early : k.machine.now ≤ 10 ^ 18

-- the mutex k is there, and is that thread's
pub record IsOwner (m : Machine Cursor) (k owner : ℕ) : Type 0 where
  pub mutex : k < length m.mutexes
  pub owned : (mutex_at m k).owner ≡ Some owner

-- it can wait: a serial is left
pub record CanBlock (k : Kernel) (t : ℕ) : Type 0 where
  pub known : t < length k.names
  pub runs : can_run k.machine t ≡ true
  pub serial : k.machine.next_serial < 2 ^ 63

-- a thread that is woken has room for its move, and its server can be activated
pub record CanRise (k : Kernel) (t : ℕ) : Type 0 where
  pub known : t < length k.names
  pub room : length k.direct < 512
  pub unused : IsUnused (thread_at k.machine t).server
  pub early : k.machine.now ≤ 10 ^ 18

-- threads that wait can be woken
pub record CanWake (k : Kernel) : Type 0 where
  pub room : length k.direct < 512
  pub rests : AllRest k.machine
  pub early : k.machine.now ≤ 10 ^ 18
