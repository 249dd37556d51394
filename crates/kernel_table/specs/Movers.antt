-- Whose execution priority a call changed.
use Rattle.std.specs.Prelude.{◌≡◌, ◌≢◌, ◌<◌, ◌==◌, ℕ, None, Option, Some, false, length, option_and_then, if◌then◌else◌}
use Rattle.rules_bodies.specs.declared.cursor.Cursor.{Cursor}
use Rattle.rules_machine.specs.Lists.{is}
use Rattle.rules_machine.specs.State.{Thread, Waiting}
use Rattle.rules_machine.specs.Threads.{waiting_in}
use Rattle.parts_waiters.specs.declared.WaitObj.{WaitObj}
use Rattle.parts_waiters.specs.Ties.{object_of}
use Rattle.kernel_table.specs.Table.{Table, exec, thread_at}

-- the object among whose waiters a thread stands; None of each thread that can run
abbrev pub object_awaited : Thread Cursor → Option WaitObj
object_awaited th = option_and_then (λ (w : Waiting). object_of w.wait) (waiting_in th.status)

-- a thread that stands among no waiters
pub record IsFree (table : Table) (t : ℕ) : Type 0 where
  pub known : t < length table.threads
  pub nowhere : object_awaited (thread_at table t) ≡ None

-- a thread that stands among no waiters, whose execution priority changed, and that no other such one did
pub record HasMoved (old new : Table) (m : ℕ) : Type 0 where
  pub free : IsFree new m
  pub changed : exec new m ≢ exec old m
  pub others : (u : ℕ) → IsFree new u → u ≢ m → exec new u ≡ exec old u

-- what is told of a change: the one thread that stands among no waiters and whose execution priority changed, None exactly where there
-- is none
abbrev pub TellsMoved : Table → Table → Option ℕ → Type 0
TellsMoved old new None = (u : ℕ) → IsFree new u → exec new u ≡ exec old u
TellsMoved old new (Some m) = HasMoved old new m

-- the same beside a thread, of which nothing is told
pub record HasMovedBeside (t : ℕ) (old new : Table) (m : ℕ) : Type 0 where
  pub other : m ≢ t
  pub free : IsFree new m
  pub changed : exec new m ≢ exec old m
  pub others : (u : ℕ) → IsFree new u → u ≢ t → u ≢ m → exec new u ≡ exec old u

abbrev pub TellsMovedBeside : ℕ → Table → Table → Option ℕ → Type 0
TellsMovedBeside t old new None = (u : ℕ) → IsFree new u → u ≢ t → exec new u ≡ exec old u
TellsMovedBeside t old new (Some m) = HasMovedBeside t old new m

-- where it is another thread
abbrev pub beside : ℕ → Option ℕ → Option ℕ
beside t None = None
beside t (Some u) = if u == t then None else Some u

-- each thread has the execution priority that it had
abbrev pub KeepsExec : Table → Table → Type 0
KeepsExec old new = (u : ℕ) → u < length old.threads → exec new u ≡ exec old u

-- ---- a change, and whose execution priority it changed

-- nobody's
pub record KeepsPriorities (change : Table → Table) (old new : Table) : Type 0 where
  pub table : new ≡ change old
  pub same : KeepsExec old new

-- that of one thread that stands among no waiters, or of none
pub record MovesPriority (change : Table → Table) (old new : Table) (m : Option ℕ) : Type 0 where
  pub table : new ≡ change old
  pub moved : TellsMoved old new m

-- that of one such thread beside t, or of none
pub record MovesPriorityBeside (t : ℕ) (change : Table → Table) (old new : Table) (m : Option ℕ) : Type 0 where
  pub table : new ≡ change old
  pub moved : TellsMovedBeside t old new m

-- ---- two threads at once

-- each thread that stands among no waiters has the execution priority that it had, but for t and for those that are told
abbrev pub KeepsOthers : ℕ → Option ℕ → Option ℕ → Table → Table → Type 0
KeepsOthers t a b old new = (u : ℕ) → IsFree new u → u ≢ t → is a u ≡ false → is b u ≡ false → exec new u ≡ exec old u
