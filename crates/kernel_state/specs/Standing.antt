-- Where the threads stand that no settling has to look at.
use Rattle.std.specs.Prelude.{◌≡◌, ◌≤◌, ◌<◌, ℕ, List, Some, false, length, true}
use Rattle.rules_bodies.specs.declared.cursor.Cursor.{Cursor}
use Rattle.rules_lists.specs.Lists.{prio_of}
use Rattle.rules_machine.specs.State.{Machine}
use Rattle.rules_machine.specs.Threads.{is_runnable}
use Rattle.kernel_table.specs.Table.{Table, exec, thread_at}
use Rattle.parts_bits.specs.Sets.{has}

-- where it stands on a list, it can run, and the list is that of its execution priority
pub record StandsRight (table : Table) (lists : List (List ℕ)) (t : ℕ) : Type 0 where
  pub runs : (p : ℕ) → prio_of t lists ≡ Some p → is_runnable (thread_at table t).status ≡ true
  pub there : (p : ℕ) → prio_of t lists ≡ Some p → exec table t ≡ p

-- each thread that is not named stands right
pub record OthersStand (bits : List ℕ) (table : Table) (lists : List (List ℕ)) : Type 0 where
  pub every : length lists ≡ 255
  pub known : (t : ℕ) → has t bits ≡ true → t < length table.threads
  pub others : (t : ℕ) → has t bits ≡ false → StandsRight table lists t

-- those before a thread, from that number on, stand right
pub record ComesNext (table : Table) (lists : List (List ℕ)) (from t : ℕ) : Type 0 where
  pub low : from ≤ t
  pub known : t < length table.threads
  pub between : (u : ℕ) → from ≤ u → u < t → StandsRight table lists u

-- ---- the same of a machine

abbrev pub table_in : Machine Cursor → Table
table_in m = record { threads = m.threads; mutexes = m.mutexes; timers = m.timers }

abbrev pub MachineStands : Machine Cursor → ℕ → Type 0
MachineStands m t = StandsRight (table_in m) m.lists t

-- all from that number on stand right
abbrev pub StandFrom : Machine Cursor → ℕ → Type 0
StandFrom m from = (t : ℕ) → from ≤ t → MachineStands m t

abbrev pub IsNext : Machine Cursor → ℕ → ℕ → Type 0
IsNext m from t = ComesNext (table_in m) m.lists from t
