-- The threads and the timers that hold a reading of CLOCK_REALTIME, which a setting of the clock moves.
use Rattle.std.specs.Prelude.{◌≡◌, ◌<◌, ◌≤◌, Bool, List, false, is_some, true, ℕ}
use Rattle.rules_bodies.specs.declared.cursor.Cursor.{Cursor}
use Rattle.rules_machine.specs.State.{Thread, Timer}
use Rattle.rules_machine.specs.Threads.{thread_in}
use Rattle.kernel_threads.specs.RealDues.{real_due_if, real_due_in}
use Rattle.kernel_timers.specs.Timers.{timer_in}
use Rattle.parts_bits.specs.Sets.{has}
use Rattle.kernel_table.specs.Table.{Table, thread_at}

-- whether the wait of a thread ends by itself when the clock reads a time
abbrev pub waits_for_reading : Thread Cursor → Bool
waits_for_reading th = is_some (real_due_in th.status)

-- whether a timer expires next when the clock reads a time
abbrev pub expires_at_reading : Timer → Bool
expires_at_reading k = is_some (real_due_if k.due k.is_reading)

-- the numbers of just these are kept
pub record AreKept (threads : List (Thread Cursor)) (timers : List Timer) (waits expiries : List ℕ) : Type 0 where
  pub of_threads : (t : ℕ) → has t waits ≡ waits_for_reading (thread_in threads t)
  pub of_timers : (k : ℕ) → has k expiries ≡ expires_at_reading (timer_in timers k)

-- ---- one after another

-- no thread from there on waits for a reading
abbrev pub NoWaitFrom : Table → ℕ → Type 0
NoWaitFrom table from = (u : ℕ) → from ≤ u → waits_for_reading (thread_at table u) ≡ false

-- the first thread from there on that does
pub record IsFirstWait (table : Table) (from t : ℕ) : Type 0 where
  pub low : from ≤ t
  pub itself : waits_for_reading (thread_at table t) ≡ true
  pub between : (u : ℕ) → from ≤ u → u < t → waits_for_reading (thread_at table u) ≡ false

-- no timer from there on expires at a reading
abbrev pub NoExpiryFrom : Table → ℕ → Type 0
NoExpiryFrom table from = (j : ℕ) → from ≤ j → expires_at_reading (timer_in table.timers j) ≡ false

-- the first timer from there on that does
pub record IsFirstExpiry (table : Table) (from k : ℕ) : Type 0 where
  pub low : from ≤ k
  pub itself : expires_at_reading (timer_in table.timers k) ≡ true
  pub between : (j : ℕ) → from ≤ j → j < k → expires_at_reading (timer_in table.timers j) ≡ false
