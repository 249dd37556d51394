-- What holds of the threads and of what is kept beside them: the chain has their claims, each of them that waits stands among the waiters
-- of its object at its execution priority, and the wheel has what falls due of them and of the timers.
use Rattle.std.specs.Prelude.{◌≡◌, ◌<◌, ◌≤◌, ◌+◌, ℕ, List, None, Option, length, slice_set}
use Rattle.rules_bodies.specs.declared.cursor.Cursor.{Cursor}
use Rattle.rules_machine.specs.Priorities.{claims, exec_in}
use Rattle.rules_machine.specs.State.{Mutex, Thread, Timer}
use Rattle.rules_machine.specs.Threads.{thread_in, waiting_in}
use Rattle.parts_waiters.specs.declared.Place.{Place}
use Rattle.parts_waiters.specs.Places.{place_in}
use Rattle.parts_waiters.specs.Ties.{place_of}
use Rattle.parts_owners.specs.Chains.{Links}
use Rattle.kernel_timers.specs.Timers.{timer_in}
use Rattle.parts_wheel.specs.Dues.{due_of}
use Rattle.kernel_table.specs.Times.{refill_of, start_of, timeout_of}

pub record AreWaiting (threads : List (Thread Cursor)) (mutexes : List Mutex) (places : List (Option Place)) : Type 0 where
  pub lengths : length places ≡ length threads
  pub each : (t : ℕ) → t < length threads → place_in places t ≡ place_of (exec_in (claims threads) mutexes t) (waiting_in (thread_in threads t).status)

pub record IsTied (threads : List (Thread Cursor)) (chain : Links) (places : List (Option Place)) : Type 0 where
  pub few : length threads ≤ 256
  pub claims : chain.claims ≡ claims threads
  pub waiting : AreWaiting threads chain.mutexes places

-- by the numbers of the items: refills, starts and timeouts of the threads, and the expiries of the timers, which are at most 32
pub record AreArmed (threads : List (Thread Cursor)) (timers : List Timer) (dues : List (Option ℕ)) : Type 0 where
  pub few_timers : length timers ≤ 32
  pub numbers : length dues ≡ 1024
  pub refills : (t : ℕ) → t < 256 → due_of t dues ≡ refill_of (thread_in threads t)
  pub starts : (t : ℕ) → t < 256 → due_of (256 + t) dues ≡ start_of (thread_in threads t)
  pub timeouts : (t : ℕ) → t < 256 → due_of (512 + t) dues ≡ timeout_of (thread_in threads t)
  pub expiries : (k : ℕ) → k < 256 → due_of (768 + k) dues ≡ (timer_in timers k).due

-- the items of one thread are armed anew
abbrev pub timed : ℕ → Thread Cursor → List (Option ℕ) → List (Option ℕ)
timed t th dues = slice_set (slice_set (slice_set dues t (refill_of th)) (256 + t) (start_of th)) (512 + t) (timeout_of th)

-- the refill of one thread is armed anew
abbrev pub refilling : ℕ → Thread Cursor → List (Option ℕ) → List (Option ℕ)
refilling t th dues = slice_set dues t (refill_of th)

-- a thread has started, and its wait ends then by itself; None where it waits without a limit, or not at all
abbrev pub waiting_until : ℕ → Option ℕ → List (Option ℕ) → List (Option ℕ)
waiting_until t due dues = slice_set (slice_set dues (256 + t) None) (512 + t) due

-- the expiry of one timer is armed anew
abbrev pub expiring : ℕ → Timer → List (Option ℕ) → List (Option ℕ)
expiring k timer dues = slice_set dues (768 + k) timer.due
