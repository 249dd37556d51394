-- How the places are those of the machine's waits.
use Rattle.std.specs.Prelude.{Bool, List, None, Option, Some, false, length, option_map, slice_index_or, ℕ, ◌≡◌, ◌<◌}
use Rattle.rules_bodies.specs.declared.cursor.Cursor.{Cursor}
use Rattle.rules_machine.specs.State.{Machine, SignalRecord, Wait, Waiting, for_condition, for_end, for_message, for_mutex, for_mutex_again, for_room, for_semaphore, for_signal, for_time}
use Rattle.rules_machine.specs.Threads.{waiting_of}
use Rattle.rules_machine.specs.Conditions.{released_mutex}
use Rattle.rules_machine.specs.Priorities.{exec}
use Rattle.rules_machine.specs.Signals.{acceptor}
use Rattle.rules_machine.specs.Waiters.{Waiter, best_waiter}
use Rattle.parts_waiters.specs.declared.Place.{Place}
use Rattle.parts_waiters.specs.declared.WaitObj.{WaitObj}
use Rattle.parts_waiters.specs.declared.WaitObj.TheVariants.{Cond, Mutex, Receiver, Sem, Sender, SigWait}
use Rattle.parts_waiters.specs.Places.{best_for, best_of, place_in, same_object}

-- the object of a wait; None for one that has no order
abbrev pub object_of : Wait → Option WaitObj
object_of (for_mutex k) = Some (Mutex k)
object_of (for_mutex_again k how) = Some (Mutex k)
object_of (for_condition c k) = Some (Cond c)
object_of (for_end u) = None
object_of (for_semaphore k) = Some (Sem k)
object_of for_time = None
object_of (for_room q message) = Some (Sender q)
object_of (for_message q) = Some (Receiver q)
object_of (for_signal signals) = Some SigWait

abbrev pub is_object : WaitObj → Option WaitObj → Bool
is_object obj None = false
is_object obj (Some o) = same_object o obj

-- the mutex of a condition's wait, and 0 of any other
abbrev pub released_or_zero : Option ℕ → ℕ
released_or_zero None = 0
released_or_zero (Some k) = k

abbrev pub place_at : ℕ → ℕ → Option ℕ → Option WaitObj → Option Place
place_at priority serial released None = None
place_at priority serial released (Some obj) = Some (record { object = obj; priority = priority; serial = serial; released = released_or_zero released })

abbrev pub place_of : ℕ → Option Waiting → Option Place
place_of priority None = None
place_of priority (Some w) = place_at priority w.serial (released_mutex w.wait) (object_of w.wait)

-- each thread waits as in the machine, at its execution priority
pub record AreWaits {P : Type 0} (m : Machine P) (places : List (Option Place)) : Type 0 where
  pub lengths : length places ≡ length m.threads
  pub each : (t : ℕ) → t < length m.threads → place_in places t ≡ place_of (exec m t) (waiting_of m t)

-- of each thread that waits for signals, the set is the one that it waits for
abbrev pub AreSets : {P : Type 0} → Machine P → List ℕ → Type 0
AreSets m sets = (t : ℕ) (w : Waiting) (set : ℕ) → waiting_of m t ≡ Some w → w.wait ≡ for_signal set → slice_index_or sets t 0 ≡ set

-- where the places are those of a machine's waits, the thread that is served first is its best waiter
abbrev pub BestsAreWaiters : List (Option Place) → Type 0
BestsAreWaiters places = (m : Machine Cursor) (obj : WaitObj) (passes : Wait → Bool) → ((w : Wait) → passes w ≡ is_object obj (object_of w)) → AreWaits m places →
    best_of obj places ≡ option_map (λ (w : Waiter). w.thread) (best_waiter m passes)

-- and where the sets are those of its waits too, the one that is served first of those that wait for a signal is the one that
-- accepts it, where it is for the process
abbrev pub BestsAreAcceptors : List (Option Place) → Type 0
BestsAreAcceptors places = (m : Machine Cursor) (r : SignalRecord) (sets : List ℕ) → r.target ≡ None → AreWaits m places → AreSets m sets →
    best_for r.signal sets places ≡ option_map (λ (w : Waiter). w.thread) (acceptor m r)
