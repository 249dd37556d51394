-- Where a thread that can run, or waits for an instant, stands among the waiters and in the wheel.
use Rattle.std.proofs.Common.{◌≡◌, ◌<◌, ◌+◌, ◌∙◌, ℕ, List, true, false, None, Option, Some, ap, is_some, length, refl, sym}
use Rattle.rules_bodies.specs.declared.cursor.Cursor.{Cursor}
use Rattle.rules_machine.specs.Conditions.{released_mutex}
use Rattle.rules_machine.specs.Priorities.{Claim, claims, exec_in, mutex_awaited_by}
use Rattle.rules_machine.specs.State.{Status, Thread, Timer, Wait, Waiting, blocked, dormant, ended, for_condition, for_end, for_message, for_mutex, for_mutex_again, for_room, for_semaphore, for_signal, for_time, runnable}
use Rattle.rules_machine.specs.declared.thread.CondEnd.{CondEnd}
use Rattle.rules_machine.specs.Threads.{is_blocked, is_runnable, thread_in, waiting_in}
use Rattle.rules_machine.specs.Waking.{call_in, put_to_wait}
use Rattle.parts_waiters.specs.declared.Place.{Place}
use Rattle.parts_waiters.specs.Places.{place_in}
use Rattle.parts_waiters.specs.Ties.{object_of, place_at, place_of}
use Rattle.parts_owners.specs.Chains.{Links, awaited_in}
use Rattle.parts_owners.proofs.Machine.{awaited_is}
use Rattle.parts_wheel.specs.Dues.{due_of}
use Rattle.parts_bits.specs.Sets.{has}
use Rattle.kernel_threads.specs.RealDues.{real_due_in}
use Rattle.kernel_threads.specs.Sleeping.{is_for_time, waits_for_time}
use Rattle.kernel_table.specs.RealItems.{AreKept}
use Rattle.kernel_table.specs.Tied.{AreArmed, IsTied}
use Rattle.kernel_table.specs.Times.{start_of, timeout_of}

off : {X : Type 0} → false ≡ true → X
off h = absurd cc

-- ---- a thread that can run

runs_place : (status : Status) (p : ℕ) → is_runnable status ≡ true → place_of p (waiting_in status) ≡ None
runs_place (dormant at) p h = off h
runs_place runnable p h = refl
runs_place (blocked w) p h = off h
runs_place ended p h = off h

runs_unstarted : (th : Thread Cursor) → is_runnable th.status ≡ true → start_of th ≡ None
runs_unstarted th h = by_status th.status h
  where
    by_status : (status : Status) → is_runnable status ≡ true → start_of (record th { status = status }) ≡ None
    by_status (dormant at) e = off e
    by_status runnable e = refl
    by_status (blocked w) e = off e
    by_status ended e = off e

runs_unlimited : (th : Thread Cursor) → is_runnable th.status ≡ true → timeout_of th ≡ None
runs_unlimited th h = by_status th.status h
  where
    by_status : (status : Status) → is_runnable status ≡ true → timeout_of (record th { status = status }) ≡ None
    by_status (dormant at) e = off e
    by_status runnable e = refl
    by_status (blocked w) e = off e
    by_status ended e = off e

pub runner_nowhere : (threads : List (Thread Cursor)) (chain : Links) (places : List (Option Place)) (t : ℕ) → t < length threads → is_runnable (thread_in threads t).status ≡ true →
    IsTied threads chain places → place_in places t ≡ None
runner_nowhere threads chain places t known runs tied = tied.waiting.each t known ∙ runs_place (thread_in threads t).status (exec_in (claims threads) chain.mutexes t) runs

pub runner_started : (threads : List (Thread Cursor)) (timers : List Timer) (dues : List (Option ℕ)) (t : ℕ) → t < 256 → is_runnable (thread_in threads t).status ≡ true →
    AreArmed threads timers dues → due_of (256 + t) dues ≡ None
runner_started threads timers dues t small runs armed = armed.starts t small ∙ runs_unstarted (thread_in threads t) runs

pub runner_untimed : (threads : List (Thread Cursor)) (timers : List Timer) (dues : List (Option ℕ)) (t : ℕ) → t < 256 → is_runnable (thread_in threads t).status ≡ true →
    AreArmed threads timers dues → due_of (512 + t) dues ≡ None
runner_untimed threads timers dues t small runs armed = armed.timeouts t small ∙ runs_unlimited (thread_in threads t) runs

runs_unread : (status : Status) → is_runnable status ≡ true → is_some (real_due_in status) ≡ false
runs_unread (dormant at) h = off h
runs_unread runnable h = refl
runs_unread (blocked w) h = off h
runs_unread ended h = off h

pub runner_unkept : (threads : List (Thread Cursor)) (timers : List Timer) (waits expiries : List ℕ) (t : ℕ) → is_runnable (thread_in threads t).status ≡ true →
    AreKept threads timers waits expiries → has t waits ≡ false
runner_unkept threads timers waits expiries t runs kept = kept.of_threads t ∙ runs_unread (thread_in threads t).status runs

-- ---- a thread that waits for nothing but an instant

time_nowhere : (w : Wait) (p serial : ℕ) → is_for_time w ≡ true → place_at p serial (released_mutex w) (object_of w) ≡ None
time_nowhere (for_mutex k) p serial h = off h
time_nowhere (for_mutex_again k how) p serial h = off h
time_nowhere (for_condition c k) p serial h = off h
time_nowhere (for_end u) p serial h = refl
time_nowhere (for_semaphore k) p serial h = off h
time_nowhere for_time p serial h = refl
time_nowhere (for_room q message) p serial h = off h
time_nowhere (for_message q) p serial h = off h
time_nowhere (for_signal signals) p serial h = off h

sleeps_place : (o : Option Waiting) (p : ℕ) → waits_for_time o ≡ true → place_of p o ≡ None
sleeps_place None p h = refl
sleeps_place (Some w) p h = time_nowhere w.wait p w.serial h

sleeps_started : (th : Thread Cursor) → waits_for_time (waiting_in th.status) ≡ true → start_of th ≡ None
sleeps_started th h = by_status th.status h
  where
    by_status : (status : Status) → waits_for_time (waiting_in status) ≡ true → start_of (record th { status = status }) ≡ None
    by_status (dormant at) e = off e
    by_status runnable e = refl
    by_status (blocked w) e = refl
    by_status ended e = refl

pub sleeper_nowhere : (threads : List (Thread Cursor)) (chain : Links) (places : List (Option Place)) (t : ℕ) → t < length threads → waits_for_time (waiting_in (thread_in threads t).status) ≡ true →
    IsTied threads chain places → place_in places t ≡ None
sleeper_nowhere threads chain places t known sleeps tied = tied.waiting.each t known ∙ sleeps_place (waiting_in (thread_in threads t).status) (exec_in (claims threads) chain.mutexes t) sleeps

pub sleeper_started : (threads : List (Thread Cursor)) (timers : List Timer) (dues : List (Option ℕ)) (t : ℕ) → t < 256 → waits_for_time (waiting_in (thread_in threads t).status) ≡ true →
    AreArmed threads timers dues → due_of (256 + t) dues ≡ None
sleeper_started threads timers dues t small sleeps armed = armed.starts t small ∙ sleeps_started (thread_in threads t) sleeps

-- ---- a thread that is blocked, and waits again in the same call

blocked_unstarted : (th : Thread Cursor) → is_blocked th.status ≡ true → start_of th ≡ None
blocked_unstarted th h = by_status th.status h
  where
    by_status : (status : Status) → is_blocked status ≡ true → start_of (record th { status = status }) ≡ None
    by_status (dormant at) e = off e
    by_status runnable e = refl
    by_status (blocked w) e = refl
    by_status ended e = refl

pub blocked_started : (threads : List (Thread Cursor)) (timers : List Timer) (dues : List (Option ℕ)) (t : ℕ) → t < 256 → is_blocked (thread_in threads t).status ≡ true →
    AreArmed threads timers dues → due_of (256 + t) dues ≡ None
blocked_started threads timers dues t small is armed = armed.starts t small ∙ blocked_unstarted (thread_in threads t) is

-- ---- a thread that awaits a mutex

awaiting_unstarted : (th : Thread Cursor) (k : ℕ) → mutex_awaited_by th ≡ Some k → start_of th ≡ None
awaiting_unstarted th k h = by_status th.status h
  where
    by_status : (status : Status) → mutex_awaited_by (record th { status = status }) ≡ Some k → start_of (record th { status = status }) ≡ None
    by_status (dormant at) e = absurd cc
    by_status runnable e = refl
    by_status (blocked w) e = refl
    by_status ended e = refl

pub awaiting_started : (threads : List (Thread Cursor)) (timers : List Timer) (dues : List (Option ℕ)) (chain : Links) (places : List (Option Place)) (t k : ℕ) → t < 256 →
    awaited_in chain.claims t ≡ Some k → IsTied threads chain places → AreArmed threads timers dues → due_of (256 + t) dues ≡ None
awaiting_started threads timers dues chain places t k small is tied armed =
    armed.starts t small ∙ awaiting_unstarted (thread_in threads t) k (sym (awaited_is threads t) ∙ (ap (λ (cs : List Claim). awaited_in cs t) (sym tied.claims) ∙ is))

abbrev pub again : ℕ → CondEnd → ℕ → Thread Cursor → Waiting
again k how serial th = record { wait = for_mutex_again k how; serial = serial; due = None; call = call_in (waiting_in th.status) }

-- the thread that is read is that of the table
pub waits_again : (k : ℕ) (how : CondEnd) (serial : ℕ) (new th old : Thread Cursor) → new ≡ put_to_wait (again k how serial th) th → th ≡ old → new ≡ put_to_wait (again k how serial old) old
waits_again k how serial new th old is read = is ∙ ap (λ (x : Thread Cursor). put_to_wait (again k how serial x) x) read
