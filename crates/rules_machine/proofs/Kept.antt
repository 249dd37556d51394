-- What no effect changes: the instant, the last dispatch, the kill, the quantum, the lists and the actions.
use Rattle.std.proofs.Common.{Bool, List, None, Option, Some, false, refl, true, ℕ, ◌≡◌}
use Rattle.std.specs.Prelude.{if◌then◌else◌}
use Rattle.words_numbers.specs.declared.res.Res.{Res}
use Rattle.words_trace.specs.declared.event.Event.{Event}
use Rattle.rules_server.specs.Server.{ServerState}
use Rattle.rules_machine.specs.declared.dispatch.LastDispatch.{LastDispatch}
use Rattle.rules_machine.specs.declared.signal.SigAction.{SigAction}
use Rattle.rules_machine.specs.declared.thread.CondEnd.{CondEnd}
use Rattle.rules_machine.specs.declared.thread.CondEnd.TheVariants as cond_end
use Rattle.rules_machine.specs.State.{Machine, Wait, for_mutex_again}
use Rattle.rules_machine.specs.Waiters.{Waiter, best_waiter}
use Rattle.rules_machine.specs.Turns.{Caller, Turn, changes_mutex}
use Rattle.rules_machine.specs.Servers.{activates_if, activates_server, at_once}
use Rattle.rules_machine.specs.Threads.{thread_at}
use Rattle.rules_machine.specs.Waking.{wakes, wakes_cancelled, wakes_telling}
use Rattle.rules_machine.specs.Mutexes.{LockAnswer, counts, hands_over, locks, carries_out_lock, must_wait, refused, releases, returns_from_wait, taken_by, takes, waits_for_mutex, wakes_owner}

pub record Kept : Type 0 where
  pub now : ℕ
  pub last : LastDispatch
  pub killed : Option ℕ
  pub quantum : ℕ
  pub lists : List (List ℕ)
  pub actions : List SigAction

abbrev pub kept_of : {P : Type 0} → Machine P → Kept
kept_of m = record { now = m.now; last = m.last; killed = m.killed; quantum = m.quantum; lists = m.lists; actions = m.actions }

abbrev pub kept : {P : Type 0} → Turn P → Kept
kept s = kept_of s.machine

pub if_kept : {P : Type 0} (b : Bool) (x y s : Turn P) → kept x ≡ kept s → kept y ≡ kept s → kept (if b then x else y) ≡ kept s
if_kept true x y s h k = h
if_kept false x y s h k = k

pub activates_server_kept : {P : Type 0} (t : ℕ) (server : Option ServerState) (s : Turn P) → kept (activates_server t server s) ≡ kept s
activates_server_kept t None s = refl
activates_server_kept t (Some server) s = refl

pub activates_if_kept : {P : Type 0} (b : Bool) (t : ℕ) (s : Turn P) → kept (activates_if b t s) ≡ kept s
activates_if_kept true t s = activates_server_kept t (at_once (thread_at s.machine t).server) s
activates_if_kept false t s = refl

pub wakes_telling_kept : {P : Type 0} (e : Event) (t : ℕ) (r : Res) (value : ℕ) (s : Turn P) → kept (wakes_telling e t r value s) ≡ kept s
wakes_telling_kept e t r value s = activates_server_kept t _ _

pub wakes_kept : {P : Type 0} (t : ℕ) (r : Res) (value : ℕ) (s : Turn P) → kept (wakes t r value s) ≡ kept s
wakes_kept t r value s = wakes_telling_kept _ t r value s

pub wakes_cancelled_kept : {P : Type 0} (t : ℕ) (s : Turn P) → kept (wakes_cancelled t s) ≡ kept s
wakes_cancelled_kept t s = wakes_telling_kept _ t _ _ s

pub locks_on_kept : {P : Type 0} (a : LockAnswer) (by : Caller) (k : ℕ) (due : Option ℕ) (s : Turn P) → kept (carries_out_lock a by k due s) ≡ kept s
locks_on_kept (refused r) by k due s = refl
locks_on_kept counts by k due s = refl
locks_on_kept takes by k due s = refl
locks_on_kept must_wait by k due s = refl

pub locks_kept : {P : Type 0} (by : Caller) (k : ℕ) (due : Option ℕ) (s : Turn P) → kept (locks by k due s) ≡ kept s
locks_kept by k due s = locks_on_kept _ by k due s

pub returns_from_wait_kept : {P : Type 0} (how : CondEnd) (t : ℕ) (s : Turn P) → kept (returns_from_wait how t s) ≡ kept s
returns_from_wait_kept cond_end.Signalled t s = wakes_kept t _ _ s
returns_from_wait_kept cond_end.Timedout t s = wakes_kept t _ _ s
returns_from_wait_kept cond_end.Cancelled t s = wakes_cancelled_kept t s

pub wakes_owner_kept : {P : Type 0} (wait : Wait) (t : ℕ) (s : Turn P) → kept (wakes_owner wait t s) ≡ kept s
wakes_owner_kept (for_mutex_again k how) t s = returns_from_wait_kept how t s
wakes_owner_kept _ t s = wakes_kept t _ _ s

pub hands_over_kept : {P : Type 0} (w : Option Waiter) (k : ℕ) (s : Turn P) → kept (hands_over w k s) ≡ kept s
hands_over_kept None k s = refl
hands_over_kept (Some w) k s = wakes_owner_kept w.waiting.wait w.thread (changes_mutex k (taken_by w.thread) s)

pub releases_kept : {P : Type 0} (k : ℕ) (s : Turn P) → kept (releases k s) ≡ kept s
releases_kept k s = hands_over_kept (best_waiter s.machine (waits_for_mutex k)) k s
