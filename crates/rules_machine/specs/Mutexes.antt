-- Mutexes: XSH 2.9.3, pthread_mutex_lock, pthread_mutex_timedlock, pthread_mutex_unlock. This project's own are the test of a
-- cycle, and that an unlocked mutex is handed to its best waiter at once.
use Rattle.std.specs.Prelude.{Bool, List, None, Option, Some, false, filter, is_none, length, nat_lt, not, option_and_then, suc, true, zero, ℕ, ◌+◌, ◌-◌, ◌==◌, ◌||◌, if◌then◌else◌}
use Rattle.std.specs.List.{list_any}
use Rattle.words_numbers.specs.declared.res.Res.{Res}
use Rattle.words_numbers.specs.declared.res.Res.TheVariants as res
use Rattle.words_script.specs.declared.policy.Protocol.{Protocol}
use Rattle.words_script.specs.declared.policy.Protocol.TheVariants as protocol
use Rattle.rules_machine.specs.declared.thread.CondEnd.{CondEnd}
use Rattle.rules_machine.specs.declared.thread.CondEnd.TheVariants as cond_end
use Rattle.rules_machine.specs.Lists.{is}
use Rattle.rules_machine.specs.State.{Machine, Mutex, Thread, Wait, for_mutex, for_mutex_again}
use Rattle.rules_machine.specs.Threads.{mutex_at, mutex_in, thread_at, thread_in}
use Rattle.rules_machine.specs.Priorities.{assigned_of, mutex_awaited_by, mutex_waited}
use Rattle.rules_machine.specs.Waiters.{Waiter, best_waiter}
use Rattle.rules_machine.specs.Turns.{Caller, Turn, changes_mutex, is_late, moves_if, returns, ◌▷◌}
use Rattle.rules_machine.specs.Waking.{blocks, wakes, wakes_cancelled}

-- ---- owners

abbrev pub taken_by : ℕ → Mutex → Mutex
taken_by t k = record k { owner = Some t; count = 1 }

abbrev pub counted_up : Mutex → Mutex
counted_up k = record k { count = k.count + 1 }

abbrev pub counted_down : Mutex → Mutex
counted_down k = record k { count = k.count - 1 }

abbrev pub freed : Mutex → Mutex
freed k = record k { owner = None; count = 0 }

abbrev pub owns : {P : Type 0} → Machine P → ℕ → ℕ → Bool
owns m t k = is (mutex_at m k).owner t

abbrev pub is_free : {P : Type 0} → Machine P → ℕ → Bool
is_free m k = is_none (mutex_at m k).owner

abbrev pub owned_by : {P : Type 0} → Machine P → ℕ → List Mutex
owned_by m t = filter (λ (k : Mutex). is k.owner t) m.mutexes

-- whether a mutex of the protocol can raise its owner's priority
abbrev pub is_boosting : Protocol → Bool
is_boosting protocol.Plain = false
is_boosting protocol.Inherit = true
is_boosting (protocol.Protect p) = true

abbrev pub owns_boosting : {P : Type 0} → Machine P → ℕ → Bool
owns_boosting m t = list_any (λ (k : Mutex). is_boosting k.protocol) (owned_by m t)

-- PTHREAD_PRIO_INHERIT and PTHREAD_PRIO_PROTECT: an owner of such a mutex is not moved to the tail of its list when its
-- scheduling parameters change
abbrev pub moves_unless_boosted : {P : Type 0} → ℕ → Turn P → Turn P
moves_unless_boosted t s = moves_if (not (owns_boosting s.machine t)) t s

-- ---- refusals

-- EINVAL of pthread_mutex_lock: PTHREAD_PRIO_PROTECT, and the caller's priority is higher than the ceiling; that it is the
-- assigned priority is this project's own
abbrev pub is_above_ceiling : {P : Type 0} → Thread P → Protocol → Bool
is_above_ceiling th protocol.Plain = false
is_above_ceiling th protocol.Inherit = false
is_above_ceiling th (protocol.Protect ceiling) = nat_lt ceiling (assigned_of th)

module _ {P : Type 0} (threads : List (Thread P)) (mutexes : List Mutex) where
  abbrev pub owner_of_awaited : Option ℕ → Option ℕ
  owner_of_awaited awaited = option_and_then (λ (k : ℕ). (mutex_in mutexes k).owner) awaited

  -- whether owners and their mutex waits lead from a mutex to the thread in at most so many steps
  abbrev pub leads_within : ℕ → Option ℕ → ℕ → Bool
  leads_within zero awaited t = false
  leads_within (suc steps) awaited t =
      is (owner_of_awaited awaited) t || leads_within steps (option_and_then (λ (u : ℕ). mutex_awaited_by (thread_in threads u)) (owner_of_awaited awaited)) t

-- EDEADLK of pthread_mutex_lock, a deadlock condition: to wait for the mutex would close a cycle
abbrev pub closes_cycle : {P : Type 0} → Machine P → ℕ → ℕ → Bool
closes_cycle m k t = leads_within m.threads m.mutexes (length m.threads) (Some k) t

-- how a lock comes out
pub data LockAnswer : Type 0 where
  refused : Res → LockAnswer
  -- it is the caller's already, and is counted once more
  counts : LockAnswer
  -- it was free
  takes : LockAnswer
  must_wait : LockAnswer

-- how often an owner may lock a recursive mutex
abbrev pub recursion_limit : ℕ
recursion_limit = 65_535

-- a lock by the owner: EDEADLK or EBUSY unless the mutex is recursive, and EAGAIN at the greatest count
abbrev pub locked_again : Mutex → Res → LockAnswer
locked_again k otherwise = if not k.is_recursive then refused otherwise else if k.count == recursion_limit then refused res.Again else counts

-- pthread_mutex_lock, and with a time pthread_mutex_timedlock, whose ETIMEDOUT only a lock that must wait can get
abbrev pub lock_answer : {P : Type 0} → Machine P → ℕ → ℕ → Option ℕ → LockAnswer
lock_answer m t k due =
    if is_above_ceiling (thread_at m t) (mutex_at m k).protocol then refused res.Inval
    else if owns m t k then locked_again (mutex_at m k) res.Deadlk
    else if is_free m k then takes
    else if closes_cycle m k t then refused res.Deadlk
    else if is_late due m then refused res.Timedout
    else must_wait

-- pthread_mutex_trylock: EBUSY in the place of EDEADLK and of waiting
abbrev pub trylock_answer : {P : Type 0} → Machine P → ℕ → ℕ → LockAnswer
trylock_answer m t k =
    if is_above_ceiling (thread_at m t) (mutex_at m k).protocol then refused res.Inval
    else if owns m t k then locked_again (mutex_at m k) res.Busy
    else if is_free m k then takes
    else refused res.Busy

-- ---- locking

abbrev pub carries_out_lock : {P : Type 0} → LockAnswer → Caller → ℕ → Option ℕ → Turn P → Turn P
carries_out_lock (refused result) by k due s = returns by result 0 s
carries_out_lock counts by k due s = s ▷ changes_mutex k counted_up ▷ returns by res.Zero 0
carries_out_lock takes by k due s = s ▷ changes_mutex k (taken_by by.thread) ▷ returns by res.Zero 0
carries_out_lock must_wait by k due s = blocks by (for_mutex k) due s

-- pthread_mutex_lock, and with a time pthread_mutex_timedlock
abbrev pub locks : {P : Type 0} → Caller → ℕ → Option ℕ → Turn P → Turn P
locks by k due s = carries_out_lock (lock_answer s.machine by.thread k due) by k due s

-- pthread_mutex_trylock
abbrev pub tries_lock : {P : Type 0} → Caller → ℕ → Turn P → Turn P
tries_lock by k s = carries_out_lock (trylock_answer s.machine by.thread k) by k None s

-- ---- unlocking

-- a condition wait is over, with the mutex owned again
abbrev pub returns_from_wait : {P : Type 0} → CondEnd → ℕ → Turn P → Turn P
returns_from_wait cond_end.Signalled t s = wakes t res.Zero 0 s
returns_from_wait cond_end.Timedout t s = wakes t res.Timedout 0 s
returns_from_wait cond_end.Cancelled t s = wakes_cancelled t s

-- a waiter wakes that owns its mutex now
abbrev pub wakes_owner : {P : Type 0} → Wait → ℕ → Turn P → Turn P
wakes_owner (for_mutex_again k how) t s = returns_from_wait how t s
wakes_owner wait t s = wakes t res.Zero 0 s

abbrev pub waits_for_mutex : ℕ → Wait → Bool
waits_for_mutex k wait = is (mutex_waited wait) k

abbrev pub hands_over : {P : Type 0} → Option Waiter → ℕ → Turn P → Turn P
hands_over None k s = changes_mutex k freed s
hands_over (Some w) k s = s ▷ changes_mutex k (taken_by w.thread) ▷ wakes_owner w.waiting.wait w.thread

-- the mutex is handed to its best waiter, or is free
abbrev pub releases : {P : Type 0} → ℕ → Turn P → Turn P
releases k s = hands_over (best_waiter s.machine (waits_for_mutex k)) k s

-- pthread_mutex_unlock
abbrev pub unlocks : {P : Type 0} → Caller → ℕ → Turn P → Turn P
unlocks by k s =
    if not (owns s.machine by.thread k) then returns by res.Perm 0 s
    else if nat_lt 1 (mutex_at s.machine k).count then (s ▷ returns by res.Zero 0 ▷ changes_mutex k counted_down)
    else (s ▷ returns by res.Zero 0 ▷ releases k)
