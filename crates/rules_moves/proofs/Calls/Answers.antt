-- What the answers of calls say of the machine.
use Rattle.std.proofs.Common.{Bool, List, None, Option, Some, [], ap, arith, false, refl, suc, true, zero, ℕ, ◌+◌, ◌∷◌, ◌≡◌}
use Rattle.std.specs.Prelude.{filter, filter_map, is_none, not, option_and_then, ◌==◌, if◌then◌else◌}
use Rattle.std.specs.Option.{option_map_or}
use mathlib.Core.Path.{◌∙◌}
use Rattle.words_numbers.specs.declared.res.Res.TheVariants as res
use Rattle.rules_machine.specs.Lists.{changed_at, first_by, is, kept_if, numbers_from, numbers_where}
use Rattle.rules_machine.specs.State.{Machine, SignalRecord, Status, Thread, Wait, Waiting, blocked, dormant, ended, for_condition, for_end, for_message, for_mutex, for_mutex_again, for_room, for_semaphore, for_signal, for_time, runnable}
use Rattle.rules_machine.specs.Threads.{is_blocked, mutex_at, no_thread, thread_at, waiting_in, waiting_of}
use Rattle.rules_machine.specs.Priorities.{claim_of, exec}
use Rattle.rules_machine.specs.Waiters.{Waiter, is_served_before, waiter_of, waiters, waits_so}
use Rattle.rules_machine.specs.Turns.{is_late, with_thread}
use Rattle.rules_machine.specs.Mutexes.{LockAnswer, closes_cycle, counts, is_above_ceiling, is_free, lock_answer, locked_again, must_wait, owns, recursion_limit, refused, takes, trylock_answer}
use Rattle.rules_machine.specs.Conditions.{released_mutex}
use Rattle.rules_machine.specs.Signals.{acceptor, accepts, may_go_to}
use Rattle.rules_machine.specs.GoodState.{is_in_condition_wait}
use Rattle.rules_machine.proofs.ExecSame.{exec_same}
use Rattle.rules_machine.proofs.Reading.{changed-keeps}
use Rattle.rules_moves.proofs.Waiters.Best.{Each, WaitsSo, all_pass, each_waiter, first_one}

-- ---- locks

abbrev pub MayLock : {P : Type 0} → Machine P → ℕ → ℕ → LockAnswer → Type 0
MayLock m t k (refused r) = Unit {0}
MayLock m t k counts = is_free m k ≡ false
MayLock m t k takes = Unit {0}
MayLock m t k must_wait = (is_free m k ≡ false) × (closes_cycle m k t ≡ false)

owned_not_free : (o : Option ℕ) (t : ℕ) → is o t ≡ true → is_none o ≡ false
owned_not_free None t e = absurd (grind arith)
owned_not_free (Some u) t e = refl

module _ {P : Type 0} (m : Machine P) (t k : ℕ) where
  again_may : (a b : Bool) (otherwise : LockAnswer) → is_free m k ≡ false → MayLock m t k otherwise → MayLock m t k (if a then otherwise else if b then refused res.Again else counts)
  again_may true b otherwise e h = h
  again_may false true otherwise e h = tt
  again_may false false otherwise e h = e

  lock_by : (above owned free cycle late : Bool) → (owned ≡ true → is_free m k ≡ false) → is_free m k ≡ free → closes_cycle m k t ≡ cycle →
      MayLock m t k (if above then refused res.Inval else if owned then locked_again (mutex_at m k) res.Deadlk else if free then takes else if cycle then refused res.Deadlk else if late then refused res.Timedout else must_wait)
  lock_by true owned free cycle late h e c = tt
  lock_by false true free cycle late h e c = again_may (not (mutex_at m k).is_recursive) ((mutex_at m k).count == recursion_limit) (refused res.Deadlk) (h refl) tt
  lock_by false false true cycle late h e c = tt
  lock_by false false false true late h e c = tt
  lock_by false false false false true h e c = tt
  lock_by false false false false false h e c = (e, c)

  pub lock_may : (due : Option ℕ) → MayLock m t k (lock_answer m t k due)
  lock_may due = lock_by (is_above_ceiling (thread_at m t) (mutex_at m k).protocol) (owns m t k) (is_free m k) (closes_cycle m k t) (is_late due m) (owned_not_free (mutex_at m k).owner t) refl refl

  trylock_by : (above owned free : Bool) → (owned ≡ true → is_free m k ≡ false) →
      MayLock m t k (if above then refused res.Inval else if owned then locked_again (mutex_at m k) res.Busy else if free then takes else refused res.Busy)
  trylock_by true owned free h = tt
  trylock_by false true free h = again_may (not (mutex_at m k).is_recursive) ((mutex_at m k).count == recursion_limit) (refused res.Busy) (h refl) tt
  trylock_by false false true h = tt
  trylock_by false false false h = tt

  pub trylock_may : MayLock m t k (trylock_answer m t k)
  trylock_may = trylock_by (is_above_ceiling (thread_at m t) (mutex_at m k).protocol) (owns m t k) (is_free m k) (owned_not_free (mutex_at m k).owner t)

-- ---- a thread in a condition wait

released_by : (wait : Wait) (k : ℕ) → released_mutex wait ≡ Some k → is_in_condition_wait wait ≡ true
released_by (for_condition c j) k e = refl
released_by (for_mutex j) k e = absurd (grind arith)
released_by (for_mutex_again j how) k e = refl
released_by (for_end u) k e = absurd (grind arith)
released_by (for_semaphore j) k e = absurd (grind arith)
released_by for_time k e = absurd (grind arith)
released_by (for_room q x) k e = absurd (grind arith)
released_by (for_message q) k e = absurd (grind arith)
released_by (for_signal set) k e = absurd (grind arith)

abbrev pub InCondition : Status → Type 0
InCondition status = (is_blocked status ≡ true) × (option_map_or (λ (w : Waiting). is_in_condition_wait w.wait) (waiting_in status) false ≡ true)

pub released_waits : (status : Status) (k : ℕ) → option_and_then (λ (w : Waiting). released_mutex w.wait) (waiting_in status) ≡ Some k → InCondition status
released_waits (dormant at) k e = absurd (grind arith)
released_waits runnable k e = absurd (grind arith)
released_waits (blocked w) k e = (refl, released_by w.wait k e)
released_waits ended k e = absurd (grind arith)

-- ---- who accepts a signal

each_kept : {X : Type 0} (Law : X → Type 0) (passes : X → Bool) (xs : List X) → Each Law xs → Each Law (filter passes xs)
each_kept Law passes [] each = tt
each_kept {X} Law passes (x ∷ xs) each = split (passes x) refl (each_kept Law passes xs each.1)
  where
    split : (b : Bool) → passes x ≡ b → Each Law (filter passes xs) → Each Law (filter passes (x ∷ xs))
    split true e rest = rw e (each.0, rest)
    split false e rest = rw e rest

pub acceptor_waits : {P : Type 0} (m : Machine P) (r : SignalRecord) (w : Waiter) → acceptor m r ≡ Some w → WaitsSo m (accepts r) w.thread w.waiting
acceptor_waits m r w e =
    first_one (λ (w : Waiter). WaitsSo m (accepts r) w.thread w.waiting) is_served_before (filter (λ (w : Waiter). may_go_to w.thread r.target) (waiters m (accepts r))) w
    (each_kept (λ (w : Waiter). WaitsSo m (accepts r) w.thread w.waiting) (λ (w : Waiter). may_go_to w.thread r.target) (waiters m (accepts r))
    (each_waiter m (accepts r) (numbers_from 0 (waits_so (accepts r)) m.threads) (all_pass m (accepts r)))) e

pub waits_blocked : {P : Type 0} (m : Machine P) (t : ℕ) (w : Waiting) → waiting_of m t ≡ Some w → is_blocked (thread_at m t).status ≡ true
waits_blocked m t w e = rw e refl

-- ---- waiters stay where a thread changes in neither its wait nor its priority

numbers_kept : {X : Type 0} (none : X) (n a : ℕ) (f : X → X) (passes : X → Bool) → ((x : X) → passes (f x) ≡ passes x) → (xs : List X) →
    numbers_from a passes (changed_at none n f xs) ≡ numbers_from a passes xs
numbers_kept none n a f passes h [] = refl
numbers_kept none zero a f passes h (x ∷ xs) = ap (λ (b : Bool). kept_if b a (numbers_from (a + 1) passes xs)) (h x)
numbers_kept none (suc n) a f passes h (x ∷ xs) = ap (kept_if (passes x) a) (numbers_kept none n (a + 1) f passes h xs)

filter_map_same : {X Y : Type 0} (f g : X → Option Y) → ((x : X) → f x ≡ g x) → (xs : List X) → filter_map f xs ≡ filter_map g xs
filter_map_same f g h [] = refl
filter_map_same f g h (x ∷ xs) = grind (arith, h x, filter_map_same f g h xs)

pub waiters_kept : {P : Type 0} (m : Machine P) (t : ℕ) (f : Thread P → Thread P) (passes : Wait → Bool) → ((th : Thread P) → claim_of (f th) ≡ claim_of th) →
    ((th : Thread P) → (f th).status ≡ th.status) → waiters (with_thread t f m) passes ≡ waiters m passes
waiters_kept m t f passes h k =
    ap (filter_map (λ (u : ℕ). waiter_of u (exec (with_thread t f m) u) (waiting_of (with_thread t f m) u)))
    (numbers_kept no_thread t 0 f (waits_so passes) (λ th. ap (λ (status : Status). option_map_or (λ (w : Waiting). passes w.wait) (waiting_in status) false) (k th)) m.threads)
    ∙ filter_map_same _ _ (λ u. ap (λ (p : ℕ). waiter_of u p (waiting_of (with_thread t f m) u)) (exec_same m t f h u)
    ∙ ap (λ (status : Status). waiter_of u (exec m u) (waiting_in status)) (changed-keeps no_thread t u f (λ th. th.status) k m.threads)) (numbers_where (waits_so passes) m.threads)

pub acceptor_kept : {P : Type 0} (m : Machine P) (t : ℕ) (f : Thread P → Thread P) (r : SignalRecord) → ((th : Thread P) → claim_of (f th) ≡ claim_of th) →
    ((th : Thread P) → (f th).status ≡ th.status) → acceptor (with_thread t f m) r ≡ acceptor m r
acceptor_kept m t f r h k = ap (λ (ws : List Waiter). first_by is_served_before (filter (λ (w : Waiter). may_go_to w.thread r.target) ws)) (waiters_kept m t f (accepts r) h k)
