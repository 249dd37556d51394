-- What is known of timers, of registrations and of pending records.
use Rattle.std.proofs.Common.{List, None, Some, [], arith, suc, zero, ℕ, ◌∷◌, ◌++◌, ◌≡◌}
use Rattle.rules_machine.specs.Lists.{changed_at}
use Rattle.rules_machine.specs.State.{Queue, Registration, SignalRecord, Timer}
use Rattle.rules_machine.specs.Queues.{registered}
use Rattle.rules_moves.proofs.Waiters.Best.{Each}
use Rattle.laws_threads.specs.EachThread.{Given}

-- ---- lists

pub each_changed : {X : Type 0} (Law : X → Type 0) (none : X) (f : X → X) (n : ℕ) (xs : List X) → ((x : X) → Law x → Law (f x)) → Each Law xs → Each Law (changed_at none n f xs)
each_changed Law none f n [] keeps each = tt
each_changed Law none f zero (x ∷ xs) keeps each = (keeps x each.0, each.1)
each_changed Law none f (suc n) (x ∷ xs) keeps each = (each.0, each_changed Law none f n xs keeps each.1)

pub each_and_last : {X : Type 0} (Law : X → Type 0) (xs : List X) (x : X) → Each Law xs → Law x → Each Law (xs ++ x ∷ [])
each_and_last Law [] x each h = (h, tt)
each_and_last Law (y ∷ ys) x each h = (each.0, each_and_last Law ys x each.1 h)

pub each_of_all : {X : Type 0} (Law : X → Type 0) (xs : List X) → ((x : X) → Law x) → Each Law xs
each_of_all Law [] all = tt
each_of_all Law (x ∷ xs) all = (all x, each_of_all Law xs all)

-- ---- the objects of a machine

-- a registration of the queue sends a signal that may be sent
abbrev pub NotifiesKnown : {P : Type 0} → Given P → Queue → Type 0
NotifiesKnown given q = (r : Registration) → q.registration ≡ Some r → given.Sends r.signal

pub record ObjectsHold {P : Type 0} (given : Given P) (timers : List Timer) (queues : List Queue) (pending : List SignalRecord) : Type 0 where
  pub of_timers : Each (λ (k : Timer). given.Sends k.signal) timers
  pub of_queues : Each (NotifiesKnown given) queues
  pub of_records : Each given.Pends pending

module _ {P : Type 0} (given : Given P) where
  pub none_known : (q : Queue) → NotifiesKnown given (registered None q)
  none_known q r e = absurd (grind arith)

  pub one_known : (q : Queue) (r : Registration) → given.Sends r.signal → NotifiesKnown given (registered (Some r) q)
  one_known q r known x e = let it : r ≡ x = grind arith in rw it at known
