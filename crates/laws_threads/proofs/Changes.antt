-- One thread changes, and each keeps its law.
use Rattle.std.proofs.Common.{Bool, List, Some, [], arith, false, length, refl, suc, true, zero, ℕ, ◌<◌, ◌∙◌, ◌∷◌, ◌≡◌}
use Rattle.std.specs.Prelude.{if◌then◌else◌, slice_index_or, ◌==◌}
use Rattle.rules_machine.specs.declared.signal.SigAction.{SigAction}
use Rattle.rules_machine.specs.declared.signal.SigAction.TheVariants as action
use Rattle.rules_machine.specs.Lists.{changed_at}
use Rattle.rules_machine.specs.State.{Queue, SignalRecord, Thread, Timer, Waiting}
use Rattle.rules_machine.specs.Threads.{no_queue, no_thread, no_timer, thread_at, waiting_in, waiting_of}
use Rattle.rules_machine.specs.Turns.{Turn, changes, changes_pending, changes_queue, changes_timer}
use Rattle.rules_machine.proofs.Reading.{changed-length}
use Rattle.rules_moves.proofs.Waiters.Best.{Each}
use Rattle.laws_threads.specs.EachThread.{ActionKnown, Closed, EachIn, Given}
use Rattle.laws_threads.proofs.Objects.{NotifiesKnown, ObjectsHold, each_changed}

-- ---- one member of a list

at_each : {X : Type 0} (Q : ℕ → X → Type 0) (none : X) (f : X → X) (xs : List X) (n k : ℕ) → (n < length xs → Q n (f (slice_index_or xs n none))) →
    ((j : ℕ) → j < length xs → Q j (slice_index_or xs j none)) → k < length xs → Q k (slice_index_or (changed_at none n f xs) k none)
at_each Q none f [] n k new all lt = absurd (omega arith)
at_each Q none f (x ∷ xs) zero zero new all lt = new lt
at_each Q none f (x ∷ xs) zero (suc k) new all lt = all (suc k) lt
at_each Q none f (x ∷ xs) (suc n) zero new all lt = all 0 lt
at_each Q none f (x ∷ xs) (suc n) (suc k) new all lt = at_each (λ j x. Q (suc j) x) none f xs n k (λ lt. new (omega arith)) (λ j lt. all (suc j) (omega arith)) (omega arith)

-- the member itself after the change; where there is none, what stands for it
pub at_self : {X : Type 0} (Q : X → Type 0) (none : X) (f : X → X) (xs : List X) (k : ℕ) → (k < length xs → Q (f (slice_index_or xs k none))) → (slice_index_or xs k none ≡ none → Q none) →
    Q (slice_index_or (changed_at none k f xs) k none)
at_self Q none f [] k there past = past refl
at_self Q none f (x ∷ xs) zero there past = there (omega arith)
at_self Q none f (x ∷ xs) (suc k) there past = at_self Q none f xs k (λ lt. there (omega arith)) past

-- one member is replaced, and the others come from one law to another
pub at_two : {X : Type 0} (B : ℕ → X → Type 0) (none y : X) (xs : List X) (n k : ℕ) → (n < length xs → B n y) →
    ((j : ℕ) → (n == j) ≡ false → j < length xs → B j (slice_index_or xs j none)) → k < length xs → B k (slice_index_or (changed_at none n (λ x. y) xs) k none)
at_two B none y [] n k new all lt = absurd (omega arith)
at_two B none y (x ∷ xs) zero zero new all lt = new lt
at_two B none y (x ∷ xs) zero (suc k) new all lt = all (suc k) (grind arith) lt
at_two B none y (x ∷ xs) (suc n) zero new all lt = all 0 (grind arith) lt
at_two B none y (x ∷ xs) (suc n) (suc k) new all lt =
    at_two (λ j x. B (suc j) x) none y xs n k (λ lt. new (omega arith)) (λ j e lt. all (suc j) (grind arith) (omega arith)) (omega arith)

-- what each member keeps, and what stands for none, each number keeps
pub at_all : {X : Type 0} (Q : ℕ → X → Type 0) (none : X) (xs : List X) → ((j : ℕ) → j < length xs → Q j (slice_index_or xs j none)) → ((j : ℕ) → Q j none) → (k : ℕ) → Q k (slice_index_or xs k none)
at_all Q none [] all past k = past k
at_all Q none (x ∷ xs) all past zero = all 0 (omega arith)
at_all Q none (x ∷ xs) all past (suc k) = at_all (λ j x. Q (suc j) x) none xs (λ j lt. all (suc j) (omega arith)) (λ j. past (suc j)) k

-- ---- the machine between two effects

module _ {P : Type 0} (given : Given P) (Q : ℕ → ℕ → Thread P → Type 0) where
  pub record HoldsIn (now : ℕ) (threads : List (Thread P)) (actions : List SigAction) (timers : List Timer) (queues : List Queue) (pending : List SignalRecord) : Type 0 where
    pub each : EachIn Q now threads
    pub counted : length threads ≡ given.count
    pub handled : (signal : ℕ) → ActionKnown given (slice_index_or actions signal action.Kill)
    pub objects : ObjectsHold given timers queues pending

  abbrev pub Holds : Turn P → Type 0
  Holds s = HoldsIn s.machine.now s.machine.threads s.machine.actions s.machine.timers s.machine.queues s.machine.pending

  pub if_holds : (b : Bool) (x y : Turn P) → Holds x → Holds y → Holds (if b then x else y)
  if_holds true x y h k = h
  if_holds false x y h k = k

  pub changes_hold : (t : ℕ) (f : Thread P → Thread P) (s : Turn P) → (t < given.count → Q s.machine.now t (thread_at s.machine t) → Q s.machine.now t (f (thread_at s.machine t))) → Holds s →
      Holds (changes t f s)
  changes_hold t f s new h =
      let ths = s.machine.threads in
      let same = changed-length no_thread t f ths in
      record {
        each = λ u lt. at_each (Q s.machine.now) no_thread f ths t u (λ lt. new (let e = h.counted in omega (arith, e, lt)) (h.each t lt)) h.each (omega (arith, same, lt));
        counted = same ∙ h.counted;
        handled = h.handled;
        objects = h.objects;
      }

  -- ---- one object changes

  pub timer_holds : (k : ℕ) (f : Timer → Timer) (s : Turn P) → ((x : Timer) → given.Sends x.signal → given.Sends (f x).signal) → Holds s → Holds (changes_timer k f s)
  timer_holds k f s keeps h = record {
    each = h.each;
    counted = h.counted;
    handled = h.handled;
    objects = record { of_timers = each_changed (λ (x : Timer). given.Sends x.signal) no_timer f k s.machine.timers keeps h.objects.of_timers; of_queues = h.objects.of_queues; of_records = h.objects.of_records };
  }

  pub queue_holds : (q : ℕ) (f : Queue → Queue) (s : Turn P) → ((x : Queue) → NotifiesKnown given x → NotifiesKnown given (f x)) → Holds s → Holds (changes_queue q f s)
  queue_holds q f s keeps h = record {
    each = h.each;
    counted = h.counted;
    handled = h.handled;
    objects = record { of_timers = h.objects.of_timers; of_queues = each_changed (NotifiesKnown given) no_queue f q s.machine.queues keeps h.objects.of_queues; of_records = h.objects.of_records };
  }

  pub pending_holds : (f : List SignalRecord → List SignalRecord) (s : Turn P) → (Each given.Pends s.machine.pending → Each given.Pends (f s.machine.pending)) → Holds s → Holds (changes_pending f s)
  pending_holds f s keeps h = record {
    each = h.each;
    counted = h.counted;
    handled = h.handled;
    objects = record { of_timers = h.objects.of_timers; of_queues = h.objects.of_queues; of_records = keeps h.objects.of_records };
  }

  -- what a thread waits for, it may wait for
  pub waiting_known : Closed given Q → (t : ℕ) (w : Waiting) (s : Turn P) → waiting_of s.machine t ≡ Some w → Holds s → given.Waits w.wait
  waiting_known closed t w s e h =
      at_all (λ u th. (w : Waiting) → waiting_in th.status ≡ Some w → given.Waits w.wait) no_thread s.machine.threads
      (λ j lt w e. closed.waiting s.machine.now j (thread_at s.machine j) w (h.each j lt) e) (λ j w e. absurd (cc)) t w e
