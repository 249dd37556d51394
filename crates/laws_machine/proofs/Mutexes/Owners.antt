-- Owners, counts and waiters agree, and no chain of them comes back: every move keeps it.
use Rattle.std.proofs.Common.{Bool, List, None, Option, Some, [], ap, arith, false, inl, inr, length, refl, suc, sym, true, zero, ℕ, ◌<◌, ◌≤◌, ◌∷◌, ◌≡◌, ◌⊎◌}
use Rattle.std.specs.Prelude.{filter, is_none, option_and_then, slice_index_or, ◌==◌, ◌&&◌, ◌||◌}
use Rattle.std.specs.Option.{option_map, option_map_or}
use mathlib.Core.Path.{subst, ◌∙◌}
use Rattle.words_trace.specs.declared.event.Event.TheVariants as event
use Rattle.rules_server.specs.Server.{ServerState, activate, oldest_pending, refill}
use Rattle.rules_machine.specs.Lists.{changed_at, is}
use Rattle.rules_machine.specs.Bodies.{Bodies}
use Rattle.rules_machine.specs.State.{Machine, Mutex, Status, Thread, Wait, Waiting, blocked, dormant, ended, for_condition, for_end, for_message, for_mutex, for_mutex_again, for_room, for_semaphore, for_signal, for_time, runnable}
use Rattle.rules_machine.specs.Threads.{can_run, is_runnable, mutex_at, no_mutex, no_thread, thread_at, waiting_in, waiting_of}
use Rattle.rules_machine.specs.Priorities.{mutex_awaited_by, mutex_waited}
use Rattle.rules_machine.specs.Waiters.{somebody_waits, waits_so}
use Rattle.rules_machine.specs.Turns.{Caller, Turn, changes, changes_mutex, moves, tells}
use Rattle.rules_machine.specs.Servers.{activates_if, activates_server, amount_of, at_once, high_server, refills_server, regains_high, with_server}
use Rattle.rules_machine.specs.Waking.{ending_with, on_top, put_to_wait, started, woken}
use Rattle.rules_machine.specs.Lives.{with_joiner, without_life, without_top}
use Rattle.rules_machine.specs.Cancellation.{without_cleanup}
use Rattle.rules_machine.specs.Mutexes.{closes_cycle, counted_down, counted_up, freed, is_free, leads_within, owned_by, taken_by, waits_for_mutex}
use Rattle.rules_machine.specs.Scheduling.{with_policy, with_priority}
use Rattle.rules_machine.specs.GoodState.{MutexesAreRight, OwnerIsRight, is_in_condition_wait}
use Rattle.rules_machine.proofs.Reading.{changed-length}
use Rattle.rules_moves.specs.Moves.{Keeps, May, MayWait, Move, alters, begins, blocks_for, blocks_plainly, counts_down, counts_up, does, drops, ends_with, enters_frame, frees, leaves_frame, lives_no_more, prices, pushed, pushes, recasts, refills_one, rejoins, renews_with, takes_for, wakes_with}
use Rattle.rules_moves.proofs.Cores.{wait_in}
use Rattle.rules_moves.proofs.Waiters.Best.{running_within}
use Rattle.rules_moves.proofs.Calls.Commuting.{wakes_telling_part}
use Rattle.rules_moves.proofs.Waiters.AfterMoves.{part_begun, part_refill, part_renewed, wait_begun, waited_before}
use Rattle.rules_moves.proofs.Waiters.OfThreads.{BeginsToWait, changed_is, waited}
use Rattle.laws_machine.proofs.Mutexes.Chains.{is_some_of, leads, leads_bounded, no_new_cycle, still_no_cycle}

contra : {b : Bool} → b ≡ true → b ≡ false → ⊥
contra p q = grind arith

-- ---- owners and waits of a machine

abbrev pub own_of : {P : Type 0} → Machine P → ℕ → Option ℕ
own_of m k = (mutex_at m k).owner

abbrev pub aw_of : {P : Type 0} → Machine P → ℕ → Option ℕ
aw_of m u = mutex_awaited_by (thread_at m u)

pub leads_same : {P : Type 0} (m : Machine P) (n : ℕ) (a : Option ℕ) (t : ℕ) → leads_within m.threads m.mutexes n a t ≡ leads (own_of m) (aw_of m) n a t
leads_same m zero a t = refl
leads_same m (suc n) a t = ap (λ (b : Bool). is (option_and_then (λ (k : ℕ). own_of m k) a) t || b) (leads_same m n _ t)

-- a thread that waits so has a wait
waits_by : {P : Type 0} (passes : Wait → Bool) (th : Thread P) → waits_so passes th ≡ true → (w : Waiting) × (waiting_in th.status ≡ Some w) × (passes w.wait ≡ true)
waits_by passes th e = by_wait (waiting_in th.status) refl e
  where
    by_wait : (o : Option Waiting) → waiting_in th.status ≡ o → option_map_or (λ (w : Waiting). passes w.wait) o false ≡ true → (w : Waiting) × (waiting_in th.status ≡ Some w) × (passes w.wait ≡ true)
    by_wait None h k = absurd (grind arith)
    by_wait (Some w) h k = (w, h, k)

awaits_by : {P : Type 0} (th : Thread P) (k : ℕ) → mutex_awaited_by th ≡ Some k → (w : Waiting) × (waiting_in th.status ≡ Some w) × (mutex_waited w.wait ≡ Some k)
awaits_by th k e = by_wait (waiting_in th.status) refl e
  where
    by_wait : (o : Option Waiting) → waiting_in th.status ≡ o → option_and_then (λ (w : Waiting). mutex_waited w.wait) o ≡ Some k → (w : Waiting) × (waiting_in th.status ≡ Some w) × (mutex_waited w.wait ≡ Some k)
    by_wait None h f = absurd (grind arith)
    by_wait (Some w) h f = (w, h, f)

-- what is read of a wait is read of what is waited for
abbrev wait_of : Option Waiting → Option Wait
wait_of o = option_map (λ (w : Waiting). w.wait) o

passed_in : (passes : Wait → Bool) (o : Option Waiting) → option_map_or (λ (w : Waiting). passes w.wait) o false ≡ option_map_or passes (wait_of o) false
passed_in passes None = refl
passed_in passes (Some w) = refl

awaited_in : (o : Option Waiting) → option_and_then (λ (w : Waiting). mutex_waited w.wait) o ≡ option_and_then mutex_waited (wait_of o)
awaited_in None = refl
awaited_in (Some w) = refl

runs_awaits_none : {P : Type 0} (th : Thread P) → is_runnable th.status ≡ true → waiting_in th.status ≡ None
runs_awaits_none th e = by_status th.status e
  where
    by_status : (status : Status) → is_runnable status ≡ true → waiting_in status ≡ None
    by_status (dormant at) e = refl
    by_status runnable e = refl
    by_status (blocked w) e = absurd (grind arith)
    by_status ended e = refl

-- ---- no move makes or takes a thread

module _ {P : Type 0} where
  activated_many : (t : ℕ) (o : Option ServerState) (s : Turn P) → length (activates_server t o s).machine.threads ≡ length s.machine.threads
  activated_many t None s = refl
  activated_many t (Some server) s = changed-length no_thread t (with_server (activate s.machine.now)) s.machine.threads

  activated_if_many : (b : Bool) (t : ℕ) (s : Turn P) → length (activates_if b t s).machine.threads ≡ length s.machine.threads
  activated_if_many true t s = activated_many t (at_once (thread_at s.machine t).server) s
  activated_if_many false t s = refl

  refilled_many : (t : ℕ) (o : Option ServerState) (s : Turn P) → length (refills_server t o s).machine.threads ≡ length s.machine.threads
  refilled_many t None s = refl
  refilled_many t (Some server) s =
      let ev = event.Refill t (amount_of (oldest_pending server)) (refill server).capacity in
      activated_if_many (regains_high server && can_run s.machine t) t (tells ev (changes t (with_server refill) s)) ∙ changed-length no_thread t (with_server refill) s.machine.threads

  pub as_many : (bodies : Bodies P) (move : Move P) (s : Turn P) → length (does bodies move s).machine.threads ≡ length s.machine.threads
  as_many bodies (alters t f) s = changed-length no_thread t f s.machine.threads
  as_many bodies (ends_with t v) s = changed-length no_thread t (ending_with v) s.machine.threads
  as_many bodies (enters_frame t f) s = changed-length no_thread t (on_top f) s.machine.threads
  as_many bodies (leaves_frame t) s = changed-length no_thread t without_top s.machine.threads
  as_many bodies (pushes t u) s = changed-length no_thread t (pushed u) s.machine.threads
  as_many bodies (drops t) s = changed-length no_thread t without_cleanup s.machine.threads
  as_many bodies (prices t p) s = changed-length no_thread t (with_priority p) s.machine.threads
  as_many bodies (renews_with active t new) s =
      activated_if_many active t (changes t (with_policy new s.machine.now) s) ∙ changed-length no_thread t (with_policy new s.machine.now) s.machine.threads
  as_many bodies (wakes_with t ev r v) s =
      let up = tells ev (moves t (changes t (woken r v) s)) in
      activated_many t (at_once (high_server (thread_at up.machine t).server)) up ∙ changed-length no_thread t (woken r v) s.machine.threads
  as_many bodies (blocks_for by wait due) s = changed-length no_thread by.thread (put_to_wait (record { wait = wait; serial = s.machine.next_serial; due = due; call = by.call })) s.machine.threads
  as_many bodies (blocks_plainly by wait due) s = changed-length no_thread by.thread (put_to_wait (record { wait = wait; serial = 0; due = due; call = by.call })) s.machine.threads
  as_many bodies (begins t mask) s =
      let up = tells (event.Start t) (moves t (changes t (started bodies t mask s.machine.now) s)) in
      activated_many t (at_once (thread_at up.machine t).server) up ∙ changed-length no_thread t (started bodies t mask s.machine.now) s.machine.threads
  as_many bodies (lives_no_more t) s = changed-length no_thread t without_life s.machine.threads
  as_many bodies (recasts t f) s = changed-length no_thread t f s.machine.threads
  as_many bodies (rejoins t j) s = changed-length no_thread t (with_joiner j) s.machine.threads
  as_many bodies (refills_one t) s = refilled_many t (thread_at s.machine t).server s
  as_many bodies _ s = refl

-- ---- owned mutexes

abbrev owned_in : List Mutex → ℕ → List Mutex
owned_in ks t = filter (λ (k : Mutex). is k.owner t) ks

none_owned : (ks : List Mutex) (t k : ℕ) → owned_in ks t ≡ [] → is (slice_index_or ks k no_mutex).owner t ≡ false
none_owned [] t k e = refl
none_owned (x ∷ ks) t zero e = by_test (is x.owner t) refl
  where
    by_test : (b : Bool) → is x.owner t ≡ b → b ≡ false
    by_test false h = refl
    by_test true h = absurd (grind arith)
none_owned (x ∷ ks) t (suc k) e = none_owned ks t k (by_test (is x.owner t) refl)
  where
    by_test : (b : Bool) → is x.owner t ≡ b → owned_in ks t ≡ []
    by_test false h = grind arith
    by_test true h = absurd (grind arith)

still_none : (ks : List Mutex) (t k : ℕ) (f : Mutex → Mutex) → ((x : Mutex) → is x.owner t ≡ false → is (f x).owner t ≡ false) → owned_in ks t ≡ [] → owned_in (changed_at no_mutex k f ks) t ≡ []
still_none [] t k f h e = refl
still_none (x ∷ ks) t k f h e = by_test (is x.owner t) refl (λ j rest. still_none ks t j f h rest)
  where
    tail_none : is x.owner t ≡ false → owned_in ks t ≡ []
    tail_none g = grind arith

    by_place : is x.owner t ≡ false → (k : ℕ) → ((j : ℕ) → owned_in ks t ≡ [] → owned_in (changed_at no_mutex j f ks) t ≡ []) → owned_in (changed_at no_mutex k f (x ∷ ks)) t ≡ []
    by_place g zero rest = let fx : is (f x).owner t ≡ false = h x g in let more = tail_none g in grind arith
    by_place g (suc j) rest = let more = rest j (tail_none g) in grind arith

    by_test : (b : Bool) → is x.owner t ≡ b → ((j : ℕ) → owned_in ks t ≡ [] → owned_in (changed_at no_mutex j f ks) t ≡ []) → owned_in (changed_at no_mutex k f (x ∷ ks)) t ≡ []
    by_test true g rest = absurd (grind arith)
    by_test false g rest = by_place g k rest

-- ---- every move

module _ {P : Type 0} (bodies : Bodies P) (who : Option ℕ) where
  abbrev Law : Turn P → Type 0
  Law s = MutexesAreRight s.machine

  -- the chains of a good machine
  chains : (m : Machine P) → MutexesAreRight m → (t n : ℕ) → leads (own_of m) (aw_of m) n (aw_of m t) t ≡ false
  chains m q t n = sym (leads_same m n (aw_of m t) t) ∙ q.no_cycle t n

  owner_below : (m : Machine P) → MutexesAreRight m → (k u : ℕ) → own_of m k ≡ Some u → u < length m.threads
  owner_below m q k u e = by_owner (mutex_at m k).owner e (q.owners k)
    where
      by_owner : (o : Option ℕ) → o ≡ Some u → OwnerIsRight m k o → u < length m.threads
      by_owner None h r = absurd (grind arith)
      by_owner (Some v) h r = let it : v ≡ u = grind arith in subst (λ (j : ℕ). j < length m.threads) it r.1

  -- what a thread awaits after a move
  awaited : (move : Move P) (s : Turn P) → May who move s → (u k : ℕ) → aw_of (does bodies move s).machine u ≡ Some k →
      (aw_of s.machine u ≡ Some k) ⊎ ((w : Waiting) × (BeginsToWait move u w) × (mutex_waited w.wait ≡ Some k))
  awaited move s may u k e = of_wait (awaits_by (thread_at (does bodies move s).machine u) k e)
    where
      of_wait : ((w : Waiting) × (waiting_in (thread_at (does bodies move s).machine u).status ≡ Some w) × (mutex_waited w.wait ≡ Some k)) →
          (aw_of s.machine u ≡ Some k) ⊎ ((w : Waiting) × (BeginsToWait move u w) × (mutex_waited w.wait ≡ Some k))
      of_wait h = of_two (waited u h.0 bodies who move s may (ap wait_of h.1))
        where
          of_two : (wait_in (thread_at s.machine u).status ≡ Some h.0.wait) ⊎ (BeginsToWait move u h.0) → (aw_of s.machine u ≡ Some k) ⊎ ((w : Waiting) × (BeginsToWait move u w) × (mutex_waited w.wait ≡ Some k))
          of_two (inl g) = inl (awaited_in (waiting_of s.machine u) ∙ ap (option_and_then mutex_waited) g ∙ h.2)
          of_two (inr g) = inr (h.0, g, h.2)

  -- a thread in a condition wait after a move
  in_condition : (move : Move P) (s : Turn P) → May who move s → (u : ℕ) → waits_so is_in_condition_wait (thread_at (does bodies move s).machine u) ≡ true →
      (waits_so is_in_condition_wait (thread_at s.machine u) ≡ true) ⊎ ((w : Waiting) × (BeginsToWait move u w) × (is_in_condition_wait w.wait ≡ true))
  in_condition move s may u e = of_wait (waits_by is_in_condition_wait (thread_at (does bodies move s).machine u) e)
    where
      of_wait : ((w : Waiting) × (waiting_in (thread_at (does bodies move s).machine u).status ≡ Some w) × (is_in_condition_wait w.wait ≡ true)) →
          (waits_so is_in_condition_wait (thread_at s.machine u) ≡ true) ⊎ ((w : Waiting) × (BeginsToWait move u w) × (is_in_condition_wait w.wait ≡ true))
      of_wait h = of_two (waited u h.0 bodies who move s may (ap wait_of h.1))
        where
          of_two : (wait_in (thread_at s.machine u).status ≡ Some h.0.wait) ⊎ (BeginsToWait move u h.0) → (waits_so is_in_condition_wait (thread_at s.machine u) ≡ true) ⊎ ((w : Waiting) × (BeginsToWait move u w) × (is_in_condition_wait w.wait ≡ true))
          of_two (inl g) = inl (passed_in is_in_condition_wait (waiting_of s.machine u) ∙ ap (λ (o : Option Wait). option_map_or is_in_condition_wait o false) g ∙ h.2)
          of_two (inr g) = inr (h.0, g, h.2)

  -- an owner stays right where it stays, where nobody more waits and no thread is gone
  owner_stays : (m n : Machine P) (k : ℕ) → (mutex_at n k).count ≡ (mutex_at m k).count → length n.threads ≡ length m.threads →
      (own_of m k ≡ None → somebody_waits n (waits_for_mutex k) ≡ true → somebody_waits m (waits_for_mutex k) ≡ true) → (o : Option ℕ) → own_of m k ≡ o → OwnerIsRight m k o → OwnerIsRight n k o
  owner_stays m n k c l w None e r = (c ∙ r.0, by_test (somebody_waits n (waits_for_mutex k)) refl)
    where
      by_test : (b : Bool) → somebody_waits n (waits_for_mutex k) ≡ b → b ≡ false
      by_test false h = refl
      by_test true h = absurd (contra (w e h) r.1)
  owner_stays m n k c l w (Some t) e r = (subst (λ (j : ℕ). 1 ≤ j) (sym c) r.0, subst (λ (j : ℕ). t < j) (sym l) r.1)

  -- a move that changes no mutex and blocks nobody
  calm : (move : Move P) (s : Turn P) → May who move s → (does bodies move s).machine.mutexes ≡ s.machine.mutexes → ((k : ℕ) → wait_begun (waits_for_mutex k) move ≡ false) →
      ((u : ℕ) (w : Waiting) → BeginsToWait move u w → (mutex_waited w.wait ≡ None) × (is_in_condition_wait w.wait ≡ false)) → Law s → Law (does bodies move s)
  calm move s may e b g q =
      let n = (does bodies move s).machine in
      let same : (k : ℕ) → mutex_at n k ≡ mutex_at s.machine k = λ k. ap (λ (ks : List Mutex). slice_index_or ks k no_mutex) e in
      record {
        owners = λ k. subst (λ (o : Option ℕ). OwnerIsRight n k o) (sym (ap (λ (x : Mutex). x.owner) (same k)))
            (owner_stays s.machine n k (ap (λ (x : Mutex). x.count) (same k)) (as_many bodies move s) (λ none w. waited_before (waits_for_mutex k) bodies who move s may (b k) w) (own_of s.machine k) refl (q.owners k));
        no_cycle = λ t steps. leads_same n steps (aw_of n t) t
            ∙ still_no_cycle (own_of s.machine) (aw_of s.machine) (own_of n) (aw_of n) (λ k u h. inl (sym (ap (λ (x : Mutex). x.owner) (same k)) ∙ h)) (λ u k h. before u k (awaited move s may u k h)) (chains s.machine q) t steps;
        owns_none = λ t h. ap (λ (ks : List Mutex). owned_in ks t) e ∙ q.owns_none t (before_so t (in_condition move s may t h));
      }
    where
      before : (u k : ℕ) → (aw_of s.machine u ≡ Some k) ⊎ ((w : Waiting) × (BeginsToWait move u w) × (mutex_waited w.wait ≡ Some k)) → aw_of s.machine u ≡ Some k
      before u k (inl h) = h
      before u k (inr h) = let none = (g u h.0 h.1).0 in absurd (grind (arith, h.2))

      before_so : (u : ℕ) → (waits_so is_in_condition_wait (thread_at s.machine u) ≡ true) ⊎ ((w : Waiting) × (BeginsToWait move u w) × (is_in_condition_wait w.wait ≡ true)) → waits_so is_in_condition_wait (thread_at s.machine u) ≡ true
      before_so u (inl h) = h
      before_so u (inr h) = absurd (contra h.2 (g u h.0 h.1).1)

  -- ---- a thread blocks

  -- what a wait of a thread asks of the machine
  record MayBlock (m : Machine P) (t : ℕ) (wait : Wait) : Type 0 where
    owned : (k : ℕ) → mutex_waited wait ≡ Some k → is_free m k ≡ false
    safe : (k : ℕ) → mutex_waited wait ≡ Some k → (n : ℕ) → leads (own_of m) (aw_of m) n (Some k) t ≡ false
    owns_none : is_in_condition_wait wait ≡ true → owned_by m t ≡ []

  abbrev blocks_move : Caller → Wait → Option ℕ → Move P
  blocks_move by wait due = blocks_for by wait due

  blocking : (by : Caller) (wait : Wait) (due : Option ℕ) (s : Turn P) → May who (blocks_for by wait due) s → MayBlock s.machine by.thread wait → Law s → Law (does bodies (blocks_for by wait due) s)
  blocking by wait due s may h q =
      let move = blocks_for by wait due in
      let n = (does bodies move s).machine in
      record {
        owners = λ k. owner_stays s.machine n k refl (as_many bodies move s) (λ none w. waited_before (waits_for_mutex k) bodies who move s may (not_for k none (is (mutex_waited wait) k) refl) w) (own_of s.machine k) refl (q.owners k);
        no_cycle = λ t steps. leads_same n steps (aw_of n t) t ∙ by_wait (mutex_waited wait) refl t steps;
        owns_none = λ t g. still t (in_condition move s may t g);
      }
    where
      not_for : (k : ℕ) → own_of s.machine k ≡ None → (b : Bool) → is (mutex_waited wait) k ≡ b → b ≡ false
      not_for k none false e = refl
      not_for k none true e = absurd (contra (ap is_none none) (h.owned k (is_some_of (mutex_waited wait) k e)))

      still : (t : ℕ) → (waits_so is_in_condition_wait (thread_at s.machine t) ≡ true) ⊎ ((w : Waiting) × (BeginsToWait (blocks_move by wait due) t w) × (is_in_condition_wait w.wait ≡ true)) → owned_by s.machine t ≡ []
      still t (inl g) = q.owns_none t g
      still t (inr g) = subst (λ (u : ℕ). owned_by s.machine u ≡ []) g.1.0 (h.owns_none (ap is_in_condition_wait (sym g.1.1) ∙ g.2))

      none_more : mutex_waited wait ≡ None → (u k : ℕ) → (aw_of s.machine u ≡ Some k) ⊎ ((w : Waiting) × (BeginsToWait (blocks_move by wait due) u w) × (mutex_waited w.wait ≡ Some k)) → aw_of s.machine u ≡ Some k
      none_more e u k (inl g) = g
      none_more e u k (inr g) = let none : mutex_waited g.0.wait ≡ None = ap mutex_waited g.1.1 ∙ e in absurd (grind (arith, g.2))

      one_more : (j : ℕ) → mutex_waited wait ≡ Some j → (u k : ℕ) → (aw_of s.machine u ≡ Some k) ⊎ ((w : Waiting) × (BeginsToWait (blocks_move by wait due) u w) × (mutex_waited w.wait ≡ Some k)) →
          (aw_of s.machine u ≡ Some k) ⊎ ((u ≡ by.thread) × (k ≡ j))
      one_more j e u k (inl g) = inl g
      one_more j e u k (inr g) = let it : Some j ≡ Some k = sym (ap mutex_waited g.1.1 ∙ e) ∙ g.2 in inr (sym g.1.0, grind arith)

      by_wait : (o : Option ℕ) → mutex_waited wait ≡ o → (t steps : ℕ) →
          leads (own_of (does bodies (blocks_for by wait due) s).machine) (aw_of (does bodies (blocks_for by wait due) s).machine) steps (aw_of (does bodies (blocks_for by wait due) s).machine t) t ≡ false
      by_wait None e t steps =
          still_no_cycle (own_of s.machine) (aw_of s.machine) (own_of s.machine) (aw_of (does bodies (blocks_for by wait due) s).machine) (λ k u g. inl g)
          (λ u k g. none_more e u k (awaited (blocks_for by wait due) s may u k g)) (chains s.machine q) t steps
      by_wait (Some j) e t steps =
          no_new_cycle (own_of s.machine) (aw_of s.machine) (aw_of (does bodies (blocks_for by wait due) s).machine) by.thread j
          (λ u k g. one_more j e u k (awaited (blocks_for by wait due) s may u k g)) (h.safe j e) (chains s.machine q) t steps

  -- ---- a mutex changes

  abbrev after : ℕ → (Mutex → Mutex) → Turn P → Machine P
  after k f s = (changes_mutex k f s).machine

  -- its owner is another that does not wait, or none, or stays
  changing : (k : ℕ) (f : Mutex → Mutex) (s : Turn P) →
      ((u : ℕ) → (f (mutex_at s.machine k)).owner ≡ Some u → (own_of s.machine k ≡ Some u) ⊎ (aw_of s.machine u ≡ None)) →
      (mutex_at (after k f s) k ≡ f (mutex_at s.machine k) → OwnerIsRight (after k f s) k (f (mutex_at s.machine k)).owner) →
      ((u : ℕ) → waits_so is_in_condition_wait (thread_at s.machine u) ≡ true → (x : Mutex) → is x.owner u ≡ false → is (f x).owner u ≡ false) → Law s → Law (changes_mutex k f s)
  changing k f s ho right none q =
      record {
        owners = λ j. of_owner j (changed_is no_mutex k j f s.machine.mutexes);
        no_cycle = λ t steps. leads_same (after k f s) steps (aw_of (after k f s) t) t
            ∙ still_no_cycle (own_of s.machine) (aw_of s.machine) (own_of (after k f s)) (aw_of (after k f s)) (λ j u e. of_own j u (changed_is no_mutex k j f s.machine.mutexes) e) (λ u j e. e) (chains s.machine q) t steps;
        owns_none = λ u e. still_none s.machine.mutexes u k f (none u e) (q.owns_none u e);
      }
    where
      of_owner : (j : ℕ) → ((k ≡ j) × (mutex_at (after k f s) j ≡ f (mutex_at s.machine k))) ⊎ (mutex_at (after k f s) j ≡ mutex_at s.machine j) → OwnerIsRight (after k f s) j (own_of (after k f s) j)
      of_owner j (inl e) =
          let here : mutex_at (after k f s) k ≡ f (mutex_at s.machine k) = ap (λ (i : ℕ). mutex_at (after k f s) i) e.0 ∙ e.1 in
          subst (λ (i : ℕ). OwnerIsRight (after k f s) i (own_of (after k f s) i)) e.0 (subst (λ (o : Option ℕ). OwnerIsRight (after k f s) k o) (sym (ap (λ (x : Mutex). x.owner) here)) (right here))
      of_owner j (inr e) =
          subst (λ (o : Option ℕ). OwnerIsRight (after k f s) j o) (sym (ap (λ (x : Mutex). x.owner) e))
          (owner_stays s.machine (after k f s) j (ap (λ (x : Mutex). x.count) e) refl (λ free w. w) (own_of s.machine j) refl (q.owners j))

      of_own : (j u : ℕ) → ((k ≡ j) × (mutex_at (after k f s) j ≡ f (mutex_at s.machine k))) ⊎ (mutex_at (after k f s) j ≡ mutex_at s.machine j) → own_of (after k f s) j ≡ Some u → (own_of s.machine j ≡ Some u) ⊎ (aw_of (after k f s) u ≡ None)
      of_own j u (inl e) h = subst (λ (i : ℕ). (own_of s.machine i ≡ Some u) ⊎ (aw_of (after k f s) u ≡ None)) e.0 (ho u (sym (ap (λ (x : Mutex). x.owner) e.1) ∙ h))
      of_own j u (inr e) h = inl (sym (ap (λ (x : Mutex). x.owner) e) ∙ h)

  -- a count changes, and stays above 0 where the mutex is owned
  counting : (k : ℕ) (f : Mutex → Mutex) (s : Turn P) → ((x : Mutex) → (f x).owner ≡ x.owner) → ((o : Option ℕ) → own_of s.machine k ≡ o → OwnerIsRight s.machine k o → is_none o ≡ false) →
      (1 ≤ (f (mutex_at s.machine k)).count) → Law s → Law (changes_mutex k f s)
  counting k f s same owned some q = changing k f s (λ u e. inl (sym (same (mutex_at s.machine k)) ∙ e))
      (λ here. subst (λ (o : Option ℕ). OwnerIsRight (changes_mutex k f s).machine k o) (sym (same (mutex_at s.machine k))) (by_owner (own_of s.machine k) refl here (q.owners k)))
      (λ u e x g. ap (λ (o : Option ℕ). is o u) (same x) ∙ g) q
    where
      by_owner : (o : Option ℕ) → own_of s.machine k ≡ o → mutex_at (changes_mutex k f s).machine k ≡ f (mutex_at s.machine k) → OwnerIsRight s.machine k o → OwnerIsRight (changes_mutex k f s).machine k o
      by_owner None e here r = absurd (grind (arith, owned None e r))
      by_owner (Some t) e here r = (subst (λ (x : Mutex). 1 ≤ x.count) (sym here) some, r.1)

  awaits_none : (m : Machine P) (t : ℕ) → can_run m t ≡ true → aw_of m t ≡ None
  awaits_none m t e = ap (option_and_then (λ (w : Waiting). mutex_waited w.wait)) (runs_awaits_none (thread_at m t) e)

  -- ---- together

  locks_safely : (m : Machine P) (t k : ℕ) → MutexesAreRight m → closes_cycle m k t ≡ false → (n : ℕ) → leads (own_of m) (aw_of m) n (Some k) t ≡ false
  locks_safely m t k q e n = by_test (leads (own_of m) (aw_of m) n (Some k) t) refl
    where
      by_test : (b : Bool) → leads (own_of m) (aw_of m) n (Some k) t ≡ b → b ≡ false
      by_test false h = refl
      by_test true h =
          absurd (contra (leads_bounded (own_of m) (aw_of m) (length m.threads) (owner_below m q) (chains m q) n (Some k) t h) (sym (leads_same m (length m.threads) (Some k) t) ∙ e))

  -- to a thread that owns nothing no chain leads
  owns_nothing : (m : Machine P) (t : ℕ) → owned_by m t ≡ [] → (n : ℕ) (a : Option ℕ) → leads (own_of m) (aw_of m) n a t ≡ false
  owns_nothing m t e zero a = refl
  owns_nothing m t e (suc n) a = both (not_held a) (owns_nothing m t e n _)
    where
      both : {a b : Bool} → a ≡ false → b ≡ false → (a || b) ≡ false
      both h k = grind arith

      not_held : (a : Option ℕ) → is (option_and_then (λ (k : ℕ). own_of m k) a) t ≡ false
      not_held None = refl
      not_held (Some k) = none_owned m.mutexes t k e

  only : {k j : ℕ} → Some k ≡ Some j → k ≡ j
  only e = grind arith

  waits_nothing : (m : Machine P) (t : ℕ) (wait : Wait) → mutex_waited wait ≡ None → (is_in_condition_wait wait ≡ true → owned_by m t ≡ []) → MayBlock m t wait
  waits_nothing m t wait e h = record {
    owned = λ k f. absurd (grind arith);
    safe = λ k f n. absurd (grind arith);
    owns_none = h;
  }

  may_block : (m : Machine P) (t : ℕ) (wait : Wait) → MutexesAreRight m → MayWait who m t wait → MayBlock m t wait
  may_block m t (for_mutex k) q may = record {
    owned = λ j e. subst (λ (i : ℕ). is_free m i ≡ false) (only e) may.1;
    safe = λ j e n. subst (λ (i : ℕ). leads (own_of m) (aw_of m) n (Some i) t ≡ false) (only e) (locks_safely m t k q may.2 n);
    owns_none = λ e. absurd (grind arith);
  }
  may_block m t (for_mutex_again k how) q may = record {
    owned = λ j e. subst (λ (i : ℕ). is_free m i ≡ false) (only e) may.1;
    safe = λ j e n. owns_nothing m t (q.owns_none t may.0) n (Some j);
    owns_none = λ e. q.owns_none t may.0;
  }
  may_block m t (for_condition c k) q may = waits_nothing m t (for_condition c k) refl (λ e. may.1)
  may_block m t (for_end u) q may = absurd may
  may_block m t for_time q may = absurd may
  may_block m t (for_semaphore k) q may = waits_nothing m t (for_semaphore k) refl (λ e. absurd (grind arith))
  may_block m t (for_room p x) q may = waits_nothing m t (for_room p x) refl (λ e. absurd (grind arith))
  may_block m t (for_message p) q may = waits_nothing m t (for_message p) refl (λ e. absurd (grind arith))
  may_block m t (for_signal set) q may = waits_nothing m t (for_signal set) refl (λ e. absurd (grind arith))

  pub mutexes_keep : Keeps bodies who Law
  mutexes_keep (blocks_for by wait due) s may q = blocking by wait due s may (may_block s.machine by.thread wait q may) q
  mutexes_keep (blocks_plainly by (for_end u) due) s may q = calm (blocks_plainly by (for_end u) due) s may refl (λ k. refl) (λ v w g. (ap mutex_waited g.1, ap is_in_condition_wait g.1)) q
  mutexes_keep (blocks_plainly by for_time due) s may q = calm (blocks_plainly by for_time due) s may refl (λ k. refl) (λ v w g. (ap mutex_waited g.1, ap is_in_condition_wait g.1)) q
  mutexes_keep (blocks_plainly by wait due) s may q = absurd may
  mutexes_keep (counts_up k) s may q = counting k counted_up s (λ x. refl) (λ o e r. ap is_none (sym e) ∙ may) (omega arith) q
  mutexes_keep (counts_down k) s may q = counting k counted_down s (λ x. refl) (λ o e r. by_owner o r) (grind arith) q
    where
      by_owner : (o : Option ℕ) → OwnerIsRight s.machine k o → is_none o ≡ false
      by_owner None r = absurd (grind (arith, r.0))
      by_owner (Some t) r = refl
  mutexes_keep (frees k) s may q = changing k freed s (λ u e. absurd (grind arith)) (λ here. (ap (λ (x : Mutex). x.count) here, may)) (λ u e x g. refl) q
  mutexes_keep (takes_for t k) s may q =
      changing k (taken_by t) s (λ u e. inr (ap (aw_of s.machine) (sym (only e)) ∙ awaits_none s.machine t may))
      (λ here. (subst (λ (n : ℕ). 1 ≤ n) (sym (ap (λ (x : Mutex). x.count) here)) (omega arith), running_within s.machine.threads t may)) (λ u e x g. other u e (t == u) refl) q
    where
      other : (u : ℕ) → waits_so is_in_condition_wait (thread_at s.machine u) ≡ true → (b : Bool) → (t == u) ≡ b → b ≡ false
      other u e false h = refl
      other u e true h =
          let it : t ≡ u = grind arith in
          let none : waiting_in (thread_at s.machine u).status ≡ None = runs_awaits_none (thread_at s.machine u) (subst (λ (v : ℕ). can_run s.machine v ≡ true) it may) in
          absurd (contra e (ap (λ (o : Option Waiting). option_map_or (λ (w : Waiting). is_in_condition_wait w.wait) o false) none))
  mutexes_keep (wakes_with t ev r v) s may q = calm (wakes_with t ev r v) s may (wakes_telling_part (λ (m : Machine P). m.mutexes) (λ m threads. refl) ev t r v s) (λ k. refl) (λ u w g. absurd g) q
  mutexes_keep (begins t mask) s may q = calm (begins t mask) s may (part_begun (λ (m : Machine P). m.mutexes) (λ m threads. refl) bodies t mask s) (λ k. refl) (λ u w g. absurd g) q
  mutexes_keep (renews_with b t new) s may q = calm (renews_with b t new) s may (part_renewed (λ (m : Machine P). m.mutexes) (λ m threads. refl) b t new bodies s) (λ k. refl) (λ u w g. absurd g) q
  mutexes_keep (refills_one t) s may q = calm (refills_one t) s may (part_refill (λ (m : Machine P). m.mutexes) (λ m threads. refl) bodies t s) (λ k. refl) (λ u w g. absurd g) q
  mutexes_keep move s may q = calm move s may refl (λ k. refl) (λ u w g. absurd g) q
