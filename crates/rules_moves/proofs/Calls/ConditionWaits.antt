-- What every move keeps, a condition wait keeps: it hands its mutex over and blocks.
use Rattle.std.proofs.Common.{Bool, List, None, Option, Some, [], ap, arith, false, length, refl, suc, sym, true, zero, ℕ, ◌≤◌, ◌∷◌, ◌≡◌}
use Rattle.std.specs.Prelude.{filter, nat_lt, not, ◌==◌, ◌||◌}
use Rattle.std.specs.Option.{option_map_or}
use mathlib.Core.Path.{subst, ◌∙◌}
use Rattle.words_numbers.specs.declared.res.Res.TheVariants as res
use Rattle.rules_machine.specs.Lists.{changed_at, is}
use Rattle.rules_machine.specs.Bodies.{Bodies}
use Rattle.rules_machine.specs.State.{Machine, Mutex, Status, Thread, Wait, Waiting, blocked, dormant, ended, for_condition, runnable}
use Rattle.rules_machine.specs.Threads.{can_run, is_runnable, mutex_at, mutex_in, no_mutex, no_thread, thread_at, waiting_in, waiting_of}
use Rattle.rules_machine.specs.Waiters.{Waiter, best_waiter, somebody_waits, waits_so}
use Rattle.rules_machine.specs.Turns.{Caller, Turn, changes_mutex}
use Rattle.rules_machine.specs.Waking.{blocks, put_to_wait}
use Rattle.rules_machine.specs.Mutexes.{freed, hands_over, owned_by, owns, taken_by, waits_for_mutex}
use Rattle.rules_machine.specs.Conditions.{waits, waits_with_other_mutex}
use Rattle.rules_machine.proofs.Reading.{thread-other, thread-same}
use Rattle.rules_moves.specs.Moves.{KeepsAwake, MayWake, Stops, Runs}
use Rattle.rules_moves.proofs.Waiters.Best.{best_waits, none_before, nobody_waits, running_within}
use Rattle.rules_moves.proofs.Calls.Commuting.{wakes_owner_other, wakes_owner_part, wakes_owner_swap}
use Rattle.rules_moves.proofs.Calls.Objects.{MayHand, mutex_not_end, wait_may, answers_done, branch, hands_over_keep}

-- ---- who owned one mutex owns none once it is another's

abbrev owned_in : List Mutex → ℕ → List Mutex
owned_in ks t = filter (λ (k : Mutex). is k.owner t) ks

-- of all that it owned it has one less
one_less : (ks : List Mutex) (t k : ℕ) (f : Mutex → Mutex) → is (mutex_in ks k).owner t ≡ true → ((x : Mutex) → is (f x).owner t ≡ false) →
    suc (length (owned_in (changed_at no_mutex k f ks) t)) ≡ length (owned_in ks t)
one_less [] t k f own gone = absurd (grind arith)
one_less (x ∷ ks) t zero f own gone = let left : is (f x).owner t ≡ false = gone x in grind arith
one_less (x ∷ ks) t (suc k) f own gone = let rest = one_less ks t k f own gone in grind arith

none_left : (xs : List Mutex) (n : ℕ) → suc (length xs) ≡ n → n ≤ 1 → xs ≡ []
none_left [] n e h = refl
none_left (x ∷ xs) n e h = absurd (omega arith)

module _ {P : Type 0} (bodies : Bodies P) (who : Option ℕ) (Law Done : Turn P → Type 0) (keeps : KeepsAwake bodies who Law) (stops : Stops who Law Done) (by : Caller) (c k : ℕ) (due : Option ℕ) (s : Turn P) (runs : Runs who s.machine by.thread) where
  abbrev asleep : Turn P
  asleep = blocks by (for_condition c k) due s

  abbrev sleep : Waiting
  sleep = record { wait = for_condition c k; serial = s.machine.next_serial; due = due; call = by.call }

  -- ---- before it slept, the same waited for the mutex

  runs_not_waits : (passes : Wait → Bool) (th : Thread P) → is_runnable th.status ≡ true → waits_so passes th ≡ false
  runs_not_waits passes th e = by_status th.status e
    where
      by_status : (status : Status) → is_runnable status ≡ true → option_map_or (λ (w : Waiting). passes w.wait) (waiting_in status) false ≡ false
      by_status (dormant at) e = refl
      by_status runnable e = refl
      by_status (blocked w) e = absurd (grind arith)
      by_status ended e = refl

  sleeper : waiting_of asleep.machine by.thread ≡ Some sleep
  sleeper = ap (λ (th : Thread P). waiting_in th.status) (thread-same s.machine by.thread (put_to_wait sleep) (running_within s.machine.threads by.thread runs.0))

  abbrev WasWaiting : Waiter → Type 0
  WasWaiting w = ((w.thread == by.thread) ≡ false) × (MayWake s.machine w.thread)

  was_waiting : (w : Waiter) → waiting_of asleep.machine w.thread ≡ Some w.waiting → waits_for_mutex k w.waiting.wait ≡ true → WasWaiting w
  was_waiting w e passes = split (w.thread == by.thread) refl
    where
      itself : w.thread ≡ by.thread → ⊥
      itself same =
          let it : Some w.waiting ≡ Some sleep =
          sym e ∙ ap (waiting_of asleep.machine) same ∙ sleeper in
          let none : option_map_or (λ (v : Waiting). waits_for_mutex k v.wait) (Some w.waiting) false ≡ false = ap (λ (o : Option Waiting). option_map_or (λ (v : Waiting). waits_for_mutex k v.wait) o false) it in
          grind arith

      other : (w.thread == by.thread) ≡ false → MayWake s.machine w.thread
      other h =
          let h' : (by.thread == w.thread) ≡ false = grind arith in
          wait_may s.machine w.thread w.waiting (ap (λ (th : Thread P). waiting_in th.status) (sym (thread-other s.machine by.thread w.thread (put_to_wait sleep) h')) ∙ e) (mutex_not_end k w.waiting.wait passes)

      split : (b : Bool) → (w.thread == by.thread) ≡ b → WasWaiting w
      split true h = absurd (itself (grind arith))
      split false h = (h, other h)

  abbrev MayHandFirst : Option Waiter → Type 0
  MayHandFirst None = somebody_waits s.machine (waits_for_mutex k) ≡ false
  MayHandFirst (Some w) = WasWaiting w

  hand_first : (o : Option Waiter) → best_waiter asleep.machine (waits_for_mutex k) ≡ o → MayHandFirst o
  hand_first None e =
      none_before no_thread by.thread (put_to_wait sleep) (waits_so (waits_for_mutex k)) s.machine.threads (nobody_waits asleep.machine (waits_for_mutex k) e)
      (runs_not_waits (waits_for_mutex k) (thread_at s.machine by.thread) runs.0)
  hand_first (Some w) e = let best = best_waits asleep.machine (waits_for_mutex k) w e in was_waiting w best.0 best.1

  -- ---- it may as well hand over first

  handed_first : (o : Option Waiter) → MayHandFirst o → hands_over o k asleep ≡ blocks by (for_condition c k) due (hands_over o k s)
  handed_first None may = refl
  handed_first (Some w) may = wakes_owner_swap by (for_condition c k) due w.thread may.0 w.waiting.wait (changes_mutex k (taken_by w.thread) s)

  still_runs : (o : Option Waiter) → MayHandFirst o → can_run (hands_over o k s).machine by.thread ≡ true
  still_runs None may = runs.0
  still_runs (Some w) may = ap is_runnable (wakes_owner_other w.thread by.thread may.0 w.waiting.wait (changes_mutex k (taken_by w.thread) s)) ∙ runs.0

  owns_less : (o : Option Waiter) → MayHandFirst o → owns s.machine by.thread k ≡ true → length (owned_by s.machine by.thread) ≤ 1 → owned_by (hands_over o k s).machine by.thread ≡ []
  owns_less None may own few = none_left _ _ (one_less s.machine.mutexes by.thread k freed own (λ x. refl)) few
  owns_less (Some w) may own few =
      ap (λ (ks : List Mutex). owned_in ks by.thread) (wakes_owner_part (λ (m : Machine P). m.mutexes) (λ m threads. refl) w.waiting.wait w.thread (changes_mutex k (taken_by w.thread) s))
      ∙ none_left _ _ (one_less s.machine.mutexes by.thread k (taken_by w.thread) own (λ x. may.0)) few

  may_hand_first : (o : Option Waiter) → MayHandFirst o → MayHand bodies who Law Done keeps stops k s o
  may_hand_first None may = may
  may_hand_first (Some w) may = may.1

  gives_up_keep : owns s.machine by.thread k ≡ true → length (owned_by s.machine by.thread) ≤ 1 → (o : Option Waiter) → MayHandFirst o → Law s → Done (hands_over o k asleep)
  gives_up_keep own few o may q =
      subst Done (sym (handed_first o may))
      (stops.sleeps by (for_condition c k) due (hands_over o k s) (still_runs o may, runs.1) ((still_runs o may, runs.1), owns_less o may own few) (hands_over_keep bodies who Law Done keeps stops o k s (may_hand_first o may) q))

  pub waits_keep : Law s → Done (waits by c k due s)
  waits_keep q =
      branch bodies who Law Done keeps stops (not (owns s.machine by.thread k)) _ _ (λ e. answers_done bodies who Law Done keeps stops by res.Perm 0 s q)
      (λ own. branch bodies who Law Done keeps stops (nat_lt 1 (mutex_at s.machine k).count || somebody_waits s.machine (waits_with_other_mutex c k)) _ _
      (λ e. answers_done bodies who Law Done keeps stops by res.Inval 0 s q)
      (λ e. branch bodies who Law Done keeps stops (nat_lt 1 (length (owned_by s.machine by.thread))) _ _ (λ e. answers_done bodies who Law Done keeps stops by res.Deadlk 0 s q)
      (λ few. let o = best_waiter asleep.machine (waits_for_mutex k) in gives_up_keep (owned own) (at_most few) o (hand_first o refl) q)))
    where
      owned : not (owns s.machine by.thread k) ≡ false → owns s.machine by.thread k ≡ true
      owned e = grind arith

      at_most : nat_lt 1 (length (owned_by s.machine by.thread)) ≡ false → length (owned_by s.machine by.thread) ≤ 1
      at_most e = grind arith
