-- The one that is served first is the machine's best waiter.
use Rattle.std.proofs.Common.{Bool, List, None, Option, Some, [], ap, arith, false, length, refl, suc, sym, true, ◌∙◌, ℕ, ◌+◌, ◌<◌, ◌∷◌, ◌≡◌, if◌then◌else◌}
use Rattle.std.specs.Prelude.{filter, filter_map, map, option_map, slice_index_or}
use Rattle.std.specs.Option.{option_map_or}
use Rattle.words_numbers.specs.Signals.{has_signal}
use Rattle.rules_machine.specs.Conditions.{released_mutex}
use Rattle.rules_machine.specs.Lists.{first_by, first_of, kept_if, numbers_from}
use Rattle.rules_machine.specs.State.{Machine, SignalRecord, Thread, Wait, Waiting, for_condition, for_end, for_message, for_mutex, for_mutex_again, for_room, for_semaphore, for_signal, for_time}
use Rattle.rules_machine.specs.Mutexes.{waits_for_mutex}
use Rattle.rules_machine.specs.Threads.{thread_in, waiting_in, waiting_of}
use Rattle.rules_machine.specs.Priorities.{exec}
use Rattle.rules_machine.specs.Signals.{accepts, acceptor, may_go_to}
use Rattle.rules_machine.specs.Waiters.{Waiter, best_waiter, is_served_before, waiter_of, waiters, waits_so}
use Rattle.parts_waiters.specs.declared.order.Candidate.{Candidate}
use Rattle.parts_waiters.specs.declared.Place.{Place}
use Rattle.parts_waiters.specs.declared.WaitObj.{WaitObj}
use Rattle.parts_waiters.specs.declared.WaitObj.TheVariants.{Mutex}
use Rattle.parts_waiters.specs.Places.{awaiting_at, best_for, best_of, comes_before, place_in, standing_at, with_first}
use Rattle.parts_waiters.specs.Ties.{AreSets, AreWaits, is_object, object_of, place_at, place_of}
use Rattle.parts_waiters.proofs.Firsts.{awaiting_chosen, chosen_from, standing_chosen}

abbrev seen : Waiter → Candidate
seen w = record { thread = w.thread; priority = w.priority; serial = w.waiting.serial }

first_seen : (b : Bool) (x y : Waiter) → (if b then seen y else seen x) ≡ seen (if b then y else x)
first_seen true x y = refl
first_seen false x y = refl

first_of_seen : (x : Waiter) (later : Option Waiter) → first_of comes_before (seen x) (option_map seen later) ≡ seen (first_of is_served_before x later)
first_of_seen x None = refl
first_of_seen x (Some y) = first_seen (is_served_before y x) x y

-- the order is that of the machine
first_by_seen : (ws : List Waiter) → first_by comes_before (map seen ws) ≡ option_map seen (first_by is_served_before ws)
first_by_seen [] = refl
first_by_seen (w ∷ ws) = rw (first_by_seen ws) (ap (λ c. Some c) (first_of_seen w (first_by is_served_before ws)))

thread_of_seen : (w : Option Waiter) → option_map (λ (c : Candidate). c.thread) (option_map seen w) ≡ option_map (λ (x : Waiter). x.thread) w
thread_of_seen None = refl
thread_of_seen (Some w) = refl

-- a thread of which a waiter is made where what it waits for passes
abbrev waiting_candidate : ℕ → ℕ → Waiting → Bool → Option Candidate
waiting_candidate t priority w b = if b then Some (record { thread = t; priority = priority; serial = w.serial }) else None

module _ (f : ℕ → Option Place → Option Candidate) (passes : Wait → Bool) (e : ℕ → ℕ) (waits : ℕ → Option Waiting) (nobody : (t : ℕ) → f t None ≡ None)
    (told : (t : ℕ) (w : Waiting) → waits t ≡ Some w → f t (place_of (e t) (Some w)) ≡ waiting_candidate t (e t) w (passes w.wait)) where
  abbrev waiter : ℕ → Option Waiter
  waiter t = waiter_of t (e t) (waits t)

  kept_waiter : (b : Bool) (t : ℕ) (w : Waiting) (ns : List ℕ) → waits t ≡ Some w →
      with_first (waiting_candidate t (e t) w b) (map seen (filter_map waiter ns)) ≡ map seen (filter_map waiter (kept_if b t ns))
  kept_waiter true t w ns is = rw is refl
  kept_waiter false t w ns is = refl

  one_more : (t : ℕ) (w : Option Waiting) (ns : List ℕ) → waits t ≡ w →
      with_first (f t (place_of (e t) w)) (map seen (filter_map waiter ns)) ≡ map seen (filter_map waiter (kept_if (option_map_or (λ (x : Waiting). passes x.wait) w false) t ns))
  one_more t None ns is = rw (nobody t) refl
  one_more t (Some w) ns is = rw (told t w is) (kept_waiter (passes w.wait) t w ns is)

  chosen_is : {P : Type 0} (n : ℕ) (places : List (Option Place)) (threads : List (Thread P)) → length places ≡ length threads →
      ((i : ℕ) → i < length threads → place_in places i ≡ place_of (e (n + i)) (waiting_in (thread_in threads i).status)) →
      ((i : ℕ) → i < length threads → waits (n + i) ≡ waiting_in (thread_in threads i).status) →
      chosen_from f n places ≡ map seen (filter_map waiter (numbers_from n (waits_so passes) threads))
  chosen_is n [] [] lengths each read = refl
  chosen_is n [] (th ∷ threads) lengths each read = absurd (omega arith)
  chosen_is n (p ∷ places) [] lengths each read = absurd (omega arith)
  chosen_is n (p ∷ places) (th ∷ threads) lengths each read =
      let here : n + 0 ≡ n = omega arith in
      let first : p ≡ place_of (e n) (waiting_in th.status) = (rw here at (each 0 (omega arith))) in
      let own : waits n ≡ waiting_in th.status = (rw here at (read 0 (omega arith))) in
      let rest = chosen_is (n + 1) places threads (omega arith)
      (λ i lt. let far : n + suc i ≡ n + 1 + i = omega arith in rw far at (each (suc i) (omega arith)))
      (λ i lt. let far : n + suc i ≡ n + 1 + i = omega arith in rw far at (read (suc i) (omega arith))) in
      rw (first, rest) (one_more n (waiting_in th.status) (numbers_from (n + 1) (waits_so passes) threads) own)

first_chosen : {P : Type 0} (f : ℕ → Option Place → Option Candidate) (m : Machine P) (passes : Wait → Bool) (places : List (Option Place)) → AreWaits m places → ((t : ℕ) → f t None ≡ None) →
    ((t : ℕ) (w : Waiting) → waiting_of m t ≡ Some w → f t (place_of (exec m t) (Some w)) ≡ waiting_candidate t (exec m t) w (passes w.wait)) →
    option_map (λ (c : Candidate). c.thread) (first_by comes_before (chosen_from f 0 places)) ≡ option_map (λ (w : Waiter). w.thread) (best_waiter m passes)
first_chosen f m passes places ties nobody told =
    let all : chosen_from f 0 places ≡ map seen (waiters m passes) =
    chosen_is f passes (exec m) (waiting_of m) nobody told 0 places m.threads ties.lengths
    (λ i lt. let at : 0 + i ≡ i = omega arith in rw at (ties.each i lt)) (λ i lt. let at : 0 + i ≡ i = omega arith in rw at refl) in
    rw (all, first_by_seen (waiters m passes)) (thread_of_seen (best_waiter m passes))

at_object : (obj : WaitObj) (t priority : ℕ) (w : Waiting) (released : Option ℕ) (o : Option WaitObj) → standing_at t obj (place_at priority w.serial released o) ≡ waiting_candidate t priority w (is_object obj o)
at_object obj t priority w released None = refl
at_object obj t priority w released (Some o) = refl

-- where the places are those of the machine's waits, `best` finds its best waiter
pub best_is : {P : Type 0} (m : Machine P) (obj : WaitObj) (passes : Wait → Bool) (places : List (Option Place)) →
    ((w : Wait) → passes w ≡ is_object obj (object_of w)) → AreWaits m places →
    best_of obj places ≡ option_map (λ (w : Waiter). w.thread) (best_waiter m passes)
best_is m obj passes places same ties =
    ap (λ cs. option_map (λ (c : Candidate). c.thread) (first_by comes_before cs)) (standing_chosen obj 0 places)
    ∙ first_chosen (λ t p. standing_at t obj p) m passes places ties (λ t. refl)
    (λ t w is. at_object obj t (exec m t) w (released_mutex w.wait) (object_of w.wait) ∙ ap (waiting_candidate t (exec m t) w) (sym (same w.wait)))

-- those that wait for a mutex
pub waits_for_mutex_is : (k : ℕ) (w : Wait) → waits_for_mutex k w ≡ is_object (Mutex k) (object_of w)
waits_for_mutex_is k (for_mutex j) = refl
waits_for_mutex_is k (for_mutex_again j how) = refl
waits_for_mutex_is k (for_condition c j) = refl
waits_for_mutex_is k (for_end u) = refl
waits_for_mutex_is k (for_semaphore j) = refl
waits_for_mutex_is k for_time = refl
waits_for_mutex_is k (for_room q message) = refl
waits_for_mutex_is k (for_message q) = refl
waits_for_mutex_is k (for_signal signals) = refl

-- ---- signals

none_kept : (b : Bool) → ◌≡◌ {A = Option Candidate} (if b then None else None) None
none_kept true = refl
none_kept false = refl

awaits_told : (r : SignalRecord) (sets : List ℕ) (t priority serial : ℕ) (w : Wait) → ((set : ℕ) → w ≡ for_signal set → slice_index_or sets t 0 ≡ set) → (x : Waiting) → x.serial ≡ serial →
    awaiting_at r.signal sets t (place_at priority serial (released_mutex w) (object_of w)) ≡ waiting_candidate t priority x (accepts r w)
awaits_told r sets t priority serial (for_mutex j) set x is = none_kept (has_signal (slice_index_or sets t 0) r.signal)
awaits_told r sets t priority serial (for_mutex_again j how) set x is = none_kept (has_signal (slice_index_or sets t 0) r.signal)
awaits_told r sets t priority serial (for_condition c j) set x is = none_kept (has_signal (slice_index_or sets t 0) r.signal)
awaits_told r sets t priority serial (for_end u) set x is = none_kept (has_signal (slice_index_or sets t 0) r.signal)
awaits_told r sets t priority serial (for_semaphore j) set x is = none_kept (has_signal (slice_index_or sets t 0) r.signal)
awaits_told r sets t priority serial for_time set x is = none_kept (has_signal (slice_index_or sets t 0) r.signal)
awaits_told r sets t priority serial (for_room q message) set x is = none_kept (has_signal (slice_index_or sets t 0) r.signal)
awaits_told r sets t priority serial (for_message q) set x is = none_kept (has_signal (slice_index_or sets t 0) r.signal)
awaits_told r sets t priority serial (for_signal signals) set x is = rw (set signals refl, is) refl

all_go : (ws : List Waiter) → filter (λ (w : Waiter). may_go_to w.thread None) ws ≡ ws
all_go [] = refl
all_go (w ∷ ws) = ap (λ xs. w ∷ xs) (all_go ws)

-- where the sets are those of the machine's waits too, `best_for_signal` finds who accepts a signal for the process
pub acceptor_is : {P : Type 0} (m : Machine P) (r : SignalRecord) (sets : List ℕ) (places : List (Option Place)) → r.target ≡ None → AreWaits m places → AreSets m sets →
    best_for r.signal sets places ≡ option_map (λ (w : Waiter). w.thread) (acceptor m r)
acceptor_is m r sets places process ties sets_are =
    ap (λ cs. option_map (λ (c : Candidate). c.thread) (first_by comes_before cs)) (awaiting_chosen r.signal sets 0 places)
    ∙ first_chosen (λ t p. awaiting_at r.signal sets t p) m (accepts r) places ties (λ t. none_kept (has_signal (slice_index_or sets t 0) r.signal))
    (λ t w is. awaits_told r sets t (exec m t) w.serial w.wait (λ set e. sets_are t w set is e) w refl)
    ∙ ap (λ ws. option_map (λ (w : Waiter). w.thread) (first_by is_served_before ws)) (sym (rw process (all_go (waiters m (accepts r)))))
