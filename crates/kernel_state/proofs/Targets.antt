-- Which record the sweep takes, and who accepts one.
use Rattle.std.proofs.Common.{◌≡◌, ◌≢◌, ◌<◌, ◌∙◌, ◌+◌, ℕ, zero, suc, Bool, true, false, List, [], ◌∷◌, None, Option, Some, ap, arith, length, refl, subst, sym}
use Rattle.std.specs.Prelude.{All, Contains, IfSome, filter, filter_map, if◌then◌else◌, nat_lt, not, option_map, slice_index_or, ◌&&◌, ◌||◌, ◌==◌}
use Rattle.std.specs.Option.{option_map_or}
use Rattle.std.proofs.lemmas.List.Elements.{All-contains}
use Rattle.rules_bodies.specs.declared.cursor.Cursor.{Cursor}
use Rattle.words_numbers.specs.Signals.{has_signal}
use Rattle.rules_machine.specs.Delivery.{can_take, may_be_interrupted, may_run_handler, taken_by_sweep}
use Rattle.rules_machine.specs.Lists.{first_by, kept_if, numbers_from}
use Rattle.rules_machine.specs.Priorities.{exec}
use Rattle.rules_machine.specs.Signals.{accepts, acceptor, may_go_to, is_kill, is_selected_before, selected}
use Rattle.rules_machine.specs.State.{Machine, SignalRecord, Thread, Wait, Waiting, for_condition, for_end, for_message, for_mutex, for_mutex_again, for_room, for_semaphore, for_signal, for_time}
use Rattle.rules_machine.specs.Threads.{action_of, is_blocked, no_thread, thread_at, waiting_of}
use Rattle.rules_machine.specs.Waiters.{Waiter, is_served_before, waiter_of, waiters, waits_so}
use Rattle.rules_moves.proofs.Calls.Answers.{acceptor_waits, waits_blocked}
use Rattle.rules_moves.proofs.Waiters.Best.{Each, blocked_within, first_none, first_one}
use Rattle.kernel_signals.proofs.Killing.{none_has}
use Rattle.kernel_signals.specs.Actions.{Kills}
use Rattle.kernel_signals.specs.Choice.{may_take, selected_in}
use Rattle.kernel_threads.specs.Signals.{runs_handlers, signals_awaited, signals_in}

-- ---- which record the sweep takes

below : (s : ℕ) → s < 32 → nat_lt s 32 ≡ true
below s lt = grind (arith, lt)

filter_alike : (p q : SignalRecord → Bool) (x : SignalRecord) (xs : List SignalRecord) → p x ≡ q x → filter p xs ≡ filter q xs → filter p (x ∷ xs) ≡ filter q (x ∷ xs)
filter_alike p q x xs e f = ap (λ b. if b then x ∷ filter p xs else filter p xs) e ∙ ap (λ (rs : List SignalRecord). if q x then x ∷ rs else rs) f

pub taken_alike : (m : Machine Cursor) (t kills : ℕ) → Kills m.actions 32 kills → (pending : List SignalRecord) → All (λ (r : SignalRecord). r.signal < 32) pending →
    filter (may_take t (thread_at m t).mask kills (may_run_handler m t)) pending ≡ filter (can_take m t) pending
taken_alike m t kills are [] small = refl
taken_alike m t kills are (r ∷ pending) small =
    let lt = small 0 r (omega arith) in
    let same : has_signal kills r.signal ≡ is_kill (action_of m r.signal) =
    are.each r.signal lt ∙ ap (λ (b : Bool). b && is_kill (action_of m r.signal)) (below r.signal lt) in
    filter_alike (may_take t (thread_at m t).mask kills (may_run_handler m t)) (can_take m t) r pending
    (ap (λ (b : Bool). may_go_to t r.target && not (has_signal (thread_at m t).mask r.signal) && (b || may_run_handler m t)) same)
    (taken_alike m t kills are pending (λ k d l. small (suc k) d (omega (arith, l))))

-- a record that is pending has a signal from 0 to 31
pub small_signal : (o : Option SignalRecord) (pending : List SignalRecord) → All (λ (r : SignalRecord). r.signal < 32) pending → IfSome o (λ r. Contains pending r) → IfSome o (λ r. r.signal < 32)
small_signal None pending small here = tt
small_signal (Some r) pending small here = All-contains (λ (r : SignalRecord). r.signal < 32) pending r small here

-- ---- what a thread waits for

accepts_in : (r : SignalRecord) (wait : Wait) → has_signal (signals_in wait) r.signal ≡ accepts r wait
accepts_in r (for_mutex k) = none_has r.signal
accepts_in r (for_mutex_again k how) = none_has r.signal
accepts_in r (for_condition c k) = none_has r.signal
accepts_in r (for_end u) = none_has r.signal
accepts_in r (for_semaphore k) = none_has r.signal
accepts_in r for_time = none_has r.signal
accepts_in r (for_room q x) = none_has r.signal
accepts_in r (for_message q) = none_has r.signal
accepts_in r (for_signal awaited) = refl

accepted : (r : SignalRecord) (o : Option Waiting) → has_signal (signals_awaited o) r.signal ≡ option_map_or (λ (w : Waiting). accepts r w.wait) o false
accepted r None = none_has r.signal
accepted r (Some w) = accepts_in r w.wait

pub accepts_so : (m : Machine Cursor) (t signal : ℕ) (b : Bool) → b ≡ has_signal (signals_awaited (waiting_of m t)) signal → (r : SignalRecord) → r.signal ≡ signal → b ≡ waits_so (accepts r) (thread_at m t)
accepts_so m t signal b is r same = is ∙ ap (has_signal (signals_awaited (waiting_of m t))) (sym same) ∙ accepted r (waiting_of m t)

-- ---- who accepts a record

accepting : (m : Machine Cursor) (r : SignalRecord) (Q : ℕ → Type 0) → ((w : Waiter) → acceptor m r ≡ Some w → Q w.thread) → (o : Option Waiter) → acceptor m r ≡ o → IfSome (option_map (λ (w : Waiter). w.thread) o) Q
accepting m r Q all None e = tt
accepting m r Q all (Some w) e = all w e

pub acceptor_blocked : (m : Machine Cursor) (r : SignalRecord) (o : Option ℕ) → o ≡ option_map (λ (w : Waiter). w.thread) (acceptor m r) → IfSome o (λ t. is_blocked (thread_at m t).status ≡ true)
acceptor_blocked m r o is =
    rw is (accepting m r (λ t. is_blocked (thread_at m t).status ≡ true) (λ w e. waits_blocked m w.thread w.waiting (acceptor_waits m r w e).0) (acceptor m r) refl)

pub acceptor_known : (m : Machine Cursor) (r : SignalRecord) (o : Option ℕ) (n : ℕ) → n ≡ length m.threads → o ≡ option_map (λ (w : Waiter). w.thread) (acceptor m r) → IfSome o (λ t. t < n)
acceptor_known m r o n long is =
    rw is (accepting m r (λ t. t < n) (λ w e. (let lt = blocked_within m.threads w.thread (waits_blocked m w.thread w.waiting (acceptor_waits m r w e).0) in omega (arith, lt, long))) (acceptor m r) refl)

-- ---- the thread that a record is for

not_both : {X : Type 0} (b : Bool) → b ≡ false → b ≡ true → X
not_both b off on = let a : true ≡ false = sym on ∙ off in absurd cc

module _ (m : Machine Cursor) (r : SignalRecord) (t : ℕ) (aimed : r.target ≡ Some t) where
  abbrev is_it : Waiter → Bool
  is_it w = may_go_to w.thread r.target

  abbrev at : ℕ → Option Waiter
  at u = waiter_of u (exec m u) (waiting_of m u)

  abbrev waits : Thread Cursor → Bool
  waits th = waits_so (accepts r) th

  it_is : (w : Waiter) → is_it w ≡ true → w.thread ≡ t
  it_is w h = let e : (t == w.thread) ≡ true = rw aimed at h in grind (arith, e)

  is_true : (w : Waiter) → w.thread ≡ t → is_it w ≡ true
  is_true w e = rw (aimed, e) (same t)
    where
      same : (n : ℕ) → (n == n) ≡ true
      same n = grind arith

  all_it : (ws : List Waiter) → Each (λ (w : Waiter). w.thread ≡ t) (filter is_it ws)
  all_it [] = tt
  all_it (w ∷ ws) = by_test (is_it w) refl (all_it ws)
    where
      by_test : (b : Bool) → is_it w ≡ b → Each (λ (w : Waiter). w.thread ≡ t) (filter is_it ws) → Each (λ (w : Waiter). w.thread ≡ t) (filter is_it (w ∷ ws))
      by_test true on rest = rw on (it_is w on, rest)
      by_test false off rest = rw off rest

  one_there : (w : Waiter) (ws : List Waiter) → is_it w ≡ true → filter is_it (w ∷ ws) ≢ []
  one_there w ws on = λ e. (let f : w ∷ filter is_it ws ≡ [] = rw on at e in absurd cc)

  more_there : (w : Waiter) (ws : List Waiter) → filter is_it ws ≢ [] → filter is_it (w ∷ ws) ≢ []
  more_there w ws some = by_test (is_it w) refl
    where
      by_test : (b : Bool) → is_it w ≡ b → filter is_it (w ∷ ws) ≢ []
      by_test true on = one_there w ws on
      by_test false off = λ e. some (rw off at e)

  kept_there : (o : Option Waiting) (u : ℕ) (us : List ℕ) → waiting_of m u ≡ o → filter is_it (filter_map at us) ≢ [] → filter is_it (filter_map at (u ∷ us)) ≢ []
  kept_there None u us e some = rw e some
  kept_there (Some w) u us e some = rw e (more_there (record { thread = u; waiting = w; priority = exec m u }) (filter_map at us) some)

  found_from : (n k : ℕ) (xs : List (Thread Cursor)) (w : Waiting) → k < length xs → waits (slice_index_or xs k no_thread) ≡ true → n + k ≡ t → waiting_of m t ≡ Some w →
      filter is_it (filter_map at (numbers_from n waits xs)) ≢ []
  found_from n k [] w lt on here e = absurd (omega arith)
  found_from n zero (x ∷ xs) w lt on here e =
      let same : n ≡ t = omega arith in
      let first : filter is_it (filter_map at (n ∷ numbers_from (n + 1) waits xs)) ≢ [] =
      rw (same, e) (one_there (record { thread = t; waiting = w; priority = exec m t }) (filter_map at (numbers_from (t + 1) waits xs)) (is_true (record { thread = t; waiting = w; priority = exec m t }) refl)) in
      subst (λ (b : Bool). filter is_it (filter_map at (kept_if b n (numbers_from (n + 1) waits xs))) ≢ []) (sym on) first
  found_from n (suc k) (x ∷ xs) w lt on here e = by_test (waits x) (found_from (n + 1) k xs w (omega arith) on (omega arith) e)
    where
      by_test : (b : Bool) → filter is_it (filter_map at (numbers_from (n + 1) waits xs)) ≢ [] → filter is_it (filter_map at (kept_if b n (numbers_from (n + 1) waits xs))) ≢ []
      by_test true some = kept_there (waiting_of m n) n (numbers_from (n + 1) waits xs) refl some
      by_test false some = some

  waits_on : (w : Waiter) → acceptor m r ≡ Some w → (w.thread ≡ t) × (waits (thread_at m t) ≡ true)
  waits_on w e =
      let it : w.thread ≡ t = first_one (λ (w : Waiter). w.thread ≡ t) is_served_before (filter is_it (waiters m (accepts r))) w (all_it (waiters m (accepts r))) e in
      let so = acceptor_waits m r w e in
      (it, subst (λ (u : ℕ). waits (thread_at m u) ≡ true) it (rw so.0 so.1))

  somebody : (o : Option Waiting) → waiting_of m t ≡ o → t < length m.threads → waits (thread_at m t) ≡ true → acceptor m r ≢ None
  somebody None e lt on = λ none. not_both (waits (thread_at m t)) (rw e refl) on
  somebody (Some w) e lt on = λ none. found_from 0 t m.threads w lt on (omega arith) e (first_none is_served_before (filter is_it (waiters m (accepts r))) none)

  pub aimed_at : (b : Bool) → b ≡ waits (thread_at m t) → t < length m.threads → (if b then Some t else None) ≡ option_map (λ (w : Waiter). w.thread) (acceptor m r)
  aimed_at b is lt = by_acceptor (acceptor m r) refl b is
    where
      by_acceptor : (o : Option Waiter) → acceptor m r ≡ o → (b : Bool) → b ≡ waits (thread_at m t) → (if b then Some t else None) ≡ option_map (λ (w : Waiter). w.thread) o
      by_acceptor None e true is = absurd (somebody (waiting_of m t) refl lt (sym is) e)
      by_acceptor None e false is = refl
      by_acceptor (Some w) e true is = ap Some (sym (waits_on w e).0)
      by_acceptor (Some w) e false is = not_both (waits (thread_at m t)) (sym is) (waits_on w e).1

-- what is found for the thread is what the sweep takes
pub taken_is : (m : Machine Cursor) (t mask kills : ℕ) (runs b : Bool) (o : Option SignalRecord) → mask ≡ (thread_at m t).mask → runs ≡ runs_handlers (thread_at m t).status → Kills m.actions 32 kills →
    All (λ (r : SignalRecord). r.signal < 32) m.pending → b ≡ may_be_interrupted (thread_at m t) → b ≡ true → o ≡ selected_in m.pending (may_take t mask kills runs) → o ≡ taken_by_sweep m t
taken_is m t mask kills runs b o same_mask same_runs are small may on is =
    is
    ∙ ap (λ (n : ℕ). selected_in m.pending (may_take t n kills runs)) same_mask
    ∙ ap (λ (c : Bool). selected_in m.pending (may_take t (thread_at m t).mask kills c)) same_runs
    ∙ ap (first_by is_selected_before) (taken_alike m t kills are m.pending small)
    ∙ sym (ap (λ (c : Bool). if c then selected m (can_take m t) else None) (sym may ∙ on))

-- ---- a thread that takes none

not_gone : (go masked runs : Bool) → masked ≡ true → (go && not masked && runs) ≡ false
not_gone true true runs e = refl
not_gone false true runs e = refl
not_gone go false runs e = absurd cc

none_can : (m : Machine Cursor) (t : ℕ) (pending : List SignalRecord) → All (λ (r : SignalRecord). has_signal (thread_at m t).mask r.signal ≡ true) pending → filter (can_take m t) pending ≡ []
none_can m t [] all = refl
none_can m t (r ∷ pending) all =
    let no : can_take m t r ≡ false = not_gone (may_go_to t r.target) (has_signal (thread_at m t).mask r.signal) (is_kill (action_of m r.signal) || may_run_handler m t) (all 0 r (omega arith)) in
    ap (λ (b : Bool). if b then r ∷ filter (can_take m t) pending else filter (can_take m t) pending) no ∙ none_can m t pending (λ k d l. all (suc k) d (omega (arith, l)))

-- its mask has the signals of all
pub masked_takes_none : (m : Machine Cursor) (t : ℕ) → All (λ (r : SignalRecord). has_signal (thread_at m t).mask r.signal ≡ true) m.pending → taken_by_sweep m t ≡ None
masked_takes_none m t all = by_case (may_be_interrupted (thread_at m t))
  where
    by_case : (b : Bool) → (if b then selected m (can_take m t) else None) ≡ None
    by_case true = ap (first_by is_selected_before) (none_can m t m.pending all)
    by_case false = refl
