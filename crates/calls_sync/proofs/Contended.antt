-- What the calls of conditions count on stays, where a thread contends for its mutex.
use Rattle.std.proofs.Common.{◌≡◌, ◌≤◌, ◌+◌, ◌∙◌, ◌⊎◌, inl, inr, ℕ, zero, suc, Bool, true, false, List, [], ◌∷◌, Option, None, Some, ap, arith, length, length-append, refl, subst, sym}
use Rattle.std.specs.Prelude.{filter, option_and_then, ◌==◌, if◌then◌else◌}
use Rattle.words_numbers.specs.declared.res.Res.{Res}
use Rattle.words_numbers.specs.declared.res.Res.TheVariants as res
use Rattle.std.specs.Option.{option_map_or}
use Rattle.rules_server.specs.Server.{ServerState, activate}
use Rattle.rules_machine.specs.Servers.{activates_server, at_once, high_server, with_server}
use Rattle.words_trace.specs.declared.event.Event.{Event}
use Rattle.words_trace.specs.declared.event.Event.TheVariants as event
use Rattle.rules_bodies.specs.declared.cursor.Cursor.{Cursor}
use Rattle.rules_machine.specs.declared.thread.CondEnd.{CondEnd}
use Rattle.rules_machine.specs.declared.thread.CondEnd.TheVariants as cond_end
use Rattle.rules_machine.specs.CallNames.{name_of}
use Rattle.rules_machine.specs.Conditions.{contends, reacquires_or_waits, released_mutex, signals_best, signals_waiter, waits_on_condition}
use Rattle.rules_machine.specs.GoodState.{is_in_condition_wait}
use Rattle.rules_machine.specs.Lists.{changed_at, is}
use Rattle.rules_machine.specs.Mutexes.{is_free, owned_by, returns_from_wait, taken_by}
use Rattle.rules_machine.specs.State.{Machine, Mutex, Status, Thread, Wait, Waiting, blocked, dormant, ended, for_condition, for_mutex_again, runnable}
use Rattle.rules_machine.specs.Threads.{can_run, is_blocked, is_runnable, no_mutex, no_thread, thread_at, waiting_in, waiting_of}
use Rattle.rules_machine.specs.Turns.{Caller, Turn, changes, changes_mutex, moves, tells, ◌▷◌}
use Rattle.rules_machine.specs.Waiters.{Waiter, best_waiter, waits_so}
use Rattle.rules_machine.specs.Waking.{blocks, call_in, cancelled_value, ending_with, last_result, last_value, put_to_wait, wakes_telling, woken}
use Rattle.rules_machine.proofs.Reading.{changed-length, thread-other}
use Rattle.rules_moves.proofs.Calls.Answers.{waits_blocked}
use Rattle.rules_moves.proofs.Calls.Commuting.{woken_runs}
use Rattle.rules_moves.proofs.Waiters.OfThreads.{changed_is}
use Rattle.kernel_threads.specs.Unused.{IsUnused}
use Rattle.kernel_wakes.specs.Waits.{WaitKnowsMutex, OwnsNone, WaitsFit}
use Rattle.calls_sync.proofs.Kept.{kept_fits}
use Rattle.calls_sync.proofs.Resting.{only_blocked}

not_both : {X : Type 0} (b : Bool) → b ≡ false → b ≡ true → X
not_both b off on = let a : true ≡ false = sym on ∙ off in absurd cc

same_number : (t u : ℕ) → (t == u) ≡ true → t ≡ u
same_number t u e = grind arith

-- ---- a thread that runs

runs_built : (n : ℕ) (status : Status) → is_runnable status ≡ true → WaitKnowsMutex n (waiting_in status)
runs_built n (dormant at) e = tt
runs_built n runnable e = tt
runs_built n (blocked w) e = absurd cc
runs_built n ended e = tt

runs_unblocked : (status : Status) → is_runnable status ≡ true → is_blocked status ≡ false
runs_unblocked (dormant at) e = refl
runs_unblocked runnable e = refl
runs_unblocked (blocked w) e = absurd cc
runs_unblocked ended e = refl

runs_waits : (status : Status) → is_runnable status ≡ true → option_map_or (λ (w : Waiting). is_in_condition_wait w.wait) (waiting_in status) false ≡ false
runs_waits (dormant at) e = refl
runs_waits runnable e = refl
runs_waits (blocked w) e = absurd cc
runs_waits ended e = refl

-- ---- the mutexes that another thread owns

others_own : (t u k : ℕ) (ks : List Mutex) → (t == u) ≡ false → filter (λ (j : Mutex). is j.owner u) ks ≡ [] → filter (λ (j : Mutex). is j.owner u) (changed_at no_mutex k (taken_by t) ks) ≡ []
others_own t u k [] other none = refl
others_own t u zero (j ∷ ks) other none = by_case (is j.owner u) refl
  where
    by_case : (b : Bool) → is j.owner u ≡ b → filter (λ (i : Mutex). is i.owner u) (taken_by t j ∷ ks) ≡ []
    by_case true e = absurd (let f : j ∷ filter (λ (i : Mutex). is i.owner u) ks ≡ [] = rw e at none in cc)
    by_case false e = let f : filter (λ (i : Mutex). is i.owner u) ks ≡ [] = rw e at none in rw (other, f) refl
others_own t u (suc k) (j ∷ ks) other none = by_case (is j.owner u) refl (others_own t u k ks other)
  where
    by_case : (b : Bool) → is j.owner u ≡ b → (filter (λ (i : Mutex). is i.owner u) ks ≡ [] → filter (λ (i : Mutex). is i.owner u) (changed_at no_mutex k (taken_by t) ks) ≡ []) →
        filter (λ (i : Mutex). is i.owner u) (j ∷ changed_at no_mutex k (taken_by t) ks) ≡ []
    by_case true e rest = absurd (let f : j ∷ filter (λ (i : Mutex). is i.owner u) ks ≡ [] = rw e at none in cc)
    by_case false e rest = let f : filter (λ (i : Mutex). is i.owner u) ks ≡ [] = rw e at none in rw e (rest f)

-- ---- a thread wakes that owns its mutex now

activated_other : (t u : ℕ) (o : Option ServerState) (s : Turn Cursor) → (t == u) ≡ false → thread_at (activates_server t o s).machine u ≡ thread_at s.machine u
activated_other t u None s other = refl
activated_other t u (Some server) s other = thread-other s.machine t u (with_server (activate s.machine.now)) other

woken_thread : (e : Event) (t u : ℕ) (r : Res) (v : ℕ) (s : Turn Cursor) → (t == u) ≡ false → thread_at (wakes_telling e t r v s).machine u ≡ thread_at s.machine u
woken_thread e t u r v s other =
    let up = tells e (moves t (changes t (woken r v) s)) in
    activated_other t u (at_once (high_server (thread_at up.machine t).server)) up other ∙ thread-other s.machine t u (woken r v) other

woken_mutexes : (e : Event) (t : ℕ) (r : Res) (v : ℕ) (s : Turn Cursor) → (wakes_telling e t r v s).machine.mutexes ≡ s.machine.mutexes
woken_mutexes e t r v s = kept_mutexes (at_once (high_server (thread_at (tells e (moves t (changes t (woken r v) s))).machine t).server))
  where
    kept_mutexes : (o : Option ServerState) → (activates_server t o (tells e (moves t (changes t (woken r v) s)))).machine.mutexes ≡ s.machine.mutexes
    kept_mutexes None = refl
    kept_mutexes (Some server) = refl

taken_fits : (e : Event) (t k : ℕ) (r : Res) (v : ℕ) (s : Turn Cursor) → is_blocked (thread_at s.machine t).status ≡ true → WaitsFit s.machine → WaitsFit (s ▷ changes_mutex k (taken_by t) ▷ wakes_telling e t r v).machine
taken_fits d t k r v s waits h = record { mutexes = λ u. mutexes_at u (t == u) refl; rests = λ u e. rests u (t == u) refl e; own_none = λ u e. own_none u (t == u) refl e }
  where
    mid : Turn Cursor
    mid = changes_mutex k (taken_by t) s

    after : Machine Cursor
    after = (wakes_telling d t r v mid).machine

    runs : can_run after t ≡ true
    runs = woken_runs d t r v mid waits

    many : length after.mutexes ≡ length s.machine.mutexes
    many = ap length (woken_mutexes d t r v mid) ∙ changed-length no_mutex k (taken_by t) s.machine.mutexes

    mutexes_at : (u : ℕ) (b : Bool) → (t == u) ≡ b → WaitKnowsMutex (length after.mutexes) (waiting_in (thread_at after u).status)
    mutexes_at u true it = subst (λ (i : ℕ). WaitKnowsMutex (length after.mutexes) (waiting_in (thread_at after i).status)) (same_number t u it) (runs_built (length after.mutexes) (thread_at after t).status runs)
    mutexes_at u false other =
        subst (λ (n : ℕ). WaitKnowsMutex n (waiting_in (thread_at after u).status)) (sym many)
        (subst (λ (th : Thread Cursor). WaitKnowsMutex (length s.machine.mutexes) (waiting_in th.status)) (sym (woken_thread d t u r v mid other)) (h.mutexes u))

    rests : (u : ℕ) (b : Bool) → (t == u) ≡ b → is_blocked (thread_at after u).status ≡ true → IsUnused (thread_at after u).server
    rests u true it e = not_both (is_blocked (thread_at after t).status) (runs_unblocked (thread_at after t).status runs) (subst (λ (i : ℕ). is_blocked (thread_at after i).status ≡ true) (sym (same_number t u it)) e)
    rests u false other e =
        let same = woken_thread d t u r v mid other in
        subst (λ (th : Thread Cursor). IsUnused th.server) (sym same) (h.rests u (sym (ap (λ (th : Thread Cursor). is_blocked th.status) same) ∙ e))

    own_none : (u : ℕ) (b : Bool) → (t == u) ≡ b → waits_so is_in_condition_wait (thread_at after u) ≡ true → owned_by after u ≡ []
    own_none u true it e = not_both (waits_so is_in_condition_wait (thread_at after t)) (runs_waits (thread_at after t).status runs) (subst (λ (i : ℕ). waits_so is_in_condition_wait (thread_at after i) ≡ true) (sym (same_number t u it)) e)
    own_none u false other e =
        let same = woken_thread d t u r v mid other in
        let before = h.own_none u (sym (ap (λ (th : Thread Cursor). waits_so is_in_condition_wait th) same) ∙ e) in
        ap (filter (λ (j : Mutex). is j.owner u)) (woken_mutexes d t r v mid) ∙ others_own t u k s.machine.mutexes other before

-- ---- a thread waits for its mutex again

again_fits : (by : Caller) (k : ℕ) (how : CondEnd) (s : Turn Cursor) → is_blocked (thread_at s.machine by.thread).status ≡ true → OwnsNone s.machine by.thread →
    WaitsFit s.machine → WaitsFit (blocks by (for_mutex_again k how) None s).machine
again_fits by k how s waits none h = record {
  mutexes = only_blocked by (for_mutex_again k how) None s tt h.mutexes;
  rests = λ u e. rests u (changed_is no_thread by.thread u (put_to_wait own) s.machine.threads) e;
  own_none = λ u e. own_none u (changed_is no_thread by.thread u (put_to_wait own) s.machine.threads) e;
}
  where
    own : Waiting
    own = record { wait = for_mutex_again k how; serial = s.machine.next_serial; due = None; call = by.call }

    after : Machine Cursor
    after = (blocks by (for_mutex_again k how) None s).machine

    Cases : ℕ → Type 0
    Cases u = ((by.thread ≡ u) × (thread_at after u ≡ put_to_wait own (thread_at s.machine by.thread))) ⊎ (thread_at after u ≡ thread_at s.machine u)

    rests : (u : ℕ) → Cases u → is_blocked (thread_at after u).status ≡ true → IsUnused (thread_at after u).server
    rests u (inl (same, at)) e = subst (λ (th : Thread Cursor). IsUnused th.server) (sym at) (h.rests by.thread waits)
    rests u (inr at) e = subst (λ (th : Thread Cursor). IsUnused th.server) (sym at) (h.rests u (sym (ap (λ (th : Thread Cursor). is_blocked th.status) at) ∙ e))

    own_none : (u : ℕ) → Cases u → waits_so is_in_condition_wait (thread_at after u) ≡ true → owned_by after u ≡ []
    own_none u (inl (same, at)) e = subst (λ (i : ℕ). owned_by s.machine i ≡ []) same none
    own_none u (inr at) e = h.own_none u (sym (ap (λ (th : Thread Cursor). waits_so is_in_condition_wait th) at) ∙ e)

-- ---- a thread contends

-- the call in which it waits
abbrev told_in : (t : ℕ) (r : Res) (s : Turn Cursor) → Event
told_in t r s = event.Return t (name_of (call_in (waiting_of s.machine t))) r 0

returned_fits : (how : CondEnd) (t k : ℕ) (s : Turn Cursor) → is_blocked (thread_at s.machine t).status ≡ true → WaitsFit s.machine →
    WaitsFit (s ▷ changes_mutex k (taken_by t) ▷ returns_from_wait how t).machine
returned_fits cond_end.Signalled t k s waits h = taken_fits (told_in t res.Zero s) t k res.Zero 0 s waits h
returned_fits cond_end.Timedout t k s waits h = taken_fits (told_in t res.Timedout s) t k res.Timedout 0 s waits h
returned_fits cond_end.Cancelled t k s waits h =
    kept_fits t (ending_with cancelled_value) (s ▷ changes_mutex k (taken_by t) ▷ wakes_telling (event.Cancel t) t (last_result t s.machine) (last_value t s.machine)) (λ th. refl) (λ th. refl)
    (taken_fits (event.Cancel t) t k (last_result t s.machine) (last_value t s.machine) s waits h)

contended_fits : (t k : ℕ) (how : CondEnd) (s : Turn Cursor) → is_blocked (thread_at s.machine t).status ≡ true → OwnsNone s.machine t → WaitsFit s.machine →
    WaitsFit (reacquires_or_waits (Some k) t how s).machine
contended_fits t k how s waits none h = by_free (is_free s.machine k)
  where
    by_free : (b : Bool) → WaitsFit (if b then (s ▷ changes_mutex k (taken_by t) ▷ returns_from_wait how t)
        else blocks (record { thread = t; call = call_in (waiting_of s.machine t) }) (for_mutex_again k how) None s).machine
    by_free true = returned_fits how t k s waits h
    by_free false = again_fits (record { thread = t; call = call_in (waiting_of s.machine t) }) k how s waits none h

in_condition : (m : Machine Cursor) (t : ℕ) (w : Waiting) → waiting_of m t ≡ Some w → is_in_condition_wait w.wait ≡ true → waits_so is_in_condition_wait (thread_at m t) ≡ true
in_condition m t w waits is = rw waits is

-- it leaves its condition only from a condition wait
pub contends_fits : (t : ℕ) (how : CondEnd) (s : Turn Cursor) → WaitsFit s.machine → WaitsFit (contends t how s).machine
contends_fits t how s h = by_wait (waiting_of s.machine t) refl
  where
    by_object : (w : Waiting) (x : Wait) → waiting_of s.machine t ≡ Some w → w.wait ≡ x → WaitsFit (reacquires_or_waits (released_mutex x) t how s).machine
    by_object w (for_condition c k) e is =
        contended_fits t k how s (waits_blocked s.machine t w e) (h.own_none t (in_condition s.machine t w e (ap is_in_condition_wait is))) h
    by_object w _ e is = h

    by_wait : (o : Option Waiting) → waiting_of s.machine t ≡ o → WaitsFit (reacquires_or_waits (option_and_then (λ (w : Waiting). released_mutex w.wait) o) t how s).machine
    by_wait None e = h
    by_wait (Some w) e = by_object w w.wait e refl

-- ---- and it takes one serial and one direct move at most

pub record Grows (s r : Turn Cursor) : Type 0 where
  pub moves : length r.direct ≤ length s.direct + 1
  pub serial : r.machine.next_serial ≤ s.machine.next_serial + 1
  pub time : r.machine.now ≡ s.machine.now

stays_same : (s : Turn Cursor) → Grows s s
stays_same s = record { moves = omega arith; serial = omega arith; time = refl }

activated_grows : (t : ℕ) (o : Option ServerState) (s r : Turn Cursor) → Grows s r → Grows s (activates_server t o r)
activated_grows t None s r h = h
activated_grows t (Some server) s r h = record { moves = h.moves; serial = h.serial; time = h.time }

woken_grows : (e : Event) (t k : ℕ) (r : Res) (v : ℕ) (s : Turn Cursor) → Grows s (s ▷ changes_mutex k (taken_by t) ▷ wakes_telling e t r v)
woken_grows e t k r v s =
    let mid = changes_mutex k (taken_by t) s in
    let up = tells e (moves t (changes t (woken r v) mid)) in
    activated_grows t (at_once (high_server (thread_at up.machine t).server)) s up
    (record { moves = (let e = length-append s.direct (t ∷ []) in omega (arith, e)); serial = omega arith; time = refl })

returned_grows : (how : CondEnd) (t k : ℕ) (s : Turn Cursor) → Grows s (s ▷ changes_mutex k (taken_by t) ▷ returns_from_wait how t)
returned_grows cond_end.Signalled t k s = woken_grows (told_in t res.Zero s) t k res.Zero 0 s
returned_grows cond_end.Timedout t k s = woken_grows (told_in t res.Timedout s) t k res.Timedout 0 s
returned_grows cond_end.Cancelled t k s = let g = woken_grows (event.Cancel t) t k (last_result t s.machine) (last_value t s.machine) s in record { moves = g.moves; serial = g.serial; time = g.time }

pub contends_grows : (t : ℕ) (how : CondEnd) (s : Turn Cursor) → Grows s (contends t how s)
contends_grows t how s = by_mutex (option_and_then (λ (w : Waiting). released_mutex w.wait) (waiting_of s.machine t))
  where
    by_free : (k : ℕ) (b : Bool) → Grows s (if b then (s ▷ changes_mutex k (taken_by t) ▷ returns_from_wait how t)
        else blocks (record { thread = t; call = call_in (waiting_of s.machine t) }) (for_mutex_again k how) None s)
    by_free k true = returned_grows how t k s
    by_free k false = record { moves = omega arith; serial = omega arith; time = refl }

    by_mutex : (o : Option ℕ) → Grows s (reacquires_or_waits o t how s)
    by_mutex None = stays_same s
    by_mutex (Some k) = by_free k (is_free s.machine k)

signalled_fits : (o : Option Waiter) (s : Turn Cursor) → WaitsFit s.machine → WaitsFit (signals_waiter o s).machine
signalled_fits None s h = h
signalled_fits (Some w) s h = contends_fits w.thread cond_end.Signalled s h

signalled_grows : (o : Option Waiter) (s : Turn Cursor) → Grows s (signals_waiter o s)
signalled_grows None s = stays_same s
signalled_grows (Some w) s = contends_grows w.thread cond_end.Signalled s

pub signals_fit : (c : ℕ) (s : Turn Cursor) → WaitsFit s.machine → WaitsFit (signals_best c s).machine
signals_fit c s h = signalled_fits (best_waiter s.machine (waits_on_condition c)) s h

pub signals_grow : (c : ℕ) (s : Turn Cursor) → Grows s (signals_best c s)
signals_grow c s = signalled_grows (best_waiter s.machine (waits_on_condition c)) s
