-- What a setting of CLOCK_REALTIME leaves of threads, timers and their ties.
use Rattle.std.proofs.Common.{◌≡◌, ◌∙◌, ◌≤◌, ◌<◌, ℕ, zero, suc, List, [], ◌∷◌, Bool, true, false, None, Option, Some, ap, arith, inl, inr, length, refl, sym}
use Rattle.std.specs.Prelude.{nat_lt, option_and_then, slice_index_or, slice_set}
use Rattle.std.specs.Option.{option_map}
use Rattle.std.proofs.Math.Arith.{lt_of_le-ne}
use Rattle.std.proofs.lemmas.Bool.Decides.{eqb_tells, nat_tests}
use Rattle.std.proofs.lemmas.List.{set-get_or}
use Rattle.rules_bodies.specs.declared.cursor.Cursor.{Cursor}
use Rattle.rules_machine.specs.Clock.{moved_if, status_moved, thread_moved, timer_moved, waits_on_real}
use Rattle.rules_machine.specs.Lists.{changed_at}
use Rattle.rules_machine.specs.Priorities.{assigned_of, claim_of, claims, exec_in, mutex_waited}
use Rattle.rules_machine.specs.State.{Status, Thread, Timer, Waiting, blocked, dormant, ended, runnable}
use Rattle.rules_machine.specs.Threads.{is_runnable, no_thread, no_timer, thread_in, waiting_in}
use Rattle.rules_machine.proofs.Reading.{changed-keeps, changed-length, changed-map, changed-other, changed-same}
use Rattle.parts_waiters.specs.declared.Place.{Place}
use Rattle.parts_waiters.specs.Ties.{place_of}
use Rattle.parts_owners.specs.Chains.{Links}
use Rattle.kernel_threads.specs.RealDues.{real_due_if, real_due_in}
use Rattle.kernel_timers.specs.Timers.{timer_in}
use Rattle.kernel_table.specs.Settings.{threads_moved, timer_real_due, timers_moved, times_moved}
use Rattle.kernel_table.specs.Table.{Table, exec, thread_at, with_thread, with_timer}
use Rattle.kernel_table.specs.Tied.{IsTied}

-- ---- a thread keeps its claim and its place among the waiters

awaited_kept : (move : ℕ → ℕ) (s : Status) →
    option_and_then (λ (w : Waiting). mutex_waited w.wait) (waiting_in (status_moved move s)) ≡ option_and_then (λ (w : Waiting). mutex_waited w.wait) (waiting_in s)
awaited_kept move (dormant at) = refl
awaited_kept move runnable = refl
awaited_kept move (blocked w) = refl
awaited_kept move ended = refl

pub claim_kept : (move : ℕ → ℕ) (th : Thread Cursor) → claim_of (thread_moved move th) ≡ claim_of th
claim_kept move th = ap (λ (o : Option ℕ). record { assigned = assigned_of th; awaited = o }) (awaited_kept move th.status)

place_kept : (move : ℕ → ℕ) (e : ℕ) (s : Status) → place_of e (waiting_in (status_moved move s)) ≡ place_of e (waiting_in s)
place_kept move e (dormant at) = refl
place_kept move e runnable = refl
place_kept move e (blocked w) = refl
place_kept move e ended = refl

pub moved_tied : (threads : List (Thread Cursor)) (chain : Links) (places : List (Option Place)) (t : ℕ) (move : ℕ → ℕ) →
    IsTied threads chain places → IsTied (changed_at no_thread t (thread_moved move) threads) chain places
moved_tied threads chain places t move tied =
    let long = changed-length no_thread t (thread_moved move) threads in
    let kept : claims (changed_at no_thread t (thread_moved move) threads) ≡ claims threads = changed-map no_thread t (thread_moved move) claim_of (claim_kept move) threads in
    record {
      few = rw long tied.few;
      claims = tied.claims ∙ sym kept;
      waiting = record {
        lengths = tied.waiting.lengths ∙ sym long;
        each = λ u lt. let e = exec_in (claims threads) chain.mutexes u in rw kept (tied.waiting.each u (omega (arith, lt, long))
            ∙ sym (changed-keeps no_thread t u (thread_moved move) (λ (th : Thread Cursor). place_of e (waiting_in th.status)) (λ th. place_kept move e th.status) threads));
      };
    }

-- ---- which threads and timers move

due_moved : (move : ℕ → ℕ) (at : ℕ) (due : Option ℕ) (b : Bool) → real_due_if due b ≡ Some at → moved_if b (λ (x : ℕ). move at) due ≡ moved_if b move due
due_moved move at None true e = refl
due_moved move at None false e = refl
due_moved move at (Some due) true e = let same : due ≡ at = grind (arith, e) in ap (λ (x : ℕ). Some (move x)) (sym same)
due_moved move at (Some due) false e = refl

due_left : (move : ℕ → ℕ) (due : Option ℕ) (b : Bool) → real_due_if due b ≡ None → moved_if b move due ≡ due
due_left move None true e = refl
due_left move None false e = refl
due_left move (Some due) true e = absurd cc
due_left move (Some due) false e = refl

status_to : (move : ℕ → ℕ) (at : ℕ) (s : Status) → real_due_in s ≡ Some at → status_moved (λ (x : ℕ). move at) s ≡ status_moved move s
status_to move at (dormant start) e = refl
status_to move at runnable e = refl
status_to move at (blocked w) e = ap (λ (due : Option ℕ). blocked (record w { due = due })) (due_moved move at w.due (waits_on_real w.call) e)
status_to move at ended e = refl

status_left : (move : ℕ → ℕ) (s : Status) → real_due_in s ≡ None → status_moved move s ≡ s
status_left move (dormant start) e = refl
status_left move runnable e = refl
status_left move (blocked w) e = ap (λ (due : Option ℕ). blocked (record w { due = due })) (due_left move w.due (waits_on_real w.call) e)
status_left move ended e = refl

-- the one due tick that a thread has moves
pub one_thread : (move : ℕ → ℕ) (at t : ℕ) (table : Table) → real_due_in (thread_at table t).status ≡ Some at →
    with_thread t (thread_moved (λ (x : ℕ). move at)) table ≡ with_thread t (thread_moved move) table
one_thread move at t table e =
    ap (λ (s : Status). record table { threads = slice_set table.threads t (record (thread_at table t) { status = s }) }) (status_to move at (thread_at table t).status e)

-- or none
pub no_thread_moves : (move : ℕ → ℕ) (t : ℕ) (table : Table) → real_due_in (thread_at table t).status ≡ None → with_thread t (thread_moved move) table ≡ table
no_thread_moves move t table e =
    ap (λ (s : Status). record table { threads = slice_set table.threads t (record (thread_at table t) { status = s }) }) (status_left move (thread_at table t).status e)
    ∙ ap (λ (ths : List (Thread Cursor)). record table { threads = ths }) (set-get_or table.threads t no_thread)

timer_to : (move : ℕ → ℕ) (at : ℕ) (k : Timer) → timer_real_due k ≡ Some at → record k { due = Some (move at) } ≡ timer_moved move k
timer_to move at k e = by_case k.due k.is_reading e
  where
    by_case : (due : Option ℕ) (b : Bool) → real_due_if due b ≡ Some at → record k { due = Some (move at) } ≡ record k { due = moved_if b move due }
    by_case None b h = absurd cc
    by_case (Some due) true h = let same : due ≡ at = grind (arith, h) in ap (λ (x : ℕ). record k { due = Some (move x) }) (sym same)
    by_case (Some due) false h = absurd cc

timer_left : (move : ℕ → ℕ) (k : Timer) → timer_real_due k ≡ None → timer_moved move k ≡ k
timer_left move k e = ap (λ (due : Option ℕ). record k { due = due }) (due_left move k.due k.is_reading e)

pub one_timer : (move : ℕ → ℕ) (at k : ℕ) (table : Table) → timer_real_due (timer_in table.timers k) ≡ Some at →
    with_timer k (λ (x : Timer). record x { due = Some (move at) }) table ≡ with_timer k (timer_moved move) table
one_timer move at k table e = ap (λ (x : Timer). record table { timers = slice_set table.timers k x }) (timer_to move at (timer_in table.timers k) e)

pub no_timer_moves : (move : ℕ → ℕ) (k : ℕ) (table : Table) → timer_real_due (timer_in table.timers k) ≡ None → with_timer k (timer_moved move) table ≡ table
no_timer_moves move k table e =
    ap (λ (x : Timer). record table { timers = slice_set table.timers k x }) (timer_left move (timer_in table.timers k) e)
    ∙ ap (λ (ks : List Timer). record table { timers = ks }) (set-get_or table.timers k no_timer)

-- ---- one after another

pub threads_long : (move : ℕ → ℕ) (n : ℕ) (table : Table) → length (threads_moved move n table).threads ≡ length table.threads
threads_long move zero table = refl
threads_long move (suc n) table = changed-length no_thread n (thread_moved move) (threads_moved move n table).threads ∙ threads_long move n table

pub threads_later : (move : ℕ → ℕ) (n u : ℕ) (table : Table) → n ≤ u → thread_at (threads_moved move n table) u ≡ thread_at table u
threads_later move zero u table le = refl
threads_later move (suc n) u table le =
    changed-other no_thread no_thread n u (thread_moved move) (threads_moved move n table).threads (grind (arith, le)) ∙ threads_later move n u table (omega (arith, le))

pub timers_same : (move : ℕ → ℕ) (n : ℕ) (table : Table) → (threads_moved move n table).timers ≡ table.timers
timers_same move zero table = refl
timers_same move (suc n) table = timers_same move n table

pub timers_long : (move : ℕ → ℕ) (n : ℕ) (table : Table) → length (timers_moved move n table).timers ≡ length table.timers
timers_long move zero table = refl
timers_long move (suc n) table = changed-length no_timer n (timer_moved move) (timers_moved move n table).timers ∙ timers_long move n table

pub timers_later : (move : ℕ → ℕ) (n j : ℕ) (table : Table) → n ≤ j → timer_in (timers_moved move n table).timers j ≡ timer_in table.timers j
timers_later move zero j table le = refl
timers_later move (suc n) j table le =
    changed-other no_timer no_timer n j (timer_moved move) (timers_moved move n table).timers (grind (arith, le)) ∙ timers_later move n j table (omega (arith, le))

-- the expiries of timers change no priority
pub timers_keep : (move : ℕ → ℕ) (n u : ℕ) (table : Table) → exec (timers_moved move n table) u ≡ exec table u
timers_keep move zero u table = refl
timers_keep move (suc n) u table = timers_keep move n u table

-- ---- what is then due

-- of a thread or a timer that there is not
pub beyond : {X : Type 0} (none : X) (xs : List X) (n : ℕ) → length xs ≤ n → slice_index_or xs n none ≡ none
beyond none [] n le = refl
beyond none (x ∷ xs) zero le = absurd (omega arith)
beyond none (x ∷ xs) (suc n) le = beyond none xs n (omega (arith, le))

thread_done : (move : ℕ → ℕ) (n t : ℕ) (table : Table) → t < n → t < length table.threads → thread_at (threads_moved move n table) t ≡ thread_moved move (thread_at table t)
thread_done move zero t table lt known = absurd (omega arith)
thread_done move (suc n) t table lt known = elim (eqb_tells n t) [
  | inl same ↦ ap (λ (u : ℕ). thread_at (threads_moved move (suc n) table) u) (sym same.1)
      ∙ changed-same no_thread no_thread n (thread_moved move) (threads_moved move n table).threads (let it = same.1 in let long = threads_long move n table in omega (arith, it, long, known))
      ∙ ap (thread_moved move) (threads_later move n n table (omega arith)) ∙ ap (λ (u : ℕ). thread_moved move (thread_at table u)) same.1
  | inr other ↦ changed-other no_thread no_thread n t (thread_moved move) (threads_moved move n table).threads other.0
      ∙ thread_done move n t table (lt_of_le-ne (omega (arith, lt)) (λ e. other.1 (sym e))) known
]

timer_done : (move : ℕ → ℕ) (n k : ℕ) (table : Table) → k < n → k < length table.timers → timer_in (timers_moved move n table).timers k ≡ timer_moved move (timer_in table.timers k)
timer_done move zero k table lt known = absurd (omega arith)
timer_done move (suc n) k table lt known = elim (eqb_tells n k) [
  | inl same ↦ ap (λ (j : ℕ). timer_in (timers_moved move (suc n) table).timers j) (sym same.1)
      ∙ changed-same no_timer no_timer n (timer_moved move) (timers_moved move n table).timers (let it = same.1 in let long = timers_long move n table in omega (arith, it, long, known))
      ∙ ap (timer_moved move) (timers_later move n n table (omega arith)) ∙ ap (λ (j : ℕ). timer_moved move (timer_in table.timers j)) same.1
  | inr other ↦ changed-other no_timer no_timer n k (timer_moved move) (timers_moved move n table).timers other.0
      ∙ timer_done move n k table (lt_of_le-ne (omega (arith, lt)) (λ e. other.1 (sym e))) known
]

threads_same : (move : ℕ → ℕ) (n : ℕ) (table : Table) → (timers_moved move n table).threads ≡ table.threads
threads_same move zero table = refl
threads_same move (suc n) table = threads_same move n table

due_then : (move : ℕ → ℕ) (due : Option ℕ) (b : Bool) → real_due_if (moved_if b move due) b ≡ option_map move (real_due_if due b)
due_then move None true = refl
due_then move None false = refl
due_then move (Some due) true = refl
due_then move (Some due) false = refl

pub wait_then : (move : ℕ → ℕ) (s : Status) → real_due_in (status_moved move s) ≡ option_map move (real_due_in s)
wait_then move (dormant at) = refl
wait_then move runnable = refl
wait_then move (blocked w) = due_then move w.due (waits_on_real w.call)
wait_then move ended = refl

-- when each thread's wait for a time on the clock ends, and each timer that is set to one expires
pub waits_then : (move : ℕ → ℕ) (table : Table) (t : ℕ) → real_due_in (thread_at (times_moved move table) t).status ≡ option_map move (real_due_in (thread_at table t).status)
waits_then move table t =
    ap (λ (ths : List (Thread Cursor)). real_due_in (thread_in ths t).status) (threads_same move (length table.timers) (threads_moved move (length table.threads) table))
    ∙ by_test (nat_lt t (length table.threads)) refl
  where
    all : Table
    all = threads_moved move (length table.threads) table

    by_test : (b : Bool) → nat_lt t (length table.threads) ≡ b → real_due_in (thread_at all t).status ≡ option_map move (real_due_in (thread_at table t).status)
    by_test true e =
        let known : t < length table.threads = grind (arith, nat_tests, e) in
        ap (λ (th : Thread Cursor). real_due_in th.status) (thread_done move (length table.threads) t table known known) ∙ wait_then move (thread_at table t).status
    by_test false e =
        let past : length table.threads ≤ t = grind (arith, nat_tests, e) in
        ap (λ (th : Thread Cursor). real_due_in th.status) (threads_later move (length table.threads) t table past)
        ∙ ap (λ (th : Thread Cursor). real_due_in th.status) (beyond no_thread table.threads t past)
        ∙ ap (λ (th : Thread Cursor). option_map move (real_due_in th.status)) (sym (beyond no_thread table.threads t past))

pub expiries_then : (move : ℕ → ℕ) (table : Table) (k : ℕ) → timer_real_due (timer_in (times_moved move table).timers k) ≡ option_map move (timer_real_due (timer_in table.timers k))
expiries_then move table k = by_test (nat_lt k (length table.timers)) refl
  where
    waits : Table
    waits = threads_moved move (length table.threads) table

    same : waits.timers ≡ table.timers
    same = timers_same move (length table.threads) table

    after : (n : ℕ) → timer_in (timers_moved move n waits).timers k ≡ timer_in (timers_moved move n table).timers k
    after n = ap (λ (ks : List Timer). timer_in ks k) (timers_alone n)
      where
        timers_alone : (n : ℕ) → (timers_moved move n waits).timers ≡ (timers_moved move n table).timers
        timers_alone zero = same
        timers_alone (suc n) = ap (changed_at no_timer n (timer_moved move)) (timers_alone n)

    by_test : (b : Bool) → nat_lt k (length table.timers) ≡ b →
        timer_real_due (timer_in (timers_moved move (length table.timers) waits).timers k) ≡ option_map move (timer_real_due (timer_in table.timers k))
    by_test true e =
        let known : k < length table.timers = grind (arith, nat_tests, e) in
        let x = timer_in table.timers k in
        ap timer_real_due (after (length table.timers) ∙ timer_done move (length table.timers) k table known known) ∙ due_then move x.due x.is_reading
    by_test false e =
        let past : length table.timers ≤ k = grind (arith, nat_tests, e) in
        ap timer_real_due (after (length table.timers) ∙ timers_later move (length table.timers) k table past ∙ beyond no_timer table.timers k past)
        ∙ ap (λ (x : Timer). option_map move (timer_real_due x)) (sym (beyond no_timer table.timers k past))

-- ---- what stays

pub all_long : (move : ℕ → ℕ) (table : Table) → length (times_moved move table).threads ≡ length table.threads
all_long move table = ap length (threads_same move (length table.timers) (threads_moved move (length table.threads) table)) ∙ threads_long move (length table.threads) table

kept_threads : {Y : Type 0} (move : ℕ → ℕ) (g : Thread Cursor → Y) (n u : ℕ) (table : Table) → ((th : Thread Cursor) → g (thread_moved move th) ≡ g th) → g (thread_at (threads_moved move n table) u) ≡ g (thread_at table u)
kept_threads move g zero u table keeps = refl
kept_threads move g (suc n) u table keeps = changed-keeps no_thread n u (thread_moved move) g keeps (threads_moved move n table).threads ∙ kept_threads move g n u table keeps

runs_kept : (move : ℕ → ℕ) (s : Status) → is_runnable (status_moved move s) ≡ is_runnable s
runs_kept move (dormant at) = refl
runs_kept move runnable = refl
runs_kept move (blocked w) = refl
runs_kept move ended = refl

pub all_run : (move : ℕ → ℕ) (table : Table) (u : ℕ) → is_runnable (thread_at (times_moved move table) u).status ≡ is_runnable (thread_at table u).status
all_run move table u =
    ap (λ (ths : List (Thread Cursor)). is_runnable (thread_in ths u).status) (threads_same move (length table.timers) (threads_moved move (length table.threads) table))
    ∙ kept_threads move (λ (th : Thread Cursor). is_runnable th.status) (length table.threads) u table (λ th. runs_kept move th.status)

mutexes_left : (move : ℕ → ℕ) (n : ℕ) (table : Table) → (threads_moved move n table).mutexes ≡ table.mutexes
mutexes_left move zero table = refl
mutexes_left move (suc n) table = mutexes_left move n table

mutexes_kept : (move : ℕ → ℕ) (n : ℕ) (table : Table) → (timers_moved move n table).mutexes ≡ table.mutexes
mutexes_kept move zero table = refl
mutexes_kept move (suc n) table = mutexes_kept move n table

pub all_mutexes : (move : ℕ → ℕ) (table : Table) → (times_moved move table).mutexes ≡ table.mutexes
all_mutexes move table = mutexes_kept move (length table.timers) (threads_moved move (length table.threads) table) ∙ mutexes_left move (length table.threads) table
