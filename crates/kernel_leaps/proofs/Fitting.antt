-- What fits goes from the states of a run to the kernel that is in them.
use Rattle.std.proofs.Common.{◌≡◌, ◌∙◌, ◌≤◌, ◌^◌, ◌+◌, ℕ, List, [], Bool, true, false, Option, None, Some, ap, arith, length, refl, subst, sym}
use Rattle.std.specs.Prelude.{◌==◌, IfSome}
use Rattle.rules_bodies.specs.declared.cursor.Cursor.{Cursor}
use Rattle.rules_bodies.specs.declared.op.Op.{Op}
use Rattle.rules_bodies.specs.Flat as flat
use Rattle.rules_machine.specs.State.{Machine, Status, Thread, Waiting, blocked, dormant, ended, runnable}
use Rattle.rules_machine.specs.Threads.{can_run, is_blocked, is_runnable, thread_at, waiting_in}
use Rattle.rules_machine.specs.Turns.{Turn, becomes, changes, with_thread}
use Rattle.rules_machine.specs.Dispatch.{head}
use Rattle.rules_machine.specs.Ticks.{prepares}
use Rattle.rules_machine.specs.DueItems.{instant, item_bound}
use Rattle.rules_leaps.specs.Leap.{later_by}
use Rattle.rules_leaps.specs.Quiet.{after_ticks}
use Rattle.rules_machine.specs.Units.{in_unit}
use Rattle.rules_machine.proofs.Reading.{changed-length, thread-other}
use Rattle.rules_machine.specs.Threads.{no_thread}
use Rattle.rules_flat_code.specs.FlatBodies.{flat_bodies}
use Rattle.rules_flat_code.specs.KnownCalls.{Objects}
use Rattle.kernel_threads.specs.Unused.{IsUnused}
use Rattle.std.specs.Option.{option_map_or}
use Rattle.rules_machine.specs.GoodState.{is_in_condition_wait}
use Rattle.rules_machine.specs.Mutexes.{owned_by}
use Rattle.rules_machine.specs.Waiters.{waits_so}
use Rattle.kernel_wakes.specs.Waits.{WaitKnowsMutex}
use Rattle.kernel_state.specs.Kernel.{Kernel, after, turn}
use Rattle.kernel_settling.specs.Stood.{StoodRight}
use Rattle.kernel_wakes.specs.Calls.{objects_in}
use Rattle.kernel_leaps.specs.Completes.{CanAct}
use Rattle.laws_kernel.specs.Counts.{Counts, counts_in, counts_of}
use Rattle.kernel_leaps.specs.Fits.{Fits, FitsLeap, ItemsFit}
use Rattle.kernel_leaps.proofs.ChargeKeeps.{charge_keeps, charge_same}
use Rattle.kernel_leaps.proofs.HeadRuns.{head_runs}
use Rattle.kernel_leaps.proofs.Prepared.{ServersAlone, fits_prepared, kernel_prepared, with_threads}

-- ---- the objects stay the same

abbrev objects_by : List (List ℕ) → ℕ → Counts → Objects
objects_by names cleanups c = record { threads = length names; cleanups = cleanups; mutexes = c.mutexes; semaphores = c.semaphores; queues = c.queues; timers = c.timers }

pub objects_same : (start : Kernel) (m : Machine Cursor) → counts_of m ≡ counts_in (objects_in start) → objects_in (record start { machine = m }) ≡ objects_in start
objects_same start m e = ap (objects_by start.names (length start.code.cleanups)) e

-- after the items of an instant
pub instant_fits : (p q : Kernel) → q ≡ after (instant (flat_bodies p.code)) p → ItemsFit p (objects_in p) → Fits (objects_in q) q.code q.machine
instant_fits p q state fit =
    let m = (instant (flat_bodies p.code) (turn p)).machine in
    let here : Fits (objects_in p) p.code m = fit.each (item_bound p.machine) in
    let there : Fits (objects_in (record p { machine = m })) p.code m = subst (λ (o : Objects). Fits o p.code m) (sym (objects_same p m here.counts)) here in
    subst (λ (x : Kernel). Fits (objects_in x) x.code x.machine) (sym state) there

-- ---- so it may have a tick

head_fits : (o : Objects) (code : flat.NumberedBodies (List Op)) (m : Machine Cursor) (s : Turn Cursor) (t : ℕ) → ServersAlone m s → StoodRight m → head m ≡ Some t → Fits o code m → FitsLeap o code (with_threads s.machine.threads s.machine.last m) t
head_fits o code m s t q stood e fit = record {
  thread = fits_prepared o code m.now t m s q (fit.top t e);
  runs = ap is_runnable (status_at t) ∙ head_runs m t stood e;
  waits = record {
    mutexes = λ u. subst (λ (x : Status). WaitKnowsMutex (length m.mutexes) (waiting_in x)) (sym (status_at u)) (fit.items.waits.mutexes u);
    rests = λ u blocked. q.unused u (fit.items.waits.rests u (sym (ap is_blocked (status_at u)) ∙ blocked));
    own_none = λ u waits. fit.items.waits.own_none u (sym (ap (λ (x : Status). option_map_or (λ (w : Waiting). is_in_condition_wait w.wait) (waiting_in x) false) (status_at u)) ∙ waits);
  };
  joins = record {
    joiners = λ v u is. ap is_blocked (status_at u) ∙ fit.joins.joiners v u (sym (ap (λ (th : Thread Cursor). th.joiner) (q.each v)) ∙ is);
    ends = λ u v w waits is. (let known = fit.joins.ends u v w (sym (ap waiting_in (status_at u)) ∙ waits) is in let many = q.many in omega (arith, known, many));
  };
  pends = record { calls = fit.items.pends.calls; timers = fit.items.pends.timers; queues = fit.items.pends.queues; youngest = fit.items.pends.youngest };
  signals = record {
    timers = fit.items.signals.timers;
    registrations = fit.items.signals.registrations;
    senders = λ u i x w waits is. fit.items.signals.senders u i x w (sym (ap waiting_in (status_at u)) ∙ waits) is;
  };
  serial = fit.serial;
  threads = q.many ∙ fit.threads;
}
  where
    status_at : (u : ℕ) → (thread_at s.machine u).status ≡ (thread_at m u).status
    status_at u = ap (λ (th : Thread Cursor). th.status) (q.each u)

pub prepared_fits : (p l : Kernel) → l ≡ after (prepares (head p.machine)) p → StoodRight p.machine → Fits (objects_in p) p.code p.machine → IfSome (head p.machine) (λ t. FitsLeap (objects_in l) l.code l.machine t)
prepared_fits p l state stood fit = by_head (head p.machine) refl
  where
    q : ServersAlone p.machine (turn l)
    q = kernel_prepared p l stood state

    m : Machine Cursor
    m = with_threads l.machine.threads l.machine.last p.machine

    is : l ≡ record p { machine = m; direct = l.direct }
    is = state ∙ ap (λ (x : Kernel). record p { machine = x.machine; direct = x.direct }) (sym state) ∙ ap (λ (x : Machine Cursor). record p { machine = x; direct = l.direct }) q.machine

    by_head : (o : Option ℕ) → head p.machine ≡ o → IfSome o (λ t. FitsLeap (objects_in l) l.code l.machine t)
    by_head None e = tt
    by_head (Some t) e =
        subst (λ (x : Kernel). FitsLeap (objects_in x) x.code x.machine t) (sym is)
        (head_fits (objects_in p) p.code p.machine (turn l) t q stood e fit)

-- ---- and its effect may count on this

not_both : {X : Type 0} (b : Bool) → b ≡ false → b ≡ true → X
not_both b off on = let a : true ≡ false = sym on ∙ off in absurd cc

blocked_rests : (s : Status) → is_blocked s ≡ true → is_runnable s ≡ false
blocked_rests (dormant at) e = refl
blocked_rests runnable e = absurd (cc)
blocked_rests (blocked w) e = refl
blocked_rests ended e = refl

running_waits : (n : ℕ) (s : Status) → is_runnable s ≡ true → WaitKnowsMutex n (waiting_in s)
running_waits n (dormant at) e = tt
running_waits n runnable e = tt
running_waits n (blocked w) e = absurd (cc)
running_waits n ended e = tt

running_in_none : (s : Status) → is_runnable s ≡ true → option_map_or (λ (w : Waiting). is_in_condition_wait w.wait) (waiting_in s) false ≡ false
running_in_none (dormant at) e = refl
running_in_none runnable e = refl
running_in_none (blocked w) e = absurd (cc)
running_in_none ended e = refl

same_number : (t u : ℕ) → (t == u) ≡ true → t ≡ u
same_number t u e = grind arith

pub charged_acts : (p l : Kernel) (t k : ℕ) → FitsLeap (objects_in p) p.code p.machine t → p.machine.now ≤ 10 ^ 18 →
    l ≡ after (λ (s : Turn Cursor). becomes (later_by k) (changes t (λ th. after_ticks k (in_unit (flat_bodies p.code) (thread_at p.machine t)).thread) s)) p → CanAct l t
charged_acts p l t k fit early state = subst (λ (x : Kernel). CanAct x t) (sym state) acts
  where
    f : Thread Cursor → Thread Cursor
    f th = after_ticks k (in_unit (flat_bodies p.code) (thread_at p.machine t)).thread

    acts : CanAct (record p { machine = record p.machine { threads = (with_thread t f p.machine).threads; now = p.machine.now + k } }) t
    acts = record {
      threads = changed-length no_thread t f p.machine.threads ∙ fit.threads;
      runs = charge_same (flat_bodies p.code) k p.machine t t ∙ fit.runs;
      waits = record { mutexes = waits_at; rests = rests_at; own_none = own_at };
      joins = record {
        joiners = λ v u e. ap is_blocked (status_at u) ∙ fit.joins.joiners v u (sym (joiner_at v) ∙ e);
        ends = λ u v w waits is. (let lt = fit.joins.ends u v w (sym (ap waiting_in (status_at u)) ∙ waits) is in let e = changed-length no_thread t f p.machine.threads in omega (arith, e, lt));
      };
      pends = record { calls = fit.pends.calls; timers = fit.pends.timers; queues = fit.pends.queues; youngest = fit.pends.youngest };
      signals = record {
        timers = fit.signals.timers;
        registrations = fit.signals.registrations;
        senders = λ u q x w waits is. fit.signals.senders u q x w (sym (ap waiting_in (status_at u)) ∙ waits) is;
      };
      serial = fit.serial early;
    }
      where
        waits_at : (u : ℕ) → WaitKnowsMutex (length p.machine.mutexes) (waiting_in (thread_at (with_thread t f p.machine) u).status)
        waits_at u = by_number (t == u) refl
          where
            by_number : (b : Bool) → (t == u) ≡ b → WaitKnowsMutex (length p.machine.mutexes) (waiting_in (thread_at (with_thread t f p.machine) u).status)
            by_number true it =
                let runs = charge_same (flat_bodies p.code) k p.machine t t ∙ fit.runs in
                subst (λ (k : ℕ). WaitKnowsMutex (length p.machine.mutexes) (waiting_in (thread_at (with_thread t f p.machine) k).status)) (same_number t u it)
                (running_waits (length p.machine.mutexes) (thread_at (with_thread t f p.machine) t).status runs)
            by_number false other =
                let kept = thread-other p.machine t u f other in
                subst (λ (th : Thread Cursor). WaitKnowsMutex (length p.machine.mutexes) (waiting_in th.status)) (sym kept) (fit.waits.mutexes u)

        status_at : (u : ℕ) → (thread_at (with_thread t f p.machine) u).status ≡ (thread_at p.machine u).status
        status_at u = charge_keeps (flat_bodies p.code) (λ (th : Thread Cursor). th.status) (λ th fs us. refl) (λ n th. refl) k p.machine t u

        joiner_at : (u : ℕ) → (thread_at (with_thread t f p.machine) u).joiner ≡ (thread_at p.machine u).joiner
        joiner_at u = charge_keeps (flat_bodies p.code) (λ (th : Thread Cursor). th.joiner) (λ th fs us. refl) (λ n th. refl) k p.machine t u

        own_at : (u : ℕ) → waits_so is_in_condition_wait (thread_at (with_thread t f p.machine) u) ≡ true → owned_by p.machine u ≡ []
        own_at u e = by_number (t == u) refl
          where
            by_number : (b : Bool) → (t == u) ≡ b → owned_by p.machine u ≡ []
            by_number true it =
                let runs = charge_same (flat_bodies p.code) k p.machine t t ∙ fit.runs in
                not_both (waits_so is_in_condition_wait (thread_at (with_thread t f p.machine) t)) (running_in_none (thread_at (with_thread t f p.machine) t).status runs)
                (subst (λ (k : ℕ). waits_so is_in_condition_wait (thread_at (with_thread t f p.machine) k) ≡ true) (sym (same_number t u it)) e)
            by_number false other =
                let kept = thread-other p.machine t u f other in
                fit.waits.own_none u (sym (ap (λ (th : Thread Cursor). waits_so is_in_condition_wait th) kept) ∙ e)

        rests_at : (u : ℕ) → is_blocked (thread_at (with_thread t f p.machine) u).status ≡ true → IsUnused (thread_at (with_thread t f p.machine) u).server
        rests_at u e = by_number (t == u) refl
          where
            off : can_run p.machine u ≡ false
            off = sym (charge_same (flat_bodies p.code) k p.machine t u) ∙ blocked_rests (thread_at (with_thread t f p.machine) u).status e

            by_number : (b : Bool) → (t == u) ≡ b → IsUnused (thread_at (with_thread t f p.machine) u).server
            by_number true it = not_both (can_run p.machine u) off (subst (λ (k : ℕ). can_run p.machine k ≡ true) (same_number t u it) fit.runs)
            by_number false other =
                let kept = thread-other p.machine t u f other in
                subst (λ (th : Thread Cursor). IsUnused th.server) (sym kept) (fit.waits.rests u (sym (ap (λ (th : Thread Cursor). is_blocked th.status) kept) ∙ e))
