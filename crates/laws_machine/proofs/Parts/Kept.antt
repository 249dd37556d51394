-- The parts that go by statuses, kept by every tick: mutexes, semaphores, queues, pending records, and who joins.
use Rattle.std.proofs.Common.{Bool, List, None, Option, Some, [], ap, arith, false, inl, inr, refl, sym, true, ℕ, ◌+◌, ◌∷◌, ◌≡◌, ◌⊎◌}
use Rattle.std.specs.Prelude.{◌==◌}
use mathlib.Core.Path.{subst, ◌∙◌}
use Rattle.rules_server.specs.Server.{ServerState, plan, activate}
use Rattle.words_trace.specs.declared.event.Event.TheVariants as event
use Rattle.rules_machine.specs.declared.dispatch.LastDispatch.{LastDispatch}
use Rattle.rules_machine.specs.Bodies.{Bodies}
use Rattle.rules_machine.specs.State.{Frame, Joiner, Machine, Thread, Waiting, for_end, for_mutex_again, nobody, waits_to_join}
use Rattle.rules_machine.specs.Threads.{can_run, is_runnable, no_thread, thread_at, waiting_in, waiting_of}
use Rattle.rules_machine.specs.Turns.{Caller, Turn, changes, moves_if, tells, turn_of}
use Rattle.rules_machine.specs.Servers.{plans_server, with_server}
use Rattle.rules_machine.specs.Waking.{put_to_wait}
use Rattle.rules_machine.specs.Lives.{with_joiner}
use Rattle.rules_machine.specs.Settling.{settled}
use Rattle.rules_machine.specs.GoodState.{MutexesAreRight}
use Rattle.rules_machine.specs.Ticks.{TickEnd, ends_tick, exhausting, nothing, planning, slicing, tick_charged, without_slice}
use Rattle.rules_moves.specs.Moves.{Keeps, KeepsAwake, KeepsRenewing, May, Move, Runs, Stops, blocks_for, blocks_plainly, does, recasts, renews_with}
use Rattle.laws_machine.proofs.Waits.Semaphores.{SemaphoresAreRight, semaphores_keep}
use Rattle.laws_machine.proofs.Waits.Queues.{QueuesAreRight, queues_keep}
use Rattle.laws_machine.proofs.Signals.Records.{RecordsAreRight, records_keep}
use Rattle.laws_machine.proofs.Mutexes.Owners.{mutexes_keep}
use Rattle.laws_machine.proofs.Waits.Joiners.{changed_joiners, idle, joiners_keep, joiners_renewed, running_idle}
use Rattle.rules_machine.specs.Units.{Following, advances, advancing, begins_finish, cleaning_up, continuing, finishing, following, in_unit, takes_unit}
use Rattle.rules_machine.specs.Dispatch.{dispatch_of, dispatches}
use Rattle.rules_machine.proofs.Reading.{changed-keeps, thread-other, thread-same}
use Rattle.rules_moves.proofs.Waiters.Best.{running_within}
use Rattle.rules_moves.proofs.Calls.Commuting.{status_kept}
use Rattle.rules_moves.proofs.Runs.Ticks.{TickKeeps, dispatched, in_unit_status}
use Rattle.rules_moves.proofs.Calls.Table.{JoinersWait, nobody_waits_so, rejoined}

-- what every move keeps, it keeps where nobody's own call blocks
pub awake : {P : Type 0} (bodies : Bodies P) (who : Option ℕ) (Law : Turn P → Type 0) → Keeps bodies who Law → KeepsAwake bodies who Law
awake bodies who Law k (blocks_for by (for_mutex_again j how) due) s may q = k (blocks_for by (for_mutex_again j how) due) s may q
awake bodies who Law k (blocks_for by wait due) s may q = absurd may
awake bodies who Law k (blocks_plainly by wait due) s may q = absurd may
awake bodies who Law k (recasts t f) s may q = absurd may
awake bodies who Law k (renews_with active t new) s may q = absurd may
awake bodies who Law k move s may q = k move s may q

pub record PartsRight {P : Type 0} (m : Machine P) : Type 0 where
  pub joiners : JoinersWait (turn_of m)
  pub semaphores : SemaphoresAreRight m
  pub queues : QueuesAreRight m
  pub records : RecordsAreRight m
  pub mutexes : MutexesAreRight m

-- other lists, another instant and another last dispatch
pub elsewhere : {P : Type 0} (m : Machine P) (now : ℕ) (last : LastDispatch) (lists : List (List ℕ)) → PartsRight m → PartsRight (record m { now = now; last = last; lists = lists })
elsewhere m now last lists q = record {
  joiners = q.joiners;
  semaphores = q.semaphores;
  queues = q.queues;
  records = record { few = q.records.few; one_of_timer = q.records.one_of_timer; one_of_queue = q.records.one_of_queue; free = q.records.free };
  mutexes = record { owners = q.mutexes.owners; no_cycle = q.mutexes.no_cycle; owns_none = q.mutexes.owns_none };
}

module _ {P : Type 0} (bodies : Bodies P) (who : Option ℕ) where
  abbrev Law : Turn P → Type 0
  Law s = PartsRight s.machine

  pub parts_keep : KeepsAwake bodies who Law
  parts_keep move s may q = record {
    joiners = joiners_keep bodies who move s may q.joiners;
    semaphores = awake bodies who (λ s. SemaphoresAreRight s.machine) (semaphores_keep bodies who) move s may q.semaphores;
    queues = awake bodies who (λ s. QueuesAreRight s.machine) (queues_keep bodies who) move s may q.queues;
    records = awake bodies who (λ s. RecordsAreRight s.machine) (records_keep bodies who) move s may q.records;
    mutexes = awake bodies who (λ s. MutexesAreRight s.machine) (mutexes_keep bodies who) move s may q.mutexes;
  }

  -- a move of the three that go by statuses alone, beside joiners that stay
  by_status : (move : Move P) (s : Turn P) → May who move s → JoinersWait (does bodies move s) → Law s → Law (does bodies move s)
  by_status move s may j q = record {
    joiners = j;
    semaphores = semaphores_keep bodies who move s may q.semaphores;
    queues = queues_keep bodies who move s may q.queues;
    records = records_keep bodies who move s may q.records;
    mutexes = mutexes_keep bodies who move s may q.mutexes;
  }

  -- a thread changes in neither status nor joiner
  pub recast : (t : ℕ) (f : Thread P → Thread P) (s : Turn P) → (f (thread_at s.machine t)).status ≡ (thread_at s.machine t).status → (f (thread_at s.machine t)).joiner ≡ (thread_at s.machine t).joiner →
      Law s → Law (changes t f s)
  recast t f s h j q = by_status (recasts t f) s h (changed_joiners bodies who t f s (λ u e. sym j ∙ e) (λ w v e g never x. ap waiting_in h ∙ e) q.joiners) q

  asleep : (by : Caller) (w : Waiting) (s : Turn P) → Runs who s.machine by.thread → JoinersWait s → JoinersWait (changes by.thread (put_to_wait w) s)
  asleep by w s runs j = idle bodies who by.thread (put_to_wait w) s (λ th. refl) (running_idle bodies who (thread_at s.machine by.thread).status runs.0) j

  plans_keep : (t : ℕ) (o : Option ServerState) (s : Turn P) → Law s → Law (plans_server t o s)
  plans_keep t None s q = q
  plans_keep t (Some server) s q = recast t (with_server plan) s refl refl q

  moved : (b : Bool) (t : ℕ) (s : Turn P) → Law s → Law (moves_if b t s)
  moved true t s q = q
  moved false t s q = q

  pub ends_keep : (e : TickEnd) (t : ℕ) (s : Turn P) → Law s → Law (ends_tick e t s)
  ends_keep planning t s q = plans_keep t (thread_at s.machine t).server s q
  ends_keep exhausting t s q = moved _ t _ (plans_keep t (thread_at s.machine t).server (tells (event.Exhaust t) s) q)
  ends_keep slicing t s q = moved (can_run s.machine t) t (changes t without_slice s) (recast t without_slice s refl refl q)
  ends_keep nothing t s q = q

  -- ---- a join

  abbrev told : Caller → ℕ → Turn P → Turn P
  told by u s = changes u (with_joiner (waits_to_join by.thread)) s

  abbrev for_it : Caller → ℕ → Waiting
  for_it by u = record { wait = for_end u; serial = 0; due = None; call = by.call }

  joiner_of : {a b : ℕ} → waits_to_join a ≡ waits_to_join b → a ≡ b
  joiner_of {a} {b} e = ap of_joiner e
    where
      of_joiner : Joiner → ℕ
      of_joiner (waits_to_join t) = t
      of_joiner j = a

  told_runs : (by : Caller) (u : ℕ) (s : Turn P) → Runs who s.machine by.thread → Runs who (told by u s).machine by.thread
  told_runs by u s runs = (ap is_runnable (status_kept u by.thread (with_joiner (waits_to_join by.thread)) (λ th. refl) s) ∙ runs.0, runs.1)

  joins_so : (by : Caller) (u : ℕ) (s : Turn P) → Runs who s.machine by.thread → JoinersWait s → JoinersWait (changes by.thread (put_to_wait (for_it by u)) (told by u s))
  joins_so by u s runs joined v x e = by_eq (u == v) refl
    where
      in_told : (thread_at (told by u s).machine v).joiner ≡ waits_to_join x
      in_told = sym (changed-keeps no_thread by.thread v (put_to_wait (for_it by u)) (λ (th : Thread P). th.joiner) (λ th. refl) (told by u s).machine.threads) ∙ e

      waits_now : waiting_of (changes by.thread (put_to_wait (for_it by u)) (told by u s)).machine by.thread ≡ Some (for_it by u)
      waits_now = ap (λ (th : Thread P). waiting_in th.status) (thread-same (told by u s).machine by.thread (put_to_wait (for_it by u)) (running_within (told by u s).machine.threads by.thread (told_runs by u s runs).0))

      mine : (x : ℕ) → by.thread ≡ x → u ≡ v → (w : Waiting) × (waiting_of (changes by.thread (put_to_wait (for_it by u)) (told by u s)).machine x ≡ Some w) × (w.wait ≡ for_end v) × (w.due ≡ None)
      mine x same it = (for_it by u, subst (λ (i : ℕ). waiting_of (changes by.thread (put_to_wait (for_it by u)) (told by u s)).machine i ≡ Some (for_it by u)) same waits_now, ap for_end it, refl)

      by_eq : (b : Bool) → (u == v) ≡ b → (w : Waiting) × (waiting_of (changes by.thread (put_to_wait (for_it by u)) (told by u s)).machine x ≡ Some w) × (w.wait ≡ for_end v) × (w.due ≡ None)
      by_eq true h = let it : u ≡ v = grind arith in of_two it (rejoined s.machine.threads u (waits_to_join by.thread)) (subst (λ (i : ℕ). (thread_at (told by u s).machine i).joiner ≡ waits_to_join x) (sym it) in_told)
        where
          of_two : u ≡ v → ((thread_at (told by u s).machine u).joiner ≡ waits_to_join by.thread) ⊎ ((thread_at (told by u s).machine u).joiner ≡ nobody) → (thread_at (told by u s).machine u).joiner ≡ waits_to_join x →
              (w : Waiting) × (waiting_of (changes by.thread (put_to_wait (for_it by u)) (told by u s)).machine x ≡ Some w) × (w.wait ≡ for_end v) × (w.due ≡ None)
          of_two it (inl p) r = mine x (joiner_of (sym p ∙ r)) it
          of_two it (inr p) r = absurd (nobody_waits_so x (sym p ∙ r))
      by_eq false h =
          let old = joined v x (sym (ap (λ (th : Thread P). th.joiner) (thread-other s.machine u v (with_joiner (waits_to_join by.thread)) h)) ∙ in_told) in
          (old.0, still old.0 old.1 (by.thread == x) refl, old.2, old.3)
        where
          still : (w : Waiting) → waiting_of s.machine x ≡ Some w → (b : Bool) → (by.thread == x) ≡ b → waiting_of (changes by.thread (put_to_wait (for_it by u)) (told by u s)).machine x ≡ Some w
          still w k true same =
              let it : by.thread ≡ x = grind arith in
              let none : waiting_of s.machine x ≡ None = subst (λ (i : ℕ). waiting_of s.machine i ≡ None) it (running_idle bodies who (thread_at s.machine by.thread).status runs.0) in absurd (grind arith)
          still w k false other =
              ap (λ (th : Thread P). waiting_in th.status) (thread-other (told by u s).machine by.thread x (put_to_wait (for_it by u)) other)
              ∙ ap waiting_in (status_kept u x (with_joiner (waits_to_join by.thread)) (λ th. refl) s) ∙ k

  pub parts_stop : Stops who Law Law
  parts_stop = record {
    done = λ s q. q;
    renewable = λ u. true;
    renewing = λ active u new s may live e known q. by_status (renews_with active u new) s (live, e, known) (joiners_renewed bodies who active u new s q.joiners) q;
    sleeps = λ by wait due s runs may q. by_status (blocks_for by wait due) s may (asleep by (record { wait = wait; serial = s.machine.next_serial; due = due; call = by.call }) s runs q.joiners) q;
    dozes = λ by wait due s runs may other q. by_status (blocks_plainly by wait due) s may (asleep by (record { wait = wait; serial = 0; due = due; call = by.call }) s runs q.joiners) q;
    joins = λ by u s runs other free q.
        let move = blocks_plainly by (for_end u) None in let first = recasts u (with_joiner (waits_to_join by.thread)) in let may = told_runs by u s runs in record {
          joiners = joins_so by u s runs q.joiners;
          semaphores = semaphores_keep bodies who move (told by u s) may (semaphores_keep bodies who first s refl q.semaphores);
          queues = queues_keep bodies who move (told by u s) may (queues_keep bodies who first s refl q.queues);
          records = records_keep bodies who move (told by u s) may (records_keep bodies who first s refl q.records);
          mutexes = mutexes_keep bodies who move (told by u s) may (mutexes_keep bodies who first s refl q.mutexes);
        };
  }

module _ {P : Type 0} (bodies : Bodies P) (who : Option ℕ) where
  pub parts_renew : (u : ℕ) → (parts_stop bodies who).renewable u ≡ true
  unfolding parts_stop
  parts_renew u = refl

  -- also where a thread has a new policy
  pub parts_renewing : KeepsRenewing bodies who (λ s. PartsRight s.machine)
  parts_renewing (renews_with active u new) s may q = (parts_stop bodies who).renewing active u new s (parts_renew u) may.0 may.1 may.2 q
  parts_renewing move s may q = parts_keep bodies who move s may q

-- ---- the unit of a thread leaves its joiner

module _ {P : Type 0} (bodies : Bodies P) where
  advances_joiner : (fs : List (Frame P)) (th : Thread P) → (advances bodies fs th).thread.joiner ≡ th.joiner
  advances_joiner [] th = refl
  advances_joiner (f ∷ fs) th = refl

  finish_joiner : (fs : List (Frame P)) (th : Thread P) → (begins_finish fs th).thread.joiner ≡ th.joiner
  finish_joiner [] th = refl
  finish_joiner (f ∷ fs) th = refl

  in_unit_joiner : (th : Thread P) → (in_unit bodies th).thread.joiner ≡ th.joiner
  in_unit_joiner th = by_case (following th)
    where
      by_case : (x : Following) → (takes_unit bodies x th).thread.joiner ≡ th.joiner
      by_case (continuing left) = refl
      by_case advancing = advances_joiner th.frames th
      by_case (cleaning_up u) = refl
      by_case finishing = finish_joiner th.frames th

  -- ---- every run

  dispatched_right : (to : Option ℕ) (s : Turn P) → PartsRight s.machine → PartsRight (dispatches to s).machine
  dispatched_right to s q = subst PartsRight (sym (dispatched to s)) (elsewhere s.machine s.machine.now (dispatch_of to) s.machine.lists q)

  pub parts_tick : TickKeeps bodies (λ s. PartsRight s.machine) (λ was_high t s. PartsRight s.machine) (λ was_high t s. PartsRight s.machine)
  parts_tick = record {
    moves = parts_keep bodies None;
    joined = λ s q. q.joiners;
    settles = λ before s q. elsewhere s.machine s.machine.now s.machine.last (settled before s.direct s.machine).lists q;
    unit_moves = λ was_high t. parts_keep bodies (Some t);
    unit_joined = λ was_high t s q. q.joiners;
    unit_stops = λ was_high t. parts_stop bodies (Some t);
    unit_renews = λ was_high t. parts_renew bodies (Some t);
    unit_settles = λ was_high t before s q. elsewhere s.machine s.machine.now s.machine.last (settled before s.direct s.machine).lists q;
    prepares = record {
      closes = λ t s run q. ends_keep bodies None planning t s q;
      sent = λ to s off q. dispatched_right to s q;
      opens = λ t x s runs is may q. recast bodies None t (with_server (activate s.machine.now)) s refl refl q;
    };
    charges = λ t s ready runs q.
        let th = thread_at s.machine t in let f : Thread P → Thread P = λ x. tick_charged (in_unit bodies th).thread in
        elsewhere (changes t f s).machine (s.machine.now + 1) s.machine.last s.machine.lists (recast bodies None t f s (in_unit_status bodies th) (in_unit_joiner th) q);
    idles = λ s ready q. elsewhere s.machine (s.machine.now + 1) s.machine.last s.machine.lists q;
    ends = λ was_high t s q. ends_keep bodies None _ t s q;
  }
