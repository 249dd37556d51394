-- The numbers of every run are small.
use Rattle.std.proofs.Common.{List, None, Option, Some, [], ap, arith, length, refl, suc, zero, ℕ, ◌+◌, ◌^◌, ◌<◌, ◌≤◌, ◌∷◌, ◌≡◌}
use Rattle.std.specs.Prelude.{filter_map, map, slice_index_or}
use Rattle.words_script.specs.declared.decl.Decl.{Decl}
use Rattle.words_script.specs.declared.decl.Decl.TheVariants as decl
use Rattle.words_script.specs.declared.decl.Kind.TheVariants as kind
use Rattle.words_script.specs.declared.decl.Script.{Script}
use Rattle.rules_bodies.specs.Next.{Place}
use Rattle.rules_machine.specs.Bodies.{Bodies}
use Rattle.rules_machine.specs.Declarations.{ThreadDecl, mutex_kind, named, queue_kind, semaphore_kind, threads_of, timer_kind}
use Rattle.rules_machine.specs.State.{Clock, Machine}
use Rattle.rules_machine.specs.Threads.{mutex_in, no_queue, no_timer, thread_in, thread_numbers}
use Rattle.rules_machine.specs.Turns.{Turn, turn_of}
use Rattle.rules_machine.specs.Priorities.{exec}
use Rattle.rules_machine.specs.Mutexes.{recursion_limit}
use Rattle.rules_machine.specs.Semaphores.{semaphore_limit}
use Rattle.rules_machine.specs.Dispatch.{head}
use Rattle.rules_machine.specs.Servers.{closes}
use Rattle.rules_machine.specs.DueItems.{instant}
use Rattle.rules_machine.specs.Machine.{bodies_of, events, machine}
use Rattle.rules_machine.specs.Runs.{opening, thread_opened, ticks}
use Rattle.rules_machine.specs.Ticks.{tick}
use Rattle.rules_machine.specs.Throughout.{after_items}
use Rattle.rules_machine.specs.WellFormed.{IsWellFormed}
use Rattle.rules_flat_code.specs.KnownCalls.{Objects, objects_of}
use Rattle.rules_moves.specs.UnitRanges.{BodiesFit}
use Rattle.rules_moves.proofs.Waiters.Best.{running_within}
use Rattle.rules_moves.proofs.Runs.Listed.{head_can_run}
use Rattle.rules_moves.proofs.Runs.Preparing.{closes_keep}
use Rattle.rules_moves.proofs.Runs.Since.{Rests, instant_keep, run_since}
use Rattle.rules_moves.proofs.Runs.Units.{bodies_fit}
use Rattle.laws_machine.proofs.Lists.Kept.{Placed, Placing, opening_placed, placed_tick}
use Rattle.laws_machine.proofs.Lists.Priorities.{priorities}
use Rattle.laws_machine.proofs.Parts.Opening.{opening_listed}
use Rattle.laws_numbers.specs.Numbers.{DueSmall, Each, EntrySmall, IsSmall, NumbersAreSmall, QueueSmall, ThreadSmall, TimerSmall, TurnSmall}
use Rattle.laws_numbers.specs.Scripts.{BodiesSmall, DeclSmall, IsInRange, StartSmall}
use Rattle.laws_numbers.proofs.Lists.{each_both}
use Rattle.laws_numbers.proofs.Waking.{zero_small}
use Rattle.laws_numbers.proofs.Items.{instant_small, items_done_small}
use Rattle.laws_numbers.proofs.Ticks.{HeadThere, tick_small}
use Rattle.laws_numbers.proofs.Turns.{no_thread_small, no_timer_small, number_small}
use Rattle.laws_numbers.proofs.Bodies.{ThreadDeclSmall, bodies_small, threads_small}

priority_small : (n : ℕ) → n ≤ 255 → IsSmall n
priority_small n h = omega arith

module _ {P : Type 0} (o : Objects) (bodies : Bodies P) (known : BodiesSmall o bodies) (fits : BodiesFit bodies) where
  abbrev Still : Turn P → Type 0
  Still s = Rests bodies fits Placed Placing (λ b t. Placing) (λ b t. Placing) (λ b t. Placed) (placed_tick bodies) s

  abbrev Ready : Machine P → Machine P
  Ready m = (instant bodies (turn_of m)).machine

  -- the head is there as it is dispatched
  head_there : (top : ℕ) (low : top + 1 ≤ 10 ^ 18) (m : Machine P) → Still (turn_of m) → length (Ready m).threads ≡ o.threads → HeadThere o bodies known top low (closes (head (Ready m)) (instant bodies (turn_of m))).machine (head (Ready m))
  head_there top low m still counted = by (head (Ready m)) refl
    where
      by : (to : Option ℕ) → head (Ready m) ≡ to → HeadThere o bodies known top low (closes to (instant bodies (turn_of m))).machine to
      by None e = tt
      by (Some t) e =
          let rest = instant_keep bodies fits Placed Placing (λ b t. Placing) (λ b t. Placing) (λ b t. Placed) (placed_tick bodies) (turn_of m) still in
          let there : t < length (Ready m).threads = running_within (Ready m).threads t (head_can_run (Ready m) t rest.listed e) in
          let closed = closes (Some t) (instant bodies (turn_of m)) in
          let placed = closes_keep (λ (s : Turn P). Placed s.machine) (placed_tick bodies).prepares (Some t) (thread_numbers (Ready m)) (instant bodies (turn_of m)) rest.rest in
          (omega (arith, there, counted), priority_small (exec closed.machine t) ((priorities closed.machine placed.fit).small t))

  pub record RanSmall (top : ℕ) (start : Machine P) (n : ℕ) : Type 0 where
    pub machine : TurnSmall o.threads top (turn_of (ticks bodies n start).machine)
    pub events : Each (EntrySmall o.threads) (ticks bodies n start).events

  one_tick_more : (n : ℕ) (start : Machine P) → suc n ≤ 10 ^ 18 → Still (turn_of (ticks bodies n start).machine) → RanSmall n start n → RanSmall (suc n) start (suc n)
  one_tick_more n start low still h =
      let m = (ticks bodies n start).machine in
      let lower : n ≤ 10 ^ 18 = omega arith in
      let more : n + 1 ≤ 10 ^ 18 = omega arith in
      let ready = instant_small o.threads n lower bodies (turn_of m) h.machine in
      let ticked : TurnSmall o.threads (n + 1) (tick bodies (turn_of m)) = tick_small o bodies known n more (turn_of m) (head_there n more m still ready.counted) h.machine in
      let x = tick bodies (turn_of m) in
      record {
        machine = record {
          early = (let e = ticked.early in omega arith);
          of_clock = ticked.of_clock;
          of_quantum = ticked.of_quantum;
          counted = ticked.counted;
          of_threads = ticked.of_threads;
          of_mutexes = ticked.of_mutexes;
          of_semaphores = ticked.of_semaphores;
          of_queues = ticked.of_queues;
          of_timers = ticked.of_timers;
          of_records = ticked.of_records;
          of_events = tt;
        };
        events = each_both (EntrySmall o.threads) (ticks bodies n start).events x.events h.events ticked.of_events;
      }

  pub run_small : (n : ℕ) (start : Machine P) → n ≤ 10 ^ 18 → ((k : ℕ) → Still (turn_of (ticks bodies k start).machine)) → TurnSmall o.threads 0 (turn_of start) → RanSmall n start n
  run_small zero start low still h = record { machine = h; events = tt }
  run_small (suc n) start low still h = one_tick_more n start low (still n) (run_small n start (omega arith) still h)

-- ---- the opening

-- both clocks read the same
abbrev no_clock : Clock
no_clock = record { ahead = 0; behind = 0 }

start_small : (o : Option ℕ) → StartSmall o → DueSmall o
start_small None h = tt
start_small (Some n) h = number_small n h

opened_threads : (P : Type 0) (o : Objects) (count : ℕ) (ds : List ThreadDecl) → Each (ThreadDeclSmall o) ds → (t : ℕ) → ThreadSmall count no_clock (thread_in (map (λ (d : ThreadDecl). thread_opened {P = P} d) ds) t)
opened_threads P o count [] h t = no_thread_small count no_clock
opened_threads P o count (d ∷ ds) h zero = record { status = start_small d.start h.0.1; policy = h.0.0; server = tt; frames = tt; exit_value = zero_small; joiner = tt }
opened_threads P o count (d ∷ ds) h (suc t) = opened_threads P o count ds h.1 t

opened_semaphores : (o : Objects) (ds : List Decl) → Each (DeclSmall o) ds → (k : ℕ) → slice_index_or (filter_map (named semaphore_kind) ds) k 0 ≤ semaphore_limit
opened_semaphores o [] h k = omega arith
opened_semaphores o (decl.Action signal handler ∷ ds) h k = opened_semaphores o ds h.1 k
opened_semaphores o (decl.Named name (kind.Sem value) ∷ ds) h zero = h.0
opened_semaphores o (decl.Named name (kind.Sem value) ∷ ds) h (suc k) = opened_semaphores o ds h.1 k
opened_semaphores o (decl.Named name other ∷ ds) h k = opened_semaphores o ds h.1 k

opened_mutexes : (ds : List Decl) (k : ℕ) → (mutex_in (filter_map (named mutex_kind) ds) k).count ≤ recursion_limit
opened_mutexes [] k = omega arith
opened_mutexes (decl.Action signal handler ∷ ds) k = opened_mutexes ds k
opened_mutexes (decl.Named name (kind.Mutex protocol recursive) ∷ ds) zero = omega arith
opened_mutexes (decl.Named name (kind.Mutex protocol recursive) ∷ ds) (suc k) = opened_mutexes ds k
opened_mutexes (decl.Named name other ∷ ds) k = opened_mutexes ds k

no_queue_small : QueueSmall no_queue
no_queue_small = record { depth = omega arith; longest = omega arith; messages = tt; registration = tt }

opened_queues : (o : Objects) (ds : List Decl) → Each (DeclSmall o) ds → (q : ℕ) → QueueSmall (slice_index_or (filter_map (named queue_kind) ds) q no_queue)
opened_queues o [] h q = no_queue_small
opened_queues o (decl.Action signal handler ∷ ds) h q = opened_queues o ds h.1 q
opened_queues o (decl.Named name (kind.Queue depth longest nonblock) ∷ ds) h zero = record { depth = h.0.0; longest = h.0.1; messages = tt; registration = tt }
opened_queues o (decl.Named name (kind.Queue depth longest nonblock) ∷ ds) h (suc q) = opened_queues o ds h.1 q
opened_queues o (decl.Named name other ∷ ds) h q = opened_queues o ds h.1 q

opened_timers : (o : Objects) (ds : List Decl) → Each (DeclSmall o) ds → (k : ℕ) → TimerSmall no_clock (slice_index_or (filter_map (named timer_kind) ds) k no_timer)
opened_timers o [] h k = no_timer_small no_clock
opened_timers o (decl.Action signal handler ∷ ds) h k = opened_timers o ds h.1 k
opened_timers o (decl.Named name (kind.Timer signal value real) ∷ ds) h zero =
    record { signal = h.0.0; value = number_small value h.0.1; due = tt; reading = tt; interval = omega arith; extra = omega arith; overrun = omega arith }
opened_timers o (decl.Named name (kind.Timer signal value real) ∷ ds) h (suc k) = opened_timers o ds h.1 k
opened_timers o (decl.Named name other ∷ ds) h k = opened_timers o ds h.1 k

same_length : {X Y : Type 0} (f : X → Y) (xs : List X) → length (map f xs) ≡ length xs
same_length f [] = refl
same_length f (x ∷ xs) = ap suc (same_length f xs)

pub opening_small : (P : Type 0) (script : Script) → IsInRange script → NumbersAreSmall (objects_of script).threads 0 (opening {P = P} script)
opening_small P script h = record {
  early = omega arith;
  of_clock = record { ahead = omega arith; behind = omega arith };
  of_quantum = h.quantum;
  counted = same_length (λ (d : ThreadDecl). thread_opened {P = P} d) (threads_of script);
  of_threads = opened_threads P (objects_of script) (objects_of script).threads (threads_of script) (threads_small (objects_of script) script.decls h.decls);
  of_mutexes = opened_mutexes script.decls;
  of_semaphores = opened_semaphores (objects_of script) script.decls h.decls;
  of_queues = opened_queues (objects_of script) script.decls h.decls;
  of_timers = opened_timers (objects_of script) script.decls h.decls;
  of_records = tt;
  of_events = tt;
}

-- ---- the run of a script

module _ (script : Script) (fits : IsWellFormed script) (ranges : IsInRange script) where
  stands : (n : ℕ) → Rests (bodies_of script) (bodies_fit script fits.priorities) Placed Placing (λ b t. Placing) (λ b t. Placing) (λ b t. Placed) (placed_tick (bodies_of script)) (turn_of (ticks (bodies_of script) n (opening script)).machine)
  stands n =
      run_since (bodies_of script) (bodies_fit script fits.priorities) Placed Placing (λ b t. Placing) (λ b t. Placing) (λ b t. Placed) (placed_tick (bodies_of script)) n (opening script)
      (opening_placed Place script fits) (opening_listed Place script)

  ran_small : (n : ℕ) → n ≤ 10 ^ 18 → RanSmall (objects_of script) (bodies_of script) (bodies_small script ranges) (bodies_fit script fits.priorities) n (opening script) n
  ran_small n low = run_small (objects_of script) (bodies_of script) (bodies_small script ranges) (bodies_fit script fits.priorities) n (opening script) low stands (opening_small Place script ranges)

  -- no number of the machine is above 3 * 10 ^ 18
  pub numbers_small : (n : ℕ) → n ≤ 10 ^ 18 → NumbersAreSmall (objects_of script).threads n (machine script n)
  numbers_small n low = (ran_small n low).machine

  -- nor between the items of an instant
  pub numbers_small_between : (n k : ℕ) → n ≤ 10 ^ 18 → NumbersAreSmall (objects_of script).threads n (after_items (bodies_of script) (opening script) n k)
  numbers_small_between n k low =
      let x = items_done_small (objects_of script).threads n low (bodies_of script) k (turn_of (machine script n)) (ran_small n low).machine in
      record {
        early = x.early;
        of_clock = x.of_clock;
        of_quantum = x.of_quantum;
        counted = x.counted;
        of_threads = x.of_threads;
        of_mutexes = x.of_mutexes;
        of_semaphores = x.of_semaphores;
        of_queues = x.of_queues;
        of_timers = x.of_timers;
        of_records = x.of_records;
        of_events = tt;
      }

  -- and none of an event, and the threads of events are some of the script's
  pub events_small : (n : ℕ) → n ≤ 10 ^ 18 → Each (EntrySmall (objects_of script).threads) (events script n)
  events_small n low = (ran_small n low).events
