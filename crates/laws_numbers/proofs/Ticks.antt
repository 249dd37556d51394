-- What ticks and runs keep small.
use Rattle.std.proofs.Common.{Bool, List, None, Option, Some, [], arith, false, refl, suc, true, zero, ℕ, ◌+◌, ◌^◌, ◌-◌, ◌<◌, ◌≤◌, ◌∷◌, ◌≡◌}
use Rattle.std.specs.Prelude.{not, option_map, ◌&&◌}
use Rattle.rules_bodies.specs.declared.unit.Unit as units
use Rattle.rules_bodies.specs.declared.unit.Unit.TheVariants as unit
use Rattle.rules_bodies.specs.Next.{ticks_of}
use Rattle.words_trace.specs.declared.event.Event.TheVariants as event
use Rattle.rules_server.specs.Server.{ServerState}
use Rattle.rules_machine.specs.Bodies.{Bodies, seen_by}
use Rattle.rules_machine.specs.State.{Clock, Frame, Machine, Thread}
use Rattle.rules_machine.specs.Threads.{can_run, thread_at, thread_numbers, top_left}
use Rattle.rules_machine.specs.Lists.{is}
use Rattle.rules_machine.specs.Turns.{Turn, becomes, changes, settles_since, tells}
use Rattle.rules_machine.specs.Priorities.{exec}
use Rattle.rules_machine.specs.Servers.{charged, closes, closes_of, has_high, has_run, may_open, opens_for, opens_if, plans, plans_if}
use Rattle.rules_machine.specs.Dispatch.{dispatch_event, dispatches, head, is_same, tells_unless}
use Rattle.rules_machine.specs.Delivery.{sweeps}
use Rattle.rules_machine.specs.DueItems.{instant}
use Rattle.rules_machine.specs.Units.{Following, advances, advancing, begins_finish, cleaning_up, continuing, finishing, following, frame_begins, in_cleanup, in_unit, next_of, takes_unit}
use Rattle.rules_machine.specs.Ticks.{TickEnd, completes_at, ends_tick, exhausting, frames_charged, later, nothing, planning, prepares, runs, runs_head, slicing, tick, tick_charged, tick_end, tick_ends, unless_killed, without_slice}
use Rattle.rules_flat_code.specs.KnownCalls.{Objects}
use Rattle.laws_numbers.specs.Numbers.{AreSmall, Each, FrameSmall, HasSmall, IsSmall, ThreadSmall, TurnSmall}
use Rattle.laws_numbers.specs.Scripts.{BodiesSmall, UnitMade, UnitSmall}
use Rattle.laws_numbers.proofs.Servers.{charged_small}
use Rattle.laws_numbers.proofs.Turns.{changes_small, moves_if_small, moves_unless_boosted_small, tells_small}
use Rattle.laws_numbers.proofs.Lists.{served_within}
use Rattle.laws_numbers.proofs.Waking.{activates_server_small, capacity_small, plans_small, zero_small}
use Rattle.laws_numbers.proofs.Calls.{plain_small, unit_small}
use Rattle.laws_numbers.proofs.Items.{instant_small, sweeps_small}

-- ---- the unit that a thread is in

unit_made : (o : Objects) (u : units.Unit) → UnitSmall o u → UnitMade o u
unit_made o (unit.Run n) h = tt
unit_made o (unit.Make c) h = h
unit_made o unit.Jump h = tt
unit_made o unit.Finish h = tt

ticks_small : (o : Objects) (u : units.Unit) → UnitSmall o u → IsSmall (ticks_of u)
ticks_small o (unit.Run n) h = omega arith
ticks_small o (unit.Make c) h = omega arith
ticks_small o unit.Jump h = omega arith
ticks_small o unit.Finish h = omega arith

one_small : IsSmall 1
one_small = omega arith

module _ {P : Type 0} (count : ℕ) (clock : Clock) (o : Objects) (bodies : Bodies P) (known : BodiesSmall o bodies) where
  pub record TakenSmall (th : Thread P) (u : units.Unit) : Type 0 where
    pub thread : ThreadSmall count clock th
    pub unit : UnitMade o u

  in_frames : (fs : List (Frame P)) (th : Thread P) → Each FrameSmall fs → ThreadSmall count clock th → ThreadSmall count clock (record th { frames = fs })
  in_frames fs th k h = record { status = h.status; policy = h.policy; server = h.server; frames = k; exit_value = h.exit_value; joiner = h.joiner }

  advances_small : (fs : List (Frame P)) (th : Thread P) → Each FrameSmall fs → ThreadSmall count clock th → TakenSmall (advances bodies fs th).thread (advances bodies fs th).unit
  advances_small [] th k h = record { thread = h; unit = tt }
  advances_small (f ∷ fs) th k h =
      let next = known f.body f.place (seen_by f) k.0.register in
      record {
        thread = in_frames (frame_begins (next_of bodies f) f ∷ fs) th (record { register = next.register; value = k.0.value; left = ticks_small o (next_of bodies f).unit next.unit }, k.1) h;
        unit = unit_made o (next_of bodies f).unit next.unit;
      }

  finish_small : (fs : List (Frame P)) (th : Thread P) → Each FrameSmall fs → ThreadSmall count clock th → TakenSmall (begins_finish fs th).thread (begins_finish fs th).unit
  finish_small [] th k h = record { thread = h; unit = tt }
  finish_small (f ∷ fs) th k h = record { thread = in_frames (record f { left = 1 } ∷ fs) th (record { register = k.0.register; value = k.0.value; left = one_small }, k.1) h; unit = tt }

  cleanup_small : (u : ℕ) (th : Thread P) → ThreadSmall count clock th → ThreadSmall count clock (in_cleanup bodies u th)
  cleanup_small u th h = record {
    status = h.status;
    policy = h.policy;
    server = h.server;
    frames = (record { register = omega arith; value = zero_small; left = zero_small }, h.frames);
    exit_value = h.exit_value;
    joiner = h.joiner;
  }

  pub in_unit_small : (th : Thread P) → ThreadSmall count clock th → TakenSmall (in_unit bodies th).thread (in_unit bodies th).unit
  in_unit_small th h = by_case (following th)
    where
      by_case : (x : Following) → TakenSmall (takes_unit bodies x th).thread (takes_unit bodies x th).unit
      by_case (continuing left) = record { thread = h; unit = tt }
      by_case advancing = advances_small th.frames th h.frames h
      by_case (cleaning_up u) = let k = cleanup_small u th h in advances_small (in_cleanup bodies u th).frames (in_cleanup bodies u th) k.frames k
      by_case finishing = finish_small th.frames th h.frames h

-- ---- the charge

charged_has : (n : ℕ) (s : Option ServerState) → HasSmall n s → HasSmall (n + 1) (option_map charged s)
charged_has n None h = tt
charged_has n (Some s) h = charged_small n s h

one_less_small : (n : ℕ) → IsSmall n → IsSmall (n - 1)
one_less_small n h = omega arith

frames_charged_small : {P : Type 0} (fs : List (Frame P)) → Each FrameSmall fs → Each FrameSmall (frames_charged fs)
frames_charged_small [] h = tt
frames_charged_small (f ∷ fs) h = (record { register = h.0.register; value = h.0.value; left = one_less_small f.left h.0.left }, h.1)

pub tick_charged_small : {P : Type 0} (count : ℕ) (clock : Clock) (th : Thread P) → ThreadSmall count clock th → ThreadSmall count clock (tick_charged th)
tick_charged_small count clock th h = record {
  status = h.status;
  policy = h.policy;
  server = charged_has th.ticks th.server h.server;
  frames = frames_charged_small th.frames h.frames;
  exit_value = h.exit_value;
  joiner = h.joiner;
}

-- another instant
pub later_small : {P : Type 0} (count top more : ℕ) (s : Turn P) (now : ℕ) → s.machine.now ≤ now → now ≤ more → TurnSmall count top s →
    AreSmall count more now s.machine.clock s.machine.quantum s.machine.threads s.machine.mutexes s.machine.semaphores s.machine.queues s.machine.timers s.machine.pending s.events
later_small count top more s now since e h = record {
  early = e;
  of_clock = record { ahead = h.of_clock.ahead; behind = (let b = h.of_clock.behind in omega (arith, b, since)) };
  of_quantum = h.of_quantum;
  counted = h.counted;
  of_threads = h.of_threads;
  of_mutexes = h.of_mutexes;
  of_semaphores = h.of_semaphores;
  of_queues = h.of_queues;
  of_timers = h.of_timers;
  of_records = h.of_records;
  of_events = h.of_events;
}

-- ---- the parts of a tick

module _ {P : Type 0} (o : Objects) (bodies : Bodies P) (known : BodiesSmall o bodies) (top : ℕ) (low : top ≤ 10 ^ 18) where
  abbrev Small : Turn P → Type 0
  Small s = TurnSmall o.threads top s

  completes_small : (left t : ℕ) (u : units.Unit) (s : Turn P) → t < o.threads → UnitMade o u → Small s → Small (completes_at bodies left t u s)
  completes_small zero t u s lt k h = unit_small o.threads top low bodies o refl t u s lt k h
  completes_small (suc left) t u s lt k h = h

  ends_tick_small : (e : TickEnd) (t : ℕ) (s : Turn P) → t < o.threads → Small s → Small (ends_tick e t s)
  ends_tick_small planning t s lt h = plans_small o.threads top low t (thread_at s.machine t).server s lt (h.of_threads t).server h
  ends_tick_small exhausting t s lt h =
      let told = tells (event.Exhaust t) s in
      let k : Small told = tells_small o.threads top low (event.Exhaust t) s lt h in
      moves_unless_boosted_small o.threads top low t (plans t told) (plans_small o.threads top low t (thread_at told.machine t).server told lt (k.of_threads t).server k)
  ends_tick_small slicing t s lt h =
      moves_if_small o.threads top low (can_run s.machine t) t (changes t without_slice s)
      (plain_small o.threads top low t without_slice s (λ th x. record { status = x.status; policy = x.policy; server = x.server; frames = x.frames; exit_value = x.exit_value; joiner = x.joiner }) h)
  ends_tick_small nothing t s lt h = h

  -- from the charge on
  pub charged_on_small : (was_high : Bool) (before : Machine P) (t : ℕ) (u : units.Unit) (s : Turn P) → t < o.threads → UnitMade o u → Small s →
      Small (sweeps bodies (tick_ends was_high t (settles_since before (completes_at bodies (top_left (thread_at s.machine t).frames) t u s))))
  charged_on_small was_high before t u s lt k h =
      let done = settles_since before (completes_at bodies (top_left (thread_at s.machine t).frames) t u s) in
      let d : Small done = completes_small (top_left (thread_at s.machine t).frames) t u s lt k h in
      sweeps_small o.threads top low bodies (tick_ends was_high t done) (ends_tick_small (tick_end was_high done.machine.quantum (thread_at done.machine t)) t done lt d)

-- ---- a tick

module _ {P : Type 0} (o : Objects) (bodies : Bodies P) (known : BodiesSmall o bodies) (top : ℕ) (low : top + 1 ≤ 10 ^ 18) where
  lower : top ≤ 10 ^ 18
  lower = omega arith

  -- what is dispatched is there, with a small priority
  abbrev pub HeadThere : Machine P → Option ℕ → Type 0
  HeadThere m None = Unit {0}
  HeadThere m (Some t) = (t < o.threads) × IsSmall (exec m t)

  -- ---- what precedes the tick of the head

  closes_if_small : (b : Bool) (t : ℕ) (s : Turn P) → (has_run (thread_at s.machine t).server ≡ true → t < o.threads) → (b ≡ true → has_run (thread_at s.machine t).server ≡ true) → TurnSmall o.threads top s → TurnSmall o.threads top (plans_if b t s)
  closes_if_small true t s within run h = plans_small o.threads top lower t (thread_at s.machine t).server s (within (run refl)) (h.of_threads t).server h
  closes_if_small false t s within run h = h

  -- a thread that has a server is there
  run_there : (t : ℕ) (s : Turn P) → TurnSmall o.threads top s → has_run (thread_at s.machine t).server ≡ true → t < o.threads
  run_there t s h run = by (thread_at s.machine t).server refl run
    where
      by : (w : Option ServerState) → (thread_at s.machine t).server ≡ w → has_run w ≡ true → t < o.threads
      by None e k = absurd (grind arith)
      by (Some x) e k = let here = served_within s.machine.threads t x (λ (th : Thread P). th.server) refl e in let counted = h.counted in omega arith

  closes_small : (to : Option ℕ) (ts : List ℕ) (s : Turn P) → TurnSmall o.threads top s → TurnSmall o.threads top (closes_of to ts s)
  closes_small to [] s h = h
  closes_small to (t ∷ ts) s h =
      let b = not (is to t) && has_run (thread_at s.machine t).server in
      closes_small to ts (plans_if b t s) (closes_if_small b t s (run_there t s h) (second (not (is to t)) (has_run (thread_at s.machine t).server)) h)
    where
      second : (a b : Bool) → (a && b) ≡ true → b ≡ true
      second a b h = grind arith

  opens_if_small : (b : Bool) (t : ℕ) (x : ServerState) (s : Turn P) → t < o.threads → HasSmall (thread_at s.machine t).ticks (Some x) → TurnSmall o.threads top s → TurnSmall o.threads top (opens_if b t x s)
  opens_if_small true t x s lt k h = activates_server_small o.threads top lower t (Some x) s lt (capacity_small (thread_at s.machine t).ticks (Some x) k) h
  opens_if_small false t x s lt k h = h

  opens_for_small : (t : ℕ) (w : Option ServerState) (s : Turn P) → t < o.threads → HasSmall (thread_at s.machine t).ticks w → TurnSmall o.threads top s → TurnSmall o.threads top (opens_for t w s)
  opens_for_small t None s lt k h = h
  opens_for_small t (Some x) s lt k h = opens_if_small (may_open x) t x s lt k h

  told_small : (b : Bool) (to : Option ℕ) (s : Turn P) → HeadThere s.machine to → TurnSmall o.threads top s → TurnSmall o.threads top (tells_unless b (dispatch_event s.machine to) s)
  told_small true to s there h = h
  told_small false None s there h = tells_small o.threads top lower event.Idle s tt h
  told_small false (Some t) s there h = tells_small o.threads top lower (event.Dispatch t (exec s.machine t)) s there h

  runs_small : (to : Option ℕ) (s : Turn P) → HeadThere (closes to s).machine to → TurnSmall o.threads top s → TurnSmall o.threads (top + 1) (runs bodies to (prepares to s))
  runs_small None s there h =
      let x = prepares None s in
      let c = closes_small None (thread_numbers s.machine) s h in
      let k : TurnSmall o.threads top x = told_small (is_same (closes None s).machine.last None) None (closes None s) there c in
      later_small o.threads top (top + 1) x (x.machine.now + 1) (omega arith) (let e = k.early in omega arith) k
  runs_small (Some t) s there h =
      let x = prepares (Some t) s in
      let c = closes_small (Some t) (thread_numbers s.machine) s h in
      let sent = dispatches (Some t) (closes (Some t) s) in
      let d : TurnSmall o.threads top sent = told_small (is_same (closes (Some t) s).machine.last (Some t)) (Some t) (closes (Some t) s) there c in
      let k : TurnSmall o.threads top x = opens_for_small t (thread_at sent.machine t).server sent there.0 (d.of_threads t).server d in
      let taken = in_unit bodies (thread_at x.machine t) in
      let in' = in_unit_small o.threads x.machine.clock o bodies known (thread_at x.machine t) (k.of_threads t) in
      let charged' = changes t (λ th. tick_charged taken.thread) x in
      let c : TurnSmall o.threads top charged' = changes_small o.threads top lower t (λ th. tick_charged taken.thread) x (λ th. tick_charged_small o.threads x.machine.clock taken.thread in'.thread) k in
      let on = becomes later charged' in
      let l : TurnSmall o.threads (top + 1) on = later_small o.threads top (top + 1) charged' (charged'.machine.now + 1) (omega arith) (let e = c.early in omega arith) c in
      charged_on_small o bodies known (top + 1) low (has_high (thread_at x.machine t).server) x.machine t taken.unit on there.0 in'.unit l

  goes_on_small : (killed : Option ℕ) (s : Turn P) → HeadThere (closes (head s.machine) s).machine (head s.machine) → TurnSmall o.threads top s → TurnSmall o.threads (top + 1) (unless_killed killed (runs_head bodies) s)
  goes_on_small None s there h = runs_small (head s.machine) s there h
  goes_on_small (Some signal) s there h = later_small o.threads top (top + 1) s s.machine.now (omega arith) (let e = h.early in omega arith) h

  pub tick_small : (s : Turn P) → HeadThere (closes (head (instant bodies s).machine) (instant bodies s)).machine (head (instant bodies s).machine) → TurnSmall o.threads top s → TurnSmall o.threads (top + 1) (tick bodies s)
  tick_small s there h = let ready = instant bodies s in goes_on_small ready.machine.killed ready there (instant_small o.threads top lower bodies s h)
