-- What threads keep, ticks and runs keep.
use Rattle.std.proofs.Common.{Bool, None, Option, Some, arith, false, refl, subst, suc, sym, true, zero, ℕ, ◌+◌, ◌∙◌, ◌≡◌, List, [], ◌∷◌}
use Rattle.rules_bodies.specs.declared.unit.Unit as units
use Rattle.words_trace.specs.declared.event.Event.{Event}
use Rattle.words_trace.specs.declared.event.Event.TheVariants as event
use Rattle.rules_machine.specs.Lists.{is}
use Rattle.rules_machine.specs.State.{Machine, Thread}
use Rattle.rules_machine.specs.Threads.{can_run, no_thread, thread_at, top_left, thread_numbers}
use Rattle.rules_machine.specs.Turns.{Turn, becomes, changes, tells, turn_of}
use Rattle.rules_machine.specs.Servers.{has_high, plans, closes, closes_of, has_run, may_open, opens, opens_for, opens_if, plans_if}
use Rattle.rules_machine.specs.Dispatch.{dispatch_event, dispatches, head, is_same, tells_unless}
use Rattle.rules_machine.specs.DueItems.{instant, items_done}
use Rattle.rules_machine.specs.Units.{in_unit}
use Rattle.rules_machine.specs.Ticks.{TickEnd, completes_at, ends_tick, exhausting, later, nothing, planning, runs, runs_head, slicing, tick, tick_charged, tick_end, tick_ends, unit_ticked, unless_killed, without_slice, prepares}
use Rattle.rules_machine.specs.Runs.{ticks}
use Rattle.rules_machine.proofs.Reading.{changed-length}
use Rattle.laws_threads.specs.EachThread.{Closed, Given, Lasts, Passes, UnitKnown}
use Rattle.laws_threads.proofs.Changes.{Holds, at_self, at_two, changes_hold}
use Rattle.laws_threads.proofs.Waking.{moves_if_hold, moves_unless_boosted_hold, plans_hold, activates_server_hold}
use Rattle.laws_threads.proofs.Table.{unit_effect_hold}
use Rattle.laws_threads.proofs.Items.{instant_hold, items_done_hold, sweeps_hold}
use Rattle.std.specs.Prelude.{not, ◌&&◌}
use Rattle.rules_server.specs.Server.{ServerState}

module _ {P : Type 0} (given : Given P) (Q : ℕ → ℕ → Thread P → Type 0) (closed : Closed given Q) where
  abbrev Holding : Turn P → Type 0
  Holding s = Holds given Q s

  pub ends_tick_hold : (e : TickEnd) (t : ℕ) (s : Turn P) → Holding s → Holding (ends_tick e t s)
  ends_tick_hold planning t s h = plans_hold given Q closed t (thread_at s.machine t).server s h
  ends_tick_hold exhausting t s h =
      let told = tells (event.Exhaust t) s in moves_unless_boosted_hold given Q closed t (plans t told) (plans_hold given Q closed t (thread_at s.machine t).server told h)
  ends_tick_hold slicing t s h =
      moves_if_hold given Q closed (can_run s.machine t) t (changes t without_slice s) (changes_hold given Q t without_slice s (λ lt q. closed.slices s.machine.now t (thread_at s.machine t) q) h)
  ends_tick_hold nothing t s h = h

  pub tick_ends_hold : (was_high : Bool) (t : ℕ) (s : Turn P) → Holding s → Holding (tick_ends was_high t s)
  tick_ends_hold was_high t s h = ends_tick_hold (tick_end was_high s.machine.quantum (thread_at s.machine t)) t s h

  pub completes_hold : (left t : ℕ) (u : units.Unit) (s : Turn P) → UnitKnown given (thread_at s.machine t) u → Holding s → Holding (completes_at given.bodies left t u s)
  completes_hold zero t u s known h = unit_effect_hold given Q closed t u s known h
  completes_hold (suc left) t u s known h = h

  pub dispatches_hold : (to : Option ℕ) (s : Turn P) → Holding s → Holding (dispatches to s)
  dispatches_hold to s h = told (is_same s.machine.last to) (dispatch_event s.machine to)
    where
      told : (b : Bool) (e : Event) → Holding (tells_unless b e s)
      told true e = h
      told false e = h

  -- what precedes the tick of the head
  closes_hold : (to : Option ℕ) (ts : List ℕ) (s : Turn P) → Holding s → Holding (closes_of to ts s)
  closes_hold to [] s h = h
  closes_hold to (t ∷ ts) s h =
      let b = not (is to t) && has_run (thread_at s.machine t).server in closes_hold to ts (plans_if b t s) (one b)
    where
      one : (b : Bool) → Holding (plans_if b t s)
      one true = plans_hold given Q closed t (thread_at s.machine t).server s h
      one false = h

  opens_for_hold : (t : ℕ) (o : Option ServerState) (s : Turn P) → Holding s → Holding (opens_for t o s)
  opens_for_hold t None s h = h
  opens_for_hold t (Some x) s h = one (may_open x)
    where
      one : (b : Bool) → Holding (opens_if b t x s)
      one true = activates_server_hold given Q closed t (Some x) s h
      one false = h

  opens_hold : (to : Option ℕ) (s : Turn P) → Holding s → Holding (opens to s)
  opens_hold None s h = h
  opens_hold (Some t) s h = opens_for_hold t (thread_at s.machine t).server s h

  pub prepares_hold : (to : Option ℕ) (s : Turn P) → Holding s → Holding (prepares to s)
  prepares_hold to s h = opens_hold to (dispatches to (closes to s)) (dispatches_hold to (closes to s) (closes_hold to (thread_numbers s.machine) s h))

-- ---- a tick, from one law to another

module _ {P : Type 0} (given : Given P) (Q R : ℕ → ℕ → Thread P → Type 0) (closed : Closed given R) (to : Option ℕ) (passes : Passes given Q R to) where
  pub later_holds : (s : Turn P) → ((u : ℕ) → is to u ≡ false) → Holds given Q s → Holds given R (becomes later s)
  later_holds s free h = record { each = λ u lt. passes.rests s.machine.now u (thread_at s.machine u) (free u) (h.each u lt); counted = h.counted; handled = h.handled; objects = h.objects }

  -- the tick is charged, and the unit has not had its effect
  abbrev pub charged_turn : ℕ → Turn P → Turn P
  charged_turn t s = becomes later (changes t (λ th. tick_charged (in_unit given.bodies (thread_at s.machine t)).thread) s)

  pub charged_known : (t : ℕ) (s : Turn P) → to ≡ Some t → Holds given Q s → UnitKnown given (thread_at (charged_turn t s).machine t) (in_unit given.bodies (thread_at s.machine t)).unit
  charged_known t s e h =
      let taken = in_unit given.bodies (thread_at s.machine t) in
      at_self (λ (th : Thread P). UnitKnown given th taken.unit) no_thread (λ th. tick_charged taken.thread) s.machine.threads t
      (λ lt. passes.known s.machine.now t (thread_at s.machine t) e (h.each t lt))
      (λ none. subst (λ (th : Thread P). UnitKnown given no_thread (in_unit given.bodies th).unit) (sym none) tt)

  pub charged_holds : (t : ℕ) (s : Turn P) → to ≡ Some t → Holds given Q s → Holds given R (charged_turn t s)
  charged_holds t s e h =
      let now = s.machine.now in
      let ths = s.machine.threads in
      let taken = in_unit given.bodies (thread_at s.machine t) in
      let same = changed-length no_thread t (λ th. tick_charged taken.thread) ths in
      record {
        each = λ u lt. at_two (R (now + 1)) no_thread (tick_charged taken.thread) ths t u (λ lt. passes.runs now t (thread_at s.machine t) e (h.each t lt))
            (λ j other lt. passes.rests now j (thread_at s.machine j) (rw e other) (h.each j lt)) (omega (arith, same, lt));
        counted = same ∙ h.counted;
        handled = h.handled;
        objects = h.objects;
      }

  pub ticked_holds : (before : Machine P) (t : ℕ) (s : Turn P) → to ≡ Some t → Holds given Q s → Holds given R (unit_ticked given.bodies before t (in_unit given.bodies (thread_at s.machine t)) s)
  ticked_holds before t s e h =
      let x = charged_turn t s in
      completes_hold given R closed (top_left (thread_at x.machine t).frames) t (in_unit given.bodies (thread_at s.machine t)).unit x (charged_known t s e h) (charged_holds t s e h)

  pub runs_hold : (o : Option ℕ) (s : Turn P) → to ≡ o → Holds given Q s → Holds given R (runs given.bodies o s)
  runs_hold None s e h = later_holds s (λ u. rw e refl) h
  runs_hold (Some t) s e h =
      let done = unit_ticked given.bodies s.machine t (in_unit given.bodies (thread_at s.machine t)) s in
      let was_high = has_high (thread_at s.machine t).server in
      sweeps_hold given R closed (tick_ends was_high t done) (tick_ends_hold given R closed was_high t done (ticked_holds s.machine t s e h))

-- a tick of the head
pub runs_head_hold : {P : Type 0} (given : Given P) (Q R : ℕ → ℕ → Thread P → Type 0) → Closed given Q → Closed given R → (s : Turn P) → Passes given Q R (head s.machine) →
    Holds given Q s → Holds given R (runs_head given.bodies s)
runs_head_hold given Q R first closed s passes h = runs_hold given Q R closed (head s.machine) passes (head s.machine) (prepares (head s.machine) s) refl (prepares_hold given Q first (head s.machine) s h)

-- ---- runs

module _ {P : Type 0} (given : Given P) (Q : ℕ → ℕ → Thread P → Type 0) (lasts : Lasts given Q) where
  abbrev Lasting : Turn P → Type 0
  Lasting s = Holds given Q s

  goes_on_hold : (killed : Option ℕ) (s : Turn P) → Lasting s → Lasting (unless_killed killed (runs_head given.bodies) s)
  goes_on_hold None s h = runs_head_hold given Q Q lasts.closed lasts.closed s (lasts.passes (head s.machine)) h
  goes_on_hold (Some signal) s h = h

  pub tick_hold : (s : Turn P) → Lasting s → Lasting (tick given.bodies s)
  tick_hold s h = let ready = instant given.bodies s in goes_on_hold ready.machine.killed ready (instant_hold given Q lasts.closed s h)

  pub ticks_hold : (n : ℕ) (start : Machine P) → Lasting (turn_of start) → Lasting (turn_of (ticks given.bodies n start).machine)
  ticks_hold zero start h = h
  ticks_hold (suc n) start h = tick_hold (turn_of (ticks given.bodies n start).machine) (ticks_hold n start h)

  -- after some ticks, and some items of the next with their sweeps
  pub holds_throughout : (n most : ℕ) (start : Machine P) → Lasting (turn_of start) → Lasting (items_done given.bodies most (turn_of (ticks given.bodies n start).machine))
  holds_throughout n most start h = items_done_hold given Q lasts.closed most (turn_of (ticks given.bodies n start).machine) (ticks_hold n start h)
