-- What every move and the parts of a tick keep, every run keeps.
use Rattle.std.proofs.Common.{Bool, List, None, Option, Some, [], ap, arith, false, refl, suc, sym, true, zero, ℕ, ◌∷◌, ◌≡◌}
use mathlib.Core.Path.{subst, ◌∙◌}
use Rattle.words_numbers.specs.declared.item.Item.{Item}
use Rattle.words_numbers.specs.declared.item.Item.TheVariants as item
use Rattle.rules_bodies.specs.declared.unit.Unit.{Unit}
use Rattle.words_trace.specs.declared.event.Event.{Event}
use Rattle.rules_machine.specs.Bodies.{Bodies}
use Rattle.rules_machine.specs.State.{Frame, Machine, Status, Thread, blocked, dormant, ended, runnable}
use Rattle.rules_machine.specs.Threads.{can_run, is_dormant, is_runnable, thread_at, thread_numbers, top_left, waiting_of}
use Rattle.rules_machine.specs.Turns.{Turn, becomes, changes, settles_since, turn_of}
use Rattle.rules_machine.specs.Servers.{has_high}
use Rattle.rules_machine.specs.Delivery.{sweeps, sweeps_all}
use Rattle.rules_machine.specs.DueItems.{handles, has_come, instant, item_bound, item_done, item_then, items_done, next_item, start_due, start_in}
use Rattle.rules_machine.specs.Dispatch.{dispatch_event, dispatch_of, dispatches, head, is_same, tells_unless}
use Rattle.rules_machine.specs.Units.{Following, advances, advancing, begins_finish, cleaning_up, continuing, finishing, following, in_unit, takes_unit}
use Rattle.rules_machine.specs.Ticks.{completes_at, ends_tick, later, prepares, runs, runs_head, tick, tick_charged, tick_end, tick_ends, unit_ticked, unless_killed}
use Rattle.rules_machine.specs.Runs.{ticks}
use Rattle.rules_machine.proofs.ItemsEnd.{is_due, next_is_due}
use Rattle.rules_machine.proofs.Reading.{thread-same}
use Rattle.rules_moves.specs.Moves.{KeepsAwake, Stops, begins, refills_one}
use Rattle.rules_moves.specs.UnitRanges.{BodiesFit, UnitFits}
use Rattle.rules_moves.proofs.Waiters.Best.{running_within}
use Rattle.rules_moves.proofs.Calls.Signals.{expires_keep}
use Rattle.rules_moves.proofs.Calls.Table.{JoinersWait, sweeps_all_keep, times_out_keep, unit_keep}
use Rattle.rules_moves.proofs.Runs.Units.{in_unit_fits}
use Rattle.rules_moves.proofs.Runs.Listed.{AllRun, head_can_run, settled_run}
use Rattle.rules_moves.proofs.Runs.Preparing.{IsReady, PreparingKeeps, alike_listed, alike_runs, prepared, prepares_keep}

-- the turn in which the head's tick is charged
abbrev pub charged_turn : {P : Type 0} → Bodies P → ℕ → Turn P → Turn P
charged_turn bodies t s = becomes later (changes t (λ th. tick_charged (in_unit bodies (thread_at s.machine t)).thread) s)

-- Law holds round items and sweeps, Mid from the charge of a tick on while the unit's own thread does not block, and Done from then
-- to the tick's end. The flag says whether the tick was charged to a server.
pub record TickKeeps {P : Type 0} (bodies : Bodies P) (Law : Turn P → Type 0) (Mid Done : Bool → ℕ → Turn P → Type 0) : Type 0 where
  pub moves : KeepsAwake bodies None Law
  pub joined : (s : Turn P) → Law s → JoinersWait s
  pub settles : (before : Machine P) (s : Turn P) → Law s → Law (settles_since before s)
  pub unit_moves : (was_high : Bool) (t : ℕ) → KeepsAwake bodies (Some t) (Mid was_high t)
  pub unit_joined : (was_high : Bool) (t : ℕ) (s : Turn P) → Mid was_high t s → JoinersWait s
  pub unit_stops : (was_high : Bool) (t : ℕ) → Stops (Some t) (Mid was_high t) (Done was_high t)
  pub unit_renews : (was_high : Bool) (t u : ℕ) → (unit_stops was_high t).renewable u ≡ true
  pub unit_settles : (was_high : Bool) (t : ℕ) (before : Machine P) (s : Turn P) → Done was_high t s → Done was_high t (settles_since before s)
  -- what precedes the tick of the head
  pub prepares : PreparingKeeps Law
  -- the head's tick is charged, where all is ready for it
  pub charges : (t : ℕ) (s : Turn P) → IsReady (Some t) s.machine → can_run s.machine t ≡ true → Law s → Mid (has_high (thread_at s.machine t).server) t (charged_turn bodies t s)
  pub idles : (s : Turn P) → IsReady None s.machine → Law s → Law (becomes later s)
  pub ends : (was_high : Bool) (t : ℕ) (s : Turn P) → Done was_high t s → Law (ends_tick (tick_end was_high s.machine.quantum (thread_at s.machine t)) t s)

-- ---- the unit of a thread leaves its status

module _ {P : Type 0} (bodies : Bodies P) where
  advances_status : (fs : List (Frame P)) (th : Thread P) → (advances bodies fs th).thread.status ≡ th.status
  advances_status [] th = refl
  advances_status (f ∷ fs) th = refl

  finish_status : (fs : List (Frame P)) (th : Thread P) → (begins_finish fs th).thread.status ≡ th.status
  finish_status [] th = refl
  finish_status (f ∷ fs) th = refl

  pub in_unit_status : (th : Thread P) → (in_unit bodies th).thread.status ≡ th.status
  in_unit_status th = by_case (following th)
    where
      by_case : (x : Following) → (takes_unit bodies x th).thread.status ≡ th.status
      by_case (continuing left) = refl
      by_case advancing = advances_status th.frames th
      by_case (cleaning_up u) = refl
      by_case finishing = finish_status th.frames th

  pub charged_runs : (t : ℕ) (s : Turn P) → can_run s.machine t ≡ true → can_run (charged_turn bodies t s).machine t ≡ true
  charged_runs t s runs =
      ap (λ (th : Thread P). is_runnable th.status) (thread-same s.machine t (λ th. tick_charged (in_unit bodies (thread_at s.machine t)).thread) (running_within s.machine.threads t runs))
      ∙ ap is_runnable (in_unit_status (thread_at s.machine t)) ∙ runs

unless_machine : {P : Type 0} (b : Bool) (e : Event) (s : Turn P) → (tells_unless b e s).machine ≡ s.machine
unless_machine true e s = refl
unless_machine false e s = refl

-- a dispatch changes the last dispatch alone
pub dispatched : {P : Type 0} (to : Option ℕ) (s : Turn P) → (dispatches to s).machine ≡ record (s.machine) { last = dispatch_of to }
dispatched {P} to s = ap (λ (m : Machine P). record m { last = dispatch_of to }) (unless_machine (is_same s.machine.last to) (dispatch_event s.machine to) s)

-- what is kept round items and sweeps
pub record RoundKeeps {P : Type 0} (bodies : Bodies P) (Law : Turn P → Type 0) : Type 0 where
  pub moves : KeepsAwake bodies None Law
  pub joined : (s : Turn P) → Law s → JoinersWait s
  pub settles : (before : Machine P) (s : Turn P) → Law s → Law (settles_since before s)

pub round_of : {P : Type 0} {bodies : Bodies P} {Law : Turn P → Type 0} {Mid Done : Bool → ℕ → Turn P → Type 0} → TickKeeps bodies Law Mid Done → RoundKeeps bodies Law
round_of all = record { moves = all.moves; joined = all.joined; settles = all.settles }

module _ {P : Type 0} (bodies : Bodies P) (Law : Turn P → Type 0) where
  -- the law, and that only what can run is listed
  abbrev pub Rests : Turn P → Type 0
  Rests s = Law s × AllRun s.machine s.machine.lists

module _ {P : Type 0} (bodies : Bodies P) (Law : Turn P → Type 0) (all : RoundKeeps bodies Law) where
  -- in no unit nobody's own call blocks
  asleep : Stops None Law Law
  asleep = record {
    done = λ s q. q;
    renewable = λ u. false;
    renewing = λ active u new s may live e known q. absurd (grind arith);
    sleeps = λ by wait due s runs may q. absurd (grind (arith, runs.1));
    dozes = λ by wait due s runs may other q. absurd (grind (arith, runs.1));
    joins = λ by u s runs other free q. absurd (grind (arith, runs.1));
  }

  -- ---- items

  start_dormant : (t : ℕ) (s : Turn P) → has_come (start_due s.machine t) s.machine.now ≡ true → is_dormant (thread_at s.machine t).status ≡ true
  start_dormant t s e = by_status (thread_at s.machine t).status e
    where
      by_status : (status : Status) → has_come (start_in status) s.machine.now ≡ true → is_dormant status ≡ true
      by_status (dormant at) e = refl
      by_status runnable e = absurd (grind arith)
      by_status (blocked w) e = absurd (grind arith)
      by_status ended e = absurd (grind arith)

  handles_keep : (i : Item) (s : Turn P) → is_due s.machine i ≡ true → Law s → Law (handles bodies i s)
  handles_keep (item.Refill t) s e q = all.moves (refills_one t) s (e, refl) q
  handles_keep (item.Start t) s e q = all.moves (begins t 0) s (start_dormant t s e) q
  handles_keep (item.Timeout t) s e q = times_out_keep bodies None Law Law all.moves asleep all.joined (waiting_of s.machine t) t s refl e q
  handles_keep (item.Timer k) s e q = expires_keep bodies None Law Law all.moves asleep k s e q

  pub sweeps_keep : (s : Turn P) → Law s → Rests bodies Law (sweeps bodies s)
  sweeps_keep s q =
      let swept = sweeps_all bodies (thread_numbers s.machine) s in
      (all.settles s.machine swept (sweeps_all_keep bodies None Law Law all.moves asleep all.joined (thread_numbers s.machine) s q), settled_run swept.machine s.machine swept.direct)

  item_done_keep : (i : Item) (s : Turn P) → next_item s.machine ≡ Some i → Law s → Rests bodies Law (item_done bodies i s)
  item_done_keep i s e q = sweeps_keep _ (all.settles s.machine (handles bodies i s) (handles_keep i s (next_is_due s.machine i e) q))

  item_then_keep : (o : Option Item) (rest : Turn P → Turn P) (s : Turn P) → next_item s.machine ≡ o → ((s : Turn P) → Rests bodies Law s → Rests bodies Law (rest s)) → Rests bodies Law s → Rests bodies Law (item_then bodies o rest s)
  item_then_keep None rest s e h r = r
  item_then_keep (Some i) rest s e h r = h (item_done bodies i s) (item_done_keep i s e r.0)

  pub items_keep : (most : ℕ) (s : Turn P) → Rests bodies Law s → Rests bodies Law (items_done bodies most s)
  items_keep zero s r = r
  items_keep (suc most) s r = item_then_keep (next_item s.machine) (items_done bodies most) s refl (items_keep most) r

  pub instant_keep : (s : Turn P) → Rests bodies Law s → Rests bodies Law (instant bodies s)
  instant_keep s r = items_keep (item_bound s.machine) s r

module _ {P : Type 0} (bodies : Bodies P) (fits : BodiesFit bodies) (Law : Turn P → Type 0) (Mid Done : Bool → ℕ → Turn P → Type 0) (all : TickKeeps bodies Law Mid Done) where
  -- ---- a tick

  pub completes_keep : (b : Bool) (left t : ℕ) (u : Unit) (s : Turn P) → UnitFits u → can_run s.machine t ≡ true → Mid b t s → Done b t (completes_at bodies left t u s)
  completes_keep b zero t u s known runs q = unit_keep bodies (Some t) (Mid b t) (Done b t) (all.unit_moves b t) (all.unit_stops b t) (all.unit_joined b t) t u s known (runs, refl) (λ v e. all.unit_renews b t v) q
  completes_keep b (suc left) t u s known runs q = (all.unit_stops b t).done s q

  runs_keep : (to : Option ℕ) (s : Turn P) → ((t : ℕ) → to ≡ Some t → can_run s.machine t ≡ true) → IsReady to s.machine → Rests bodies Law s → Rests bodies Law (runs bodies to s)
  runs_keep None s can ready r = (all.idles s ready r.0, r.1)
  runs_keep (Some t) s can ready r =
      let charged = charged_turn bodies t s in
      let was_high = has_high (thread_at s.machine t).server in
      let unit = in_unit bodies (thread_at s.machine t) in
      let ticked = unit_ticked bodies s.machine t unit s in
      let done : Done was_high t ticked = all.unit_settles was_high t s.machine (completes_at bodies (top_left (thread_at charged.machine t).frames) t unit.unit charged)
      (completes_keep was_high (top_left (thread_at charged.machine t).frames) t unit.unit charged (in_unit_fits bodies fits (thread_at s.machine t)) (charged_runs bodies t s (can t refl)) (all.charges t s ready (can t refl) r.0)) in
      sweeps_keep bodies Law (round_of all) (tick_ends was_high t ticked) (all.settles ticked.machine (ends_tick (tick_end was_high ticked.machine.quantum (thread_at ticked.machine t)) t ticked) (all.ends was_high t ticked done))

  head_keep : (s : Turn P) → Rests bodies Law s → Rests bodies Law (runs_head bodies s)
  head_keep s r =
      let to = head s.machine in
      let can = λ (t : ℕ) (e : to ≡ Some t). head_can_run s.machine t r.1 e in
      let k = prepares_keep Law all.prepares to s can r.0 in
      runs_keep to (prepares to s) (λ t e. alike_runs s.machine (prepares to s).machine t k.1 (can t e)) (prepared to s) (k.0, alike_listed s.machine (prepares to s).machine k.1 r.1)

  goes_on_keep : (killed : Option ℕ) (s : Turn P) → Rests bodies Law s → Rests bodies Law (unless_killed killed (runs_head bodies) s)
  goes_on_keep None s r = head_keep s r
  goes_on_keep (Some signal) s r = r

  pub tick_keep : (s : Turn P) → Rests bodies Law s → Rests bodies Law (tick bodies s)
  tick_keep s r = let ready = instant bodies s in goes_on_keep ready.machine.killed ready (instant_keep bodies Law (round_of all) s r)

-- ---- a run, for a law of the machine alone

module _ {P : Type 0} (bodies : Bodies P) (fits : BodiesFit bodies) (Good : Machine P → Type 0) (Mid Done : Bool → ℕ → Turn P → Type 0) (all : TickKeeps bodies (λ s. Good s.machine) Mid Done) where
  pub run_keep : (n : ℕ) (start : Machine P) → Good start → AllRun start start.lists → Rests bodies (λ s. Good s.machine) (turn_of (ticks bodies n start).machine)
  run_keep zero start q listed = (q, listed)
  run_keep (suc n) start q listed = let so = run_keep n start q listed in tick_keep bodies fits (λ s. Good s.machine) Mid Done all (turn_of (ticks bodies n start).machine) so
