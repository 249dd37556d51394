-- What is kept from one settling to the next, every run keeps: laws that look at the machine before an effect.
use Rattle.std.proofs.Common.{Bool, None, Option, Some, [], arith, false, refl, suc, true, zero, ℕ, ◌≡◌}
use mathlib.Core.Path.{subst, ◌∙◌}
use Rattle.words_numbers.specs.declared.item.Item.{Item}
use Rattle.words_numbers.specs.declared.item.Item.TheVariants as item
use Rattle.rules_bodies.specs.declared.unit.Unit.{Unit}
use Rattle.rules_machine.specs.Bodies.{Bodies}
use Rattle.rules_machine.specs.State.{Machine, Status, blocked, dormant, ended, runnable}
use Rattle.rules_machine.specs.Threads.{can_run, is_dormant, thread_at, thread_numbers, top_left, waiting_of}
use Rattle.rules_machine.specs.Settling.{settled}
use Rattle.rules_machine.specs.Turns.{Turn, becomes, settles_since, turn_of}
use Rattle.rules_machine.specs.Servers.{has_high}
use Rattle.rules_machine.specs.Delivery.{sweeps, sweeps_all}
use Rattle.rules_machine.specs.DueItems.{handles, has_come, instant, item_bound, item_done, item_then, items_done, next_item, start_due, start_in}
use Rattle.rules_machine.specs.Dispatch.{head}
use Rattle.rules_machine.specs.Units.{in_unit}
use Rattle.rules_machine.specs.Ticks.{completes_at, ends_tick, later, prepares, runs, runs_head, tick, tick_end, tick_ends, unit_ticked, unless_killed}
use Rattle.rules_machine.specs.Runs.{ticks}
use Rattle.rules_machine.proofs.ItemsEnd.{is_due, next_is_due}
use Rattle.rules_moves.specs.Moves.{KeepsAwake, KeepsRenewing, Sleeps, Stops, begins, refills_one, renews_with}
use Rattle.rules_moves.specs.UnitRanges.{BodiesFit, UnitFits}
use Rattle.rules_moves.proofs.Calls.Signals.{expires_keep}
use Rattle.rules_moves.proofs.Calls.Table.{JoinersWait, sweeps_all_keep, times_out_keep, unit_keep}
use Rattle.rules_moves.proofs.Runs.Listed.{AllRun, head_can_run, settled_run}
use Rattle.rules_moves.proofs.Runs.Preparing.{IsReady, PreparingKeeps, alike_listed, alike_runs, prepared, prepares_keep}
use Rattle.rules_moves.proofs.Runs.Units.{in_unit_fits}
use Rattle.rules_moves.proofs.Runs.Ticks.{charged_runs, charged_turn}

-- what every move keeps, it keeps where no thread has a new policy
pub narrowed : {P : Type 0} (bodies : Bodies P) (who : Option ℕ) (Law : Turn P → Type 0) → KeepsRenewing bodies who Law → KeepsAwake bodies who Law
narrowed bodies who Law k (renews_with active t new) s may q = absurd may
narrowed bodies who Law k move s may q = k move s may q

module _ {P : Type 0} (bodies : Bodies P) (who : Option ℕ) (Law Done : Turn P → Type 0) (keeps : KeepsRenewing bodies who Law) (sleeps : Sleeps who Law Done) where
  -- and every thread may have one
  stopping : Stops who Law Done
  stopping = record {
    done = sleeps.done;
    renewable = λ u. true;
    renewing = λ active u new s may live e known q. keeps (renews_with active u new) s (live, e, known) q;
    sleeps = sleeps.sleeps;
    dozes = sleeps.dozes;
    joins = sleeps.joins;
  }

  all_renewable : (u : ℕ) → stopping.renewable u ≡ true
  unfolding stopping
  all_renewable u = refl

-- Rest holds of the machine between settlings' effects. Since then Law holds round an item or a sweep; in a tick Mid holds from the
-- charge on while the unit's own thread does not block, Done from then to the settling, and End after it.
pub record TickSince {P : Type 0} (bodies : Bodies P) (Rest : Machine P → Type 0) (Law : Machine P → Turn P → Type 0) (Mid Done : Bool → ℕ → Machine P → Turn P → Type 0) (End : Bool → ℕ → Machine P → Type 0) : Type 0 where
  pub opens : (s : Turn P) → s.direct ≡ [] → Rest s.machine → Law s.machine s
  pub moves : (before : Machine P) → KeepsRenewing bodies None (Law before)
  pub joined : (before : Machine P) (s : Turn P) → Law before s → JoinersWait s
  pub settles : (before : Machine P) (s : Turn P) → Law before s → Rest (settled before s.direct s.machine)
  -- what precedes the tick of the head
  pub prepares : PreparingKeeps (λ (s : Turn P). Rest s.machine)
  -- the head's tick is charged, where all is ready for it
  pub charges : (t : ℕ) (s : Turn P) → s.direct ≡ [] → IsReady (Some t) s.machine → can_run s.machine t ≡ true → Rest s.machine → Mid (has_high (thread_at s.machine t).server) t s.machine (charged_turn bodies t s)
  pub unit_moves : (was_high : Bool) (t : ℕ) (before : Machine P) → KeepsRenewing bodies (Some t) (Mid was_high t before)
  pub unit_joined : (was_high : Bool) (t : ℕ) (before : Machine P) (s : Turn P) → Mid was_high t before s → JoinersWait s
  pub unit_stops : (was_high : Bool) (t : ℕ) (before : Machine P) → Sleeps (Some t) (Mid was_high t before) (Done was_high t before)
  pub unit_settles : (was_high : Bool) (t : ℕ) (before : Machine P) (s : Turn P) → Done was_high t before s → End was_high t (settled before s.direct s.machine)
  pub ends : (was_high : Bool) (t : ℕ) (s : Turn P) → s.direct ≡ [] → End was_high t s.machine → Law s.machine (ends_tick (tick_end was_high s.machine.quantum (thread_at s.machine t)) t s)
  pub idles : (s : Turn P) → IsReady None s.machine → Rest s.machine → Rest (becomes later s).machine

module _ {P : Type 0} (bodies : Bodies P) (fits : BodiesFit bodies) (Rest : Machine P → Type 0) (Law : Machine P → Turn P → Type 0) (Mid Done : Bool → ℕ → Machine P → Turn P → Type 0) (End : Bool → ℕ → Machine P → Type 0)
    (all : TickSince bodies Rest Law Mid Done End) where
  -- between settlings' effects: only what can run is listed, and no direct move is left
  pub record Rests (s : Turn P) : Type 0 where
    pub rest : Rest s.machine
    pub listed : AllRun s.machine s.machine.lists
    pub still : s.direct ≡ []

  -- in no unit nobody's own call blocks
  pub asleep : (before : Machine P) → Stops None (Law before) (Law before)
  asleep before = record {
    done = λ s q. q;
    renewable = λ u. false;
    renewing = λ active u new s may live e known q. absurd (grind arith);
    sleeps = λ by wait due s runs may q. absurd (grind (arith, runs.1));
    dozes = λ by wait due s runs may other q. absurd (grind (arith, runs.1));
    joins = λ by u s runs other free q. absurd (grind (arith, runs.1));
  }

  -- ---- items

  start_dormant : (t : ℕ) (s : Turn P) → has_come (start_due s.machine t) s.machine.now ≡ true → is_dormant (thread_at s.machine t).status ≡ true
  start_dormant t s e = by_status (thread_at s.machine t).status e
    where
      by_status : (status : Status) → has_come (start_in status) s.machine.now ≡ true → is_dormant status ≡ true
      by_status (dormant at) e = refl
      by_status runnable e = absurd (grind arith)
      by_status (blocked w) e = absurd (grind arith)
      by_status ended e = absurd (grind arith)

  pub handles_keep : (before : Machine P) (i : Item) (s : Turn P) → is_due s.machine i ≡ true → Law before s → Law before (handles bodies i s)
  handles_keep before (item.Refill t) s e q = all.moves before (refills_one t) s (e, refl) q
  handles_keep before (item.Start t) s e q = all.moves before (begins t 0) s (start_dormant t s e) q
  handles_keep before (item.Timeout t) s e q = times_out_keep bodies None (Law before) (Law before) (narrowed bodies None (Law before) (all.moves before)) (asleep before) (all.joined before) (waiting_of s.machine t) t s refl e q
  handles_keep before (item.Timer k) s e q = expires_keep bodies None (Law before) (Law before) (narrowed bodies None (Law before) (all.moves before)) (asleep before) k s e q

  pub settles_keep : (before : Machine P) (s : Turn P) → Law before s → Rests (settles_since before s)
  settles_keep before s q = record { rest = all.settles before s q; listed = settled_run s.machine before s.direct; still = refl }

  pub sweeps_keep : (s : Turn P) → Rests s → Rests (sweeps bodies s)
  sweeps_keep s r =
      settles_keep s.machine (sweeps_all bodies (thread_numbers s.machine) s)
      (sweeps_all_keep bodies None (Law s.machine) (Law s.machine) (narrowed bodies None (Law s.machine) (all.moves s.machine)) (asleep s.machine) (all.joined s.machine) (thread_numbers s.machine) s (all.opens s r.still r.rest))

  pub item_done_keep : (i : Item) (s : Turn P) → next_item s.machine ≡ Some i → Rests s → Rests (item_done bodies i s)
  item_done_keep i s e r = sweeps_keep (settles_since s.machine (handles bodies i s)) (settles_keep s.machine (handles bodies i s) (handles_keep s.machine i s (next_is_due s.machine i e) (all.opens s r.still r.rest)))

  item_then_keep : (o : Option Item) (rest : Turn P → Turn P) (s : Turn P) → next_item s.machine ≡ o → ((s : Turn P) → Rests s → Rests (rest s)) → Rests s → Rests (item_then bodies o rest s)
  item_then_keep None rest s e h r = r
  item_then_keep (Some i) rest s e h r = h (item_done bodies i s) (item_done_keep i s e r)

  pub items_keep : (most : ℕ) (s : Turn P) → Rests s → Rests (items_done bodies most s)
  items_keep zero s r = r
  items_keep (suc most) s r = item_then_keep (next_item s.machine) (items_done bodies most) s refl (items_keep most) r

  pub instant_keep : (s : Turn P) → Rests s → Rests (instant bodies s)
  instant_keep s r = items_keep (item_bound s.machine) s r

  -- ---- a tick

  pub completes_keep : (b : Bool) (left t : ℕ) (u : Unit) (before : Machine P) (s : Turn P) → UnitFits u → can_run s.machine t ≡ true → Mid b t before s → Done b t before (completes_at bodies left t u s)
  completes_keep b zero t u before s known runs q = unit_keep bodies (Some t) (Mid b t before) (Done b t before) (narrowed bodies (Some t) (Mid b t before) (all.unit_moves b t before)) (stopping bodies (Some t) (Mid b t before) (Done b t before) (all.unit_moves b t before) (all.unit_stops b t before)) (all.unit_joined b t before) t u s known (runs, refl)
      (λ v e. all_renewable bodies (Some t) (Mid b t before) (Done b t before) (all.unit_moves b t before) (all.unit_stops b t before) v) q
  completes_keep b (suc left) t u before s known runs q = (all.unit_stops b t before).done s q

  pub ends_keep : (b : Bool) (t : ℕ) (s : Turn P) → s.direct ≡ [] → End b t s.machine → Rests (tick_ends b t s)
  ends_keep b t s still q = settles_keep s.machine (ends_tick (tick_end b s.machine.quantum (thread_at s.machine t)) t s) (all.ends b t s still q)

  runs_keep : (to : Option ℕ) (s : Turn P) → ((t : ℕ) → to ≡ Some t → can_run s.machine t ≡ true) → IsReady to s.machine → Rests s → Rests (runs bodies to s)
  runs_keep None s can ready r = record { rest = all.idles s ready r.rest; listed = r.listed; still = r.still }
  runs_keep (Some t) s can ready r =
      let charged = charged_turn bodies t s in
      let was_high = has_high (thread_at s.machine t).server in
      let unit = in_unit bodies (thread_at s.machine t) in
      let ticked = unit_ticked bodies s.machine t unit s in
      let left = top_left (thread_at charged.machine t).frames in
      let done : Done was_high t s.machine (completes_at bodies left t unit.unit charged) =
      completes_keep was_high left t unit.unit s.machine charged (in_unit_fits bodies fits (thread_at s.machine t)) (charged_runs bodies t s (can t refl)) (all.charges t s r.still ready (can t refl) r.rest) in
      sweeps_keep (tick_ends was_high t ticked) (ends_keep was_high t ticked refl (all.unit_settles was_high t s.machine (completes_at bodies left t unit.unit charged) done))

  -- what precedes the tick of the head
  pub prepares_rest : (to : Option ℕ) (s : Turn P) → ((t : ℕ) → to ≡ Some t → can_run s.machine t ≡ true) → Rests s → Rests (prepares to s)
  prepares_rest to s can r =
      let k = prepares_keep (λ (x : Turn P). Rest x.machine) all.prepares to s can r.rest in
      record { rest = k.0; listed = alike_listed s.machine (prepares to s).machine k.1 r.listed; still = k.2 ∙ r.still }

  head_keep : (s : Turn P) → Rests s → Rests (runs_head bodies s)
  head_keep s r =
      let to = head s.machine in
      let can = λ (t : ℕ) (e : to ≡ Some t). head_can_run s.machine t r.listed e in
      let k = prepares_keep (λ (x : Turn P). Rest x.machine) all.prepares to s can r.rest in
      runs_keep to (prepares to s) (λ t e. alike_runs s.machine (prepares to s).machine t k.1 (can t e)) (prepared to s) (prepares_rest to s can r)

  goes_on_keep : (killed : Option ℕ) (s : Turn P) → Rests s → Rests (unless_killed killed (runs_head bodies) s)
  goes_on_keep None s r = head_keep s r
  goes_on_keep (Some signal) s r = r

  pub tick_keep : (s : Turn P) → Rests s → Rests (tick bodies s)
  tick_keep s r = let ready = instant bodies s in goes_on_keep ready.machine.killed ready (instant_keep s r)

  -- ---- a run

  pub run_since : (n : ℕ) (start : Machine P) → Rest start → AllRun start start.lists → Rests (turn_of (ticks bodies n start).machine)
  run_since zero start q listed = record { rest = q; listed = listed; still = refl }
  run_since (suc n) start q listed =
      let so = tick_keep (turn_of (ticks bodies n start).machine) (run_since n start q listed) in record { rest = so.rest; listed = so.listed; still = refl }
