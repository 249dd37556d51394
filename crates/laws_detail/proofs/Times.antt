-- What begins a tick happens at its instant, and what ends it one tick later.
use Rattle.std.proofs.Common.{Bool, List, None, Option, Some, [], ◌+◌, ap, false, refl, suc, true, zero, ℕ, ◌++◌, ◌∷◌, ◌≡◌}
use Rattle.std.specs.Prelude.{◌&&◌}
use Rattle.words_trace.specs.declared.event.Event.{Event}
use Rattle.words_trace.specs.declared.event.Event.TheVariants as event
use Rattle.words_trace.specs.Text.{Entry}
use Rattle.rules_server.specs.Server.{ServerState, activate, oldest_pending, plan, refill, replenishment}
use Rattle.rules_bodies.specs.declared.unit.Unit.{Unit}
use Rattle.rules_machine.specs.Bodies.{Bodies}
use Rattle.rules_machine.specs.State.{Machine}
use Rattle.rules_machine.specs.Threads.{can_run, thread_at, top_left}
use Rattle.rules_machine.specs.Turns.{Turn, changes, moves, moves_if, tells, turn_of}
use Rattle.rules_machine.specs.Servers.{activates_if, activates_server, amount_of, at_once, has_high, high_server, plans_server, refills_server, regains_high, with_server}
use Rattle.rules_machine.specs.Scheduling.{with_policy}
use Rattle.rules_machine.specs.Waking.{started, woken}
use Rattle.rules_machine.specs.Lives.{without_life}
use Rattle.rules_machine.specs.DueItems.{instant}
use Rattle.rules_machine.specs.Dispatch.{dispatch_event, dispatches, head, is_same, tells_unless}
use Rattle.rules_machine.specs.Units.{in_unit}
use Rattle.rules_machine.specs.Ticks.{TickEnd, completes_at, ends_tick, exhausting, nothing, planning, prepares, runs, slicing, tick_end, tick_ends, unit_ticked, without_slice}
use Rattle.rules_moves.specs.Moves.{MayAwake, Move, Stops, begins, blocks_plainly, does, lives_no_more, recasts, refills_one, renews_with, tells_of, wakes_with}
use Rattle.rules_moves.specs.UnitRanges.{BodiesFit, UnitFits}
use Rattle.rules_moves.proofs.Calls.Table.{unit_keep}
use Rattle.rules_moves.proofs.Runs.Listed.{AllRun, head_can_run}
use Rattle.rules_moves.proofs.Runs.Preparing.{IsReady, PreparingKeeps, alike_runs, prepared, prepares_keep}
use Rattle.rules_moves.proofs.Runs.Ticks.{RoundKeeps, charged_runs, charged_turn, instant_keep, sweeps_keep}
use Rattle.rules_moves.proofs.Runs.Units.{in_unit_fits}
use Rattle.laws_machine.proofs.Servers.Ticks.{ServedDone, ServedMid, ServedRight, served_renew, served_stop, served_tick}
use Rattle.words_script.specs.declared.decl.Script.{Script}
use Rattle.rules_machine.specs.Runs.{opening, ticks}
use Rattle.rules_machine.specs.WellFormed.{IsWellFormed}
use Rattle.rules_moves.proofs.Runs.Ticks.{run_keep}
use Rattle.laws_machine.proofs.Parts.Opening.{opening_listed}
use Rattle.laws_machine.proofs.Servers.Kept.{opening_served}
use Rattle.laws_detail.specs.Looks.{AllAt, TickInTime, begun_turn}

one_more : (at now : ℕ) (es : List Entry) (e : Event) → now ≡ at → AllAt at es → AllAt at (es ++ record { time = now; event = e } ∷ [])
one_more at now [] e same h = (same, tt)
one_more at now (x ∷ es) e same h = (h.0, one_more at now es e same h.1)

module _ {P : Type 0} (bodies : Bodies P) (at : ℕ) where
  -- the machine is at that instant, and so is all that is told
  abbrev Timed : Turn P → Type 0
  Timed s = (s.machine.now ≡ at) × AllAt at s.events

  -- ---- moves

  told : (e : Event) (s : Turn P) → Timed s → Timed (tells e s)
  told e s h = (h.0, one_more at s.machine.now s.events e h.0 h.1)

  activated : (t : ℕ) (o : Option ServerState) (s : Turn P) → Timed s → Timed (activates_server t o s)
  activated t None s h = h
  activated t (Some x) s h = told (event.Activate t x.capacity) (changes t (with_server (activate s.machine.now)) s) h

  activated_if : (b : Bool) (t : ℕ) (s : Turn P) → Timed s → Timed (activates_if b t s)
  activated_if true t s h = activated t (at_once (thread_at s.machine t).server) s h
  activated_if false t s h = h

  refilled : (t : ℕ) (o : Option ServerState) (s : Turn P) → Timed s → Timed (refills_server t o s)
  refilled t None s h = h
  refilled t (Some x) s h =
      activated_if (regains_high x && can_run s.machine t) t (tells (event.Refill t (amount_of (oldest_pending x)) (refill x).capacity) (changes t (with_server refill) s))
      (told (event.Refill t (amount_of (oldest_pending x)) (refill x).capacity) (changes t (with_server refill) s) h)

  timed_keep : (who : Option ℕ) (move : Move P) (s : Turn P) → MayAwake who move s → Timed s → Timed (does bodies move s)
  timed_keep who (tells_of e) s may h = told e s h
  timed_keep who (renews_with active t new) s may h = absurd may
  timed_keep who (wakes_with t e r v) s may h =
      let up = tells e (moves t (changes t (woken r v) s)) in
      activated t (at_once (high_server (thread_at up.machine t).server)) up (told e (moves t (changes t (woken r v) s)) h)
  timed_keep who (blocks_plainly by wait due) s may h = absurd may
  timed_keep who (begins t mask) s may h =
      let up = tells (event.Start t) (moves t (changes t (started bodies t mask s.machine.now) s)) in
      activated t (at_once (thread_at up.machine t).server) up (told (event.Start t) (moves t (changes t (started bodies t mask s.machine.now) s)) h)
  timed_keep who (lives_no_more t) s may h = told (event.Exit t) (changes t without_life s) h
  timed_keep who (recasts t f) s may h = absurd may
  timed_keep who (refills_one t) s may h = refilled t (thread_at s.machine t).server s h
  timed_keep who move s may h = h

  dispatched : (to : Option ℕ) (s : Turn P) → Timed s → Timed (dispatches to s)
  dispatched to s h = by_same (is_same s.machine.last to) to
    where
      by_same : (b : Bool) (o : Option ℕ) → ((tells_unless b (dispatch_event s.machine o) s).machine.now ≡ at) × AllAt at (tells_unless b (dispatch_event s.machine o) s).events
      by_same true o = h
      by_same false o = told (dispatch_event s.machine o) s h

  moved : (b : Bool) (t : ℕ) (s : Turn P) → Timed s → Timed (moves_if b t s)
  moved true t s h = h
  moved false t s h = h

  planned : (t : ℕ) (o : Option ServerState) (s : Turn P) → Timed s → Timed (plans_server t o s)
  planned t None s h = h
  planned t (Some x) s h = told (event.Plan t (replenishment x).amount (replenishment x).due) (changes t (with_server plan) s) h

  ended : (e : TickEnd) (t : ℕ) (s : Turn P) → Timed s → Timed (ends_tick e t s)
  ended planning t s h = planned t (thread_at s.machine t).server s h
  ended exhausting t s h =
      moved _ t (plans_server t (thread_at s.machine t).server (tells (event.Exhaust t) s)) (planned t (thread_at s.machine t).server (tells (event.Exhaust t) s) (told (event.Exhaust t) s h))
  ended slicing t s h = moved (can_run s.machine t) t (changes t without_slice s) h
  ended nothing t s h = h

  -- ---- parts of a tick

  abbrev Rested : Turn P → Type 0
  Rested s = ServedRight bodies s × Timed s

  abbrev Going : Bool → ℕ → Turn P → Type 0
  Going tolled t s = ServedMid bodies tolled t s × Timed s

  abbrev Done : Bool → ℕ → Turn P → Type 0
  Done tolled t s = ServedDone bodies tolled t s × Timed s

  round : RoundKeeps bodies Rested
  round = let served = served_tick bodies in record {
    moves = λ move s may q. (served.moves move s may q.0, timed_keep None move s may q.1);
    joined = λ s q. served.joined s q.0;
    settles = λ earlier s q. (served.settles earlier s q.0, q.1);
  }

  preparing : PreparingKeeps Rested
  preparing = let served = served_tick bodies in record {
    closes = λ t s run q. (served.prepares.closes t s run q.0, planned t (thread_at s.machine t).server s q.1);
    sent = λ to s off q. (served.prepares.sent to s off q.0, dispatched to s q.1);
    opens = λ t x s runs is may q. (served.prepares.opens t x s runs is may q.0, activated t (Some x) s q.1);
  }

  stops : (tolled : Bool) (t : ℕ) → Stops (Some t) (Going tolled t) (Done tolled t)
  stops tolled t = let served = served_stop bodies tolled t in record {
    done = λ s q. (served.done s q.0, q.1);
    renewable = λ u. true;
    renewing = λ active u new s may live e known q.
        (served.renewing active u new s (served_renew bodies tolled t u) live e known q.0, activated_if active u (changes u (with_policy new s.machine.now) s) q.1);
    sleeps = λ by wait due s runs may q. (served.sleeps by wait due s runs may q.0, q.1);
    dozes = λ by wait due s runs may other q. (served.dozes by wait due s runs may other q.0, q.1);
    joins = λ by u s runs other free q. (served.joins by u s runs other free q.0, q.1);
  }

  all_renewed : (tolled : Bool) (t u : ℕ) → (stops tolled t).renewable u ≡ true
  unfolding stops
  all_renewed tolled t u = refl

  -- what begins it
  pub begun_timed : (s : Turn P) → ServedRight bodies s → AllRun s.machine s.machine.lists → Timed s
      → let ready = instant bodies s in let begun = prepares (head ready.machine) ready in Timed begun × ServedRight bodies begun × IsReady (head ready.machine) begun.machine × ((t : ℕ) → head ready.machine ≡ Some t → can_run begun.machine t ≡ true)
  begun_timed s served listed timed =
      let ready = instant bodies s in
      let to = head ready.machine in
      let rests = instant_keep bodies Rested round s ((served, timed), listed) in
      let can = λ (t : ℕ) (e : to ≡ Some t). head_can_run ready.machine t rests.1 e in
      let k = prepares_keep Rested preparing to ready can rests.0 in
      (k.0.1, k.0.0, prepared to ready, λ t e. alike_runs ready.machine (prepares to ready).machine t k.1 (can t e))

  module _ (fits : BodiesFit bodies) where
    completed : (tolled : Bool) (left t : ℕ) (u : Unit) (s : Turn P) → UnitFits u → can_run s.machine t ≡ true → Going tolled t s → Done tolled t (completes_at bodies left t u s)
    completed tolled zero t u s known runs q =
        unit_keep bodies (Some t) (Going tolled t) (Done tolled t) (λ move x may k. ((served_tick bodies).unit_moves tolled t move x may k.0, timed_keep (Some t) move x may k.1)) (stops tolled t) (λ x k. (served_tick bodies).unit_joined tolled t x k.0)
        t u s known (runs, refl) (λ v e. all_renewed tolled t v) q
    completed tolled (suc left) t u s known runs q = (stops tolled t).done s q

    -- what ends it
    pub run_timed : (to : Option ℕ) (m : Machine P) → m.now + 1 ≡ at → ServedRight bodies (turn_of m) → IsReady to m → ((t : ℕ) → to ≡ Some t → can_run m t ≡ true) → Timed (runs bodies to (turn_of m))
    run_timed None m next served ready can = (next, tt)
    run_timed (Some t) m next served ready can =
        let s = turn_of m in
        let all = served_tick bodies in
        let was_high = has_high (thread_at m t).server in
        let charged = charged_turn bodies t s in
        let unit = in_unit bodies (thread_at m t) in
        let left = top_left (thread_at charged.machine t).frames in
        let going : Going was_high t charged = (all.charges t s ready (can t refl) served, (next, tt)) in
        let completed' = completed was_high left t unit.unit charged (in_unit_fits bodies fits (thread_at m t)) (charged_runs bodies t s (can t refl)) going in
        let ticked = unit_ticked bodies m t unit s in
        let done : Done was_high t ticked = (all.unit_settles was_high t m (completes_at bodies left t unit.unit charged) completed'.0, completed'.1) in
        let at_end : Rested (tick_ends was_high t ticked) =
        round.settles ticked.machine (ends_tick (tick_end was_high ticked.machine.quantum (thread_at ticked.machine t)) t ticked) (all.ends was_high t ticked done.0, ended (tick_end was_high ticked.machine.quantum (thread_at ticked.machine t)) t ticked done.1) in
        (sweeps_keep bodies Rested round (tick_ends was_high t ticked) at_end).0.1

-- ---- over the run of a script

module _ {P : Type 0} (bodies : Bodies P) (fits : BodiesFit bodies) (script : Script) (formed : IsWellFormed script) where
  rested : (n : ℕ) → let m = (ticks bodies n (opening script)).machine in ServedRight bodies (turn_of m) × AllRun m m.lists
  rested n =
      run_keep bodies fits (λ m. ServedRight bodies (turn_of m)) (ServedMid bodies) (ServedDone bodies) (served_tick bodies) n (opening script)
      (opening_served bodies script formed) (opening_listed P script)

  pub ticks_in_time : (n : ℕ) → TickInTime bodies (ticks bodies n (opening script)).machine
  ticks_in_time n =
      let m = (ticks bodies n (opening script)).machine in
      let r = rested n in
      let begun = begun_timed bodies m.now (turn_of m) r.0 r.1 (refl, tt) in
      let turn = begun_turn bodies m in
      let next : turn.machine.now + 1 ≡ m.now + 1 = ap (λ (k : ℕ). k + 1) begun.0.0 in
      record {
        begun = begun.0.1;
        ended = (run_timed bodies (m.now + 1) fits (head (instant bodies (turn_of m)).machine) turn.machine next begun.1 begun.2 begun.3).1;
      }
