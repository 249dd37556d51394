-- What holds after each sweep, every run keeps: that no signal can be taken, beside lists, intervals and pending records.
use Rattle.std.proofs.Common.{Bool, None, Option, Some, false, refl, suc, sym, true, zero, ℕ, ◌≡◌}
use mathlib.Core.Path.{subst, ◌∙◌}
use Rattle.words_numbers.specs.declared.item.Item.{Item}
use Rattle.words_script.specs.declared.decl.Script.{Script}
use Rattle.rules_machine.specs.Bodies.{Bodies}
use Rattle.rules_machine.specs.State.{Machine, Thread}
use Rattle.rules_machine.specs.Threads.{can_run, thread_at, top_left, no_thread}
use Rattle.rules_machine.specs.Turns.{Turn, becomes, settles_since, turn_of, changes}
use Rattle.rules_machine.specs.Servers.{has_high, plans_server, with_server}
use Rattle.rules_machine.specs.Delivery.{may_be_interrupted, sweeps}
use Rattle.rules_machine.specs.DueItems.{handles, instant, item_bound, item_done, item_then, items_done, next_item}
use Rattle.rules_machine.specs.Dispatch.{dispatches, head}
use Rattle.rules_machine.specs.Units.{in_unit}
use Rattle.rules_machine.specs.Ticks.{completes_at, later, runs, runs_head, tick, tick_ends, unit_ticked, unless_killed, prepares}
use Rattle.rules_machine.specs.Runs.{opening, ticks}
use Rattle.rules_machine.proofs.ItemsEnd.{next_is_due}
use Rattle.rules_machine.specs.WellFormed.{IsWellFormed}
use Rattle.rules_moves.specs.UnitRanges.{BodiesFit}
use Rattle.rules_moves.proofs.Runs.Listed.{AllRun, head_can_run}
use Rattle.rules_moves.proofs.Runs.Units.{in_unit_fits}
use Rattle.rules_moves.proofs.Runs.Ticks.{charged_runs, charged_turn, dispatched}
use Rattle.rules_moves.proofs.Runs.Since.{Rests, TickSince, completes_keep, ends_keep, handles_keep, instant_keep, item_done_keep, run_since, settles_keep, prepares_rest}
use Rattle.rules_moves.proofs.Runs.Beside.{TickBeside, both}
use Rattle.laws_machine.proofs.Lists.Kept.{Placed, Placing, opening_placed, placed_tick}
use Rattle.laws_machine.proofs.Slices.{In, Slices, opening_slices, slices_tick}
use Rattle.laws_machine.proofs.Signals.Ignored.{Heard, Hears, heard_tick, sent}
use Rattle.laws_machine.proofs.Sweeps.Visits.{Quiet, sweeps_quiet, taken_of}
use Rattle.laws_machine.proofs.Parts.Opening.{opening_listed}
use Rattle.rules_moves.proofs.Runs.Preparing.{IsReady, PreparingKeeps, alike_runs, prepared, prepares_keep}
use Rattle.rules_machine.proofs.Reading.{changed-keeps}
use Rattle.rules_server.specs.Server.{ServerState, activate, plan}

module _ {P : Type 0} (bodies : Bodies P) (fits : BodiesFit bodies) (Rest : Machine P → Type 0) (Law : Machine P → Turn P → Type 0) (Mid Done : Bool → ℕ → Machine P → Turn P → Type 0) (End : Bool → ℕ → Machine P → Type 0)
    (all : TickSince bodies Rest Law Mid Done End) (After : Machine P → Type 0) where
  -- a sweep brings it, and an idle tick leaves it
  pub record SweepBrings : Type 0 where
    pub sweep : (s : Turn P) → Rest s.machine → After (sweeps bodies s).machine
    pub prepares : PreparingKeeps (λ (s : Turn P). After s.machine)
    pub idle : (s : Turn P) → After s.machine → After (becomes later s).machine

  module _ (brings : SweepBrings) where
    abbrev Still : Turn P → Type 0
    Still s = Rests bodies fits Rest Law Mid Done End all s

    item_after : (i : Item) (s : Turn P) → next_item s.machine ≡ Some i → Still s → After (item_done bodies i s).machine
    item_after i s e r =
        brings.sweep (settles_since s.machine (handles bodies i s))
        (settles_keep bodies fits Rest Law Mid Done End all s.machine (handles bodies i s) (handles_keep bodies fits Rest Law Mid Done End all s.machine i s (next_is_due s.machine i e) (all.opens s r.still r.rest))).rest

    then_after : (o : Option Item) (rest : Turn P → Turn P) (s : Turn P) → next_item s.machine ≡ o → ((s : Turn P) → Still s → After s.machine → After (rest s).machine) → Still s → After s.machine → After (item_then bodies o rest s).machine
    then_after None rest s e h r a = a
    then_after (Some i) rest s e h r a = h (item_done bodies i s) (item_done_keep bodies fits Rest Law Mid Done End all i s e r) (item_after i s e r)

    pub items_after : (most : ℕ) (s : Turn P) → Still s → After s.machine → After (items_done bodies most s).machine
    items_after zero s r a = a
    items_after (suc most) s r a = then_after (next_item s.machine) (items_done bodies most) s refl (items_after most) r a

    runs_after : (to : Option ℕ) (s : Turn P) → ((t : ℕ) → to ≡ Some t → can_run s.machine t ≡ true) → IsReady to s.machine → Still s → After s.machine → After (runs bodies to s).machine
    runs_after None s can ready r a = brings.idle s a
    runs_after (Some t) s can ready r a =
        let charged = charged_turn bodies t s in
        let was_high = has_high (thread_at s.machine t).server in
        let unit = in_unit bodies (thread_at s.machine t) in
        let ticked = unit_ticked bodies s.machine t unit s in
        let left = top_left (thread_at charged.machine t).frames in
        let done : Done was_high t s.machine (completes_at bodies left t unit.unit charged) =
        completes_keep bodies fits Rest Law Mid Done End all was_high left t unit.unit s.machine charged (in_unit_fits bodies fits (thread_at s.machine t)) (charged_runs bodies t s (can t refl)) (all.charges t s r.still ready (can t refl) r.rest) in
        brings.sweep (tick_ends was_high t ticked)
        (ends_keep bodies fits Rest Law Mid Done End all was_high t ticked refl (all.unit_settles was_high t s.machine (completes_at bodies left t unit.unit charged) done)).rest

    goes_on_after : (killed : Option ℕ) (s : Turn P) → Still s → After s.machine → After (unless_killed killed (runs_head bodies) s).machine
    goes_on_after None s r a =
        let to = head s.machine in
        let can = λ (t : ℕ) (e : to ≡ Some t). head_can_run s.machine t r.listed e in
        let k = prepares_keep (λ (x : Turn P). After x.machine) brings.prepares to s can a in
        runs_after to (prepares to s) (λ t e. alike_runs s.machine (prepares to s).machine t k.1 (can t e)) (prepared to s) (prepares_rest bodies fits Rest Law Mid Done End all to s can r) k.0
    goes_on_after (Some signal) s r a = a

    pub instant_after : (s : Turn P) → Still s → After s.machine → After (instant bodies s).machine
    instant_after s r a = items_after (item_bound s.machine) s r a

    tick_after : (s : Turn P) → Still s → After s.machine → After (tick bodies s).machine
    tick_after s r a =
        let ready = instant bodies s in
        goes_on_after ready.machine.killed ready (instant_keep bodies fits Rest Law Mid Done End all s r) (instant_after s r a)

    pub run_after : (n : ℕ) (start : Machine P) → Rest start → AllRun start start.lists → After start → After (ticks bodies n start).machine
    run_after zero start q listed a = a
    run_after (suc n) start q listed a =
        tick_after (turn_of (ticks bodies n start).machine) (run_since bodies fits Rest Law Mid Done End all n start q listed) (run_after n start q listed a)

-- ---- all parts so far

module _ {P : Type 0} (bodies : Bodies P) where
  abbrev pub RestSliced : Machine P → Type 0
  RestSliced m = Placed m × Slices None m

  abbrev pub LawSliced : Machine P → Turn P → Type 0
  LawSliced before s = Placing before s × Slices None s.machine

  abbrev pub InSliced : Bool → ℕ → Machine P → Turn P → Type 0
  InSliced b t before s = Placing before s × In bodies b t before s

  abbrev pub EndSliced : Bool → ℕ → Machine P → Type 0
  EndSliced b t m = Placed m × Slices (Some t) m

  pub tick_sliced : TickSince bodies RestSliced LawSliced InSliced InSliced EndSliced
  tick_sliced = both bodies Placed Placing (λ b t. Placing) (λ b t. Placing) (λ b t. Placed) (Slices None) (λ before s. Slices None s.machine) (In bodies) (In bodies) (λ b t. Slices (Some t)) (placed_tick bodies) (slices_tick bodies)

  abbrev pub RestHeard : Machine P → Type 0
  RestHeard m = RestSliced m × Heard m

  abbrev pub LawHeard : Machine P → Turn P → Type 0
  LawHeard before s = LawSliced before s × Heard s.machine

  abbrev pub InHeard : Bool → ℕ → Machine P → Turn P → Type 0
  InHeard b t before s = InSliced b t before s × Heard s.machine

  abbrev pub EndHeard : Bool → ℕ → Machine P → Type 0
  EndHeard b t m = EndSliced b t m × Heard m

  -- the law of what is heard, beside the others
  heard_beside : TickBeside bodies RestSliced LawSliced InSliced InSliced EndSliced Heard (Hears bodies) (λ b t. Hears bodies) (λ b t. Hears bodies) (λ b t. Heard)
  heard_beside = let k = heard_tick bodies in record {
    opens = λ s still p q. k.opens s still p.0 q;
    moves = λ before move s may p q. k.moves before move s may p.0 q;
    settles = λ before s p q. k.settles before s p.0 q;
    prepares = k.prepares;
    charges = λ t s still ready runs p q. k.charges t s still ready runs p.0 q;
    unit_moves = λ b t before move s may p q. k.unit_moves b t before move s may p.0 q;
    unit_stops = λ b t before. let stop = k.unit_stops b t before in record {
      done = λ s p q. stop.done s p.0 q;
      sleeps = λ by wait due s runs may p q. stop.sleeps by wait due s runs may p.0 q;
      dozes = λ by wait due s runs may other p q. stop.dozes by wait due s runs may other p.0 q;
      joins = λ by u s runs other free p q. stop.joins by u s runs other free p.0 q;
    };
    unit_settles = λ b t before s p q. k.unit_settles b t before s p.0 q;
    ends = λ b t s still p q. k.ends b t s still p.0 q;
    idles = λ s none p q. k.idles s none p.0 q;
  }

  pub tick_heard : TickSince bodies RestHeard LawHeard InHeard InHeard EndHeard
  tick_heard = both bodies RestSliced LawSliced InSliced InSliced EndSliced Heard (Hears bodies) (λ b t. Hears bodies) (λ b t. Hears bodies) (λ b t. Heard) tick_sliced heard_beside

  -- nobody takes a signal while the process has not ended
  abbrev pub Swept : Machine P → Type 0
  Swept m = m.killed ≡ None → (t : ℕ) → Quiet bodies m t

  pub swept_dispatched : (to : Option ℕ) (s : Turn P) → Swept s.machine → Swept (dispatches to s).machine
  swept_dispatched to s a = subst Swept (sym (dispatched to s)) a

  -- what a thread takes does not go by its server
  pub swept_served : (t : ℕ) (f : ServerState → ServerState) (s : Turn P) → Swept s.machine → Swept (changes t (with_server f) s).machine
  swept_served t f s a alive u = changed-keeps no_thread t u (with_server f) (λ (th : Thread P). taken_of bodies th u (sent s.machine)) (λ th. refl) s.machine.threads ∙ a alive u

  pub swept_planned : (t : ℕ) (o : Option ServerState) (s : Turn P) → Swept s.machine → Swept (plans_server t o s).machine
  swept_planned t None s a = a
  swept_planned t (Some x) s a = swept_served t plan s a

module _ {P : Type 0} (bodies : Bodies P) (ranges : BodiesFit bodies) (script : Script) (fits : IsWellFormed script) where
  pub brings : SweepBrings bodies ranges (RestHeard bodies) (LawHeard bodies) (InHeard bodies) (InHeard bodies) (EndHeard bodies) (tick_heard bodies) (Swept bodies)
  brings = record {
    sweep = λ s r alive t. sweeps_quiet bodies s r.1 alive t;
    prepares = record {
      closes = λ t s run a. swept_planned bodies t (thread_at s.machine t).server s a;
      sent = λ to s off a. swept_dispatched bodies to s a;
      opens = λ t x s runs is may a. swept_served bodies t (activate s.machine.now) s a;
    };
    idle = λ s a. a;
  }

  pub opening_rest : RestHeard bodies (opening {P = P} script)
  opening_rest = ((opening_placed P script fits, opening_slices P script fits), tt)

  opening_swept : Swept bodies (opening {P = P} script)
  opening_swept alive t = by_case (may_be_interrupted (thread_at (opening {P = P} script) t)) refl
    where
      by_case : (b : Bool) → may_be_interrupted (thread_at (opening {P = P} script) t) ≡ b → Quiet bodies (opening {P = P} script) t
      by_case true e = rw e refl
      by_case false e = rw e refl

  pub run_quiet : (n : ℕ) → Swept bodies (ticks bodies n (opening script)).machine
  run_quiet n =
      run_after bodies ranges (RestHeard bodies) (LawHeard bodies) (InHeard bodies) (InHeard bodies) (EndHeard bodies) (tick_heard bodies) (Swept bodies) brings n (opening script) opening_rest (opening_listed P script) opening_swept
