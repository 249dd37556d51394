-- Each serial is paid for by a tick, at every instant of every run.
use Rattle.std.proofs.Common.{Bool, List, None, Option, Some, [], ap, arith, refl, suc, sym, true, zero, ℕ, ◌+◌, ◌≤◌, ◌∷◌, ◌≡◌}
use Rattle.std.specs.Prelude.{map, nat_lt, ◌&&◌}
use mathlib.Core.Path.{subst}
use Rattle.words_numbers.specs.declared.item.Item.{Item}
use Rattle.words_script.specs.declared.decl.Script.{Script}
use Rattle.rules_bodies.specs.declared.unit.Unit.{Unit}
use Rattle.rules_machine.specs.Bodies.{Bodies}
use Rattle.rules_machine.specs.State.{Machine, Thread}
use Rattle.rules_machine.specs.Threads.{can_run, is_live, thread_at, thread_numbers, top_left}
use Rattle.rules_machine.specs.Declarations.{ThreadDecl, threads_of}
use Rattle.rules_machine.specs.Turns.{Turn, settles_since, turn_of}
use Rattle.rules_machine.specs.Servers.{has_high, activates_server, plans}
use Rattle.rules_machine.specs.Delivery.{sweeps, sweeps_all, sweeps_thread}
use Rattle.rules_machine.specs.DueItems.{handles, instant, item_bound, item_done, item_then, items_done, next_item}
use Rattle.rules_machine.specs.Dispatch.{dispatches, head}
use Rattle.rules_machine.specs.Units.{in_unit}
use Rattle.rules_machine.specs.Ticks.{completes_at, runs, runs_head, tick, tick_end, tick_ends, unit_ticked, unless_killed, planning, prepares}
use Rattle.rules_machine.specs.Runs.{opening, thread_opened, ticks}
use Rattle.rules_machine.proofs.ItemsEnd.{next_is_due}
use Rattle.rules_machine.specs.WellFormed.{IsWellFormed}
use Rattle.rules_moves.specs.UnitRanges.{BodiesFit}
use Rattle.rules_moves.proofs.Calls.Table.{sweeps_all_keep}
use Rattle.rules_moves.proofs.Runs.Listed.{AllRun, head_can_run}
use Rattle.rules_moves.proofs.Runs.Units.{in_unit_fits}
use Rattle.rules_moves.proofs.Runs.Ticks.{charged_runs, charged_turn, dispatched}
use Rattle.rules_moves.proofs.Runs.Since.{Rests, TickSince, asleep, completes_keep, ends_keep, handles_keep, instant_keep, item_done_keep, narrowed, run_since, settles_keep, prepares_rest}
use Rattle.rules_moves.proofs.Runs.Beside.{both}
use Rattle.rules_moves.proofs.Runs.MachineLaws.{law_beside}
use Rattle.laws_machine.proofs.Sweeps.Kept.{EndHeard, InHeard, LawHeard, RestHeard, opening_rest, tick_heard}
use Rattle.laws_machine.proofs.Parts.Opening.{opening_listed}
use Rattle.laws_machine.proofs.Signals.Takers.{Taker, charge_of, charged_taker}
use Rattle.laws_machine.proofs.Serials.Distinct.{Serials, at_most_one, one_if, pends, serials_law, waits}
use Rattle.laws_machine.proofs.Serials.Costs.{Costs, CostsOf, bonus, cost_changed, debt, sleepers, sleeping, activated}
use Rattle.laws_machine.proofs.Serials.Calls.{end_cost, item_cost, unit_cost}
use Rattle.laws_machine.proofs.Signals.Sources.{Plain, plain_law}
use Rattle.laws_machine.proofs.Serials.Sweeps.{Few, visit_cost}
use Rattle.rules_moves.proofs.Runs.Preparing.{IsReady, PreparingKeeps, alike_runs, prepared, prepares_keep}

module _ {P : Type 0} (bodies : Bodies P) where
  abbrev pub RestOrdered : Machine P → Type 0
  RestOrdered m = RestHeard bodies m × Serials m

  abbrev pub LawOrdered : Machine P → Turn P → Type 0
  LawOrdered before s = LawHeard bodies before s × Serials s.machine

  abbrev pub InOrdered : Bool → ℕ → Machine P → Turn P → Type 0
  InOrdered b t before s = InHeard bodies b t before s × Serials s.machine

  abbrev pub EndOrdered : Bool → ℕ → Machine P → Type 0
  EndOrdered b t m = EndHeard bodies b t m × Serials m

  abbrev pub RestSourced : Machine P → Type 0
  RestSourced m = RestOrdered m × Plain m

  abbrev pub LawSourced : Machine P → Turn P → Type 0
  LawSourced before s = LawOrdered before s × Plain s.machine

  abbrev pub InSourced : Bool → ℕ → Machine P → Turn P → Type 0
  InSourced b t before s = InOrdered b t before s × Plain s.machine

  abbrev pub EndSourced : Bool → ℕ → Machine P → Type 0
  EndSourced b t m = EndOrdered b t m × Plain m

  abbrev held_of : (Machine P → Type 0) → Machine P → Turn P → Type 0
  held_of Q before s = Q s.machine

  tick_ordered : TickSince bodies RestOrdered LawOrdered InOrdered InOrdered EndOrdered
  tick_ordered = both bodies (RestHeard bodies) (LawHeard bodies) (InHeard bodies) (InHeard bodies) (EndHeard bodies) Serials (held_of Serials) (λ b t. held_of Serials) (λ b t. held_of Serials) (λ b t. Serials) (tick_heard bodies)
      (law_beside bodies (RestHeard bodies) (LawHeard bodies) (InHeard bodies) (InHeard bodies) (EndHeard bodies) Serials (serials_law bodies))

  pub tick_sourced : TickSince bodies RestSourced LawSourced InSourced InSourced EndSourced
  tick_sourced = both bodies RestOrdered LawOrdered InOrdered InOrdered EndOrdered Plain (held_of Plain) (λ b t. held_of Plain) (λ b t. held_of Plain) (λ b t. Plain) tick_ordered (law_beside bodies RestOrdered LawOrdered InOrdered InOrdered EndOrdered Plain (plain_law bodies))

  -- ---- the charge brings two

  charge_brings : (t : ℕ) (s : Turn P) → debt (charged_turn bodies t s).machine + bonus s.machine + 2 ≤ debt s.machine + bonus (charged_turn bodies t s).machine
  charge_brings t s =
      let k = cost_changed t 0 (λ th. charge_of bodies (thread_at s.machine t)) s.machine.threads (kept (thread_at s.machine t)) in omega arith
    where
      kept : (th : Thread P) → CostsOf 0 th (charge_of bodies th)
      kept th =
          let e = charged_taker bodies th in
          let a = ap (λ (k : Taker). sleeping k.status) e in
          let b = ap (λ (k : Taker). one_if (is_live k.status && k.catches)) e in omega arith

  once_of : (m : Machine P) → Serials m → (n : ℕ) → pends n m.pending ≤ 1
  once_of m q n = let k = q n in let l = at_most_one (nat_lt n m.next_serial) in omega arith

module _ {P : Type 0} (bodies : Bodies P) (fits : BodiesFit bodies) where
  abbrev Still : Turn P → Type 0
  Still s = Rests bodies fits (RestSourced bodies) (LawSourced bodies) (InSourced bodies) (InSourced bodies) (EndSourced bodies) (tick_sourced bodies) s

  visits_cost : (before : Machine P) (ts : List ℕ) (s : Turn P) → LawSourced bodies before s → Costs 0 s (sweeps_all bodies ts s)
  visits_cost before [] s q = omega arith
  visits_cost before (t ∷ ts) s q =
      let next = sweeps_thread bodies s.machine.killed t s in
      let after : LawSourced bodies before next = sweeps_all_keep bodies None (LawSourced bodies before) (LawSourced bodies before) (narrowed bodies None (LawSourced bodies before) ((tick_sourced bodies).moves before))
      (asleep bodies fits (RestSourced bodies) (LawSourced bodies) (InSourced bodies) (InSourced bodies) (EndSourced bodies) (tick_sourced bodies) before) ((tick_sourced bodies).joined before) (t ∷ []) s q in
      let a = visit_cost bodies s.machine.killed t s q.1 (once_of bodies s.machine q.0.1) in
      let b = visits_cost before ts next after in omega arith

  sweep_few : (s : Turn P) → Still s → Few s.machine → Few (sweeps bodies s).machine
  sweep_few s r few = let k = visits_cost s.machine (thread_numbers s.machine) s ((tick_sourced bodies).opens s r.still r.rest) in omega arith

  item_few : (i : Item) (s : Turn P) → next_item s.machine ≡ Some i → Still s → Few s.machine → Few (item_done bodies i s).machine
  item_few i s e r few =
      let due = next_is_due s.machine i e in
      let k = item_cost bodies i s due in
      sweep_few (settles_since s.machine (handles bodies i s))
      (settles_keep bodies fits (RestSourced bodies) (LawSourced bodies) (InSourced bodies) (InSourced bodies) (EndSourced bodies) (tick_sourced bodies) s.machine (handles bodies i s)
      (handles_keep bodies fits (RestSourced bodies) (LawSourced bodies) (InSourced bodies) (InSourced bodies) (EndSourced bodies) (tick_sourced bodies) s.machine i s due ((tick_sourced bodies).opens s r.still r.rest))) (omega arith)

  then_few : (o : Option Item) (rest : Turn P → Turn P) (s : Turn P) → next_item s.machine ≡ o → ((s : Turn P) → Still s → Few s.machine → Few (rest s).machine) → Still s → Few s.machine → Few (item_then bodies o rest s).machine
  then_few None rest s e h r few = few
  then_few (Some i) rest s e h r few = h (item_done bodies i s) (item_done_keep bodies fits (RestSourced bodies) (LawSourced bodies) (InSourced bodies) (InSourced bodies) (EndSourced bodies) (tick_sourced bodies) i s e r) (item_few i s e r few)

  pub items_few : (most : ℕ) (s : Turn P) → Still s → Few s.machine → Few (items_done bodies most s).machine
  items_few zero s r few = few
  items_few (suc most) s r few = then_few (next_item s.machine) (items_done bodies most) s refl (items_few most) r few

  completes_cost : (left t : ℕ) (u : Unit) (s : Turn P) → Plain s.machine → Serials s.machine → Costs 2 s (completes_at bodies left t u s)
  completes_cost zero t u s plain q = unit_cost bodies t u s plain (once_of bodies s.machine q)
  completes_cost (suc left) t u s plain q = omega arith

  dispatched_few : (to : Option ℕ) (s : Turn P) → Few s.machine → Few (dispatches to s).machine
  dispatched_few to s few = subst Few (sym (dispatched to s)) few

  few_prepared : PreparingKeeps (λ (s : Turn P). Few s.machine)
  few_prepared = record {
    closes = λ t s run few. let k = end_cost bodies planning t s in few_after s (plans t s) few k;
    sent = λ to s off few. dispatched_few to s few;
    opens = λ t x s runs is may few. few_after s (activates_server t (Some x) s) few (activated t (Some x) s);
  }
    where
      few_after : (s s' : Turn P) → Few s.machine → Costs 0 s s' → Few s'.machine
      few_after s s' few k = omega arith

  runs_few : (to : Option ℕ) (s : Turn P) → ((t : ℕ) → to ≡ Some t → can_run s.machine t ≡ true) → IsReady to s.machine → Still s → Few s.machine → Few (runs bodies to s).machine
  runs_few None s can ready r few = omega arith
  runs_few (Some t) s can ready r few =
      let charged = charged_turn bodies t s in
      let was_high = has_high (thread_at s.machine t).server in
      let unit = in_unit bodies (thread_at s.machine t) in
      let ticked = unit_ticked bodies s.machine t unit s in
      let left = top_left (thread_at charged.machine t).frames in
      let mid : InSourced bodies was_high t s.machine charged = (tick_sourced bodies).charges t s r.still ready (can t refl) r.rest in
      let done : InSourced bodies was_high t s.machine (completes_at bodies left t unit.unit charged) =
      completes_keep bodies fits (RestSourced bodies) (LawSourced bodies) (InSourced bodies) (InSourced bodies) (EndSourced bodies) (tick_sourced bodies) was_high left t unit.unit s.machine charged (in_unit_fits bodies fits (thread_at s.machine t)) (charged_runs bodies t s (can t refl)) mid in
      let gain = charge_brings bodies t s in
      let cost = completes_cost left t unit.unit charged mid.1 mid.0.1 in
      let over = end_cost bodies (tick_end was_high ticked.machine.quantum (thread_at ticked.machine t)) t ticked in
      sweep_few (tick_ends was_high t ticked)
      (ends_keep bodies fits (RestSourced bodies) (LawSourced bodies) (InSourced bodies) (InSourced bodies) (EndSourced bodies) (tick_sourced bodies) was_high t ticked refl ((tick_sourced bodies).unit_settles was_high t s.machine (completes_at bodies left t unit.unit charged) done)) (omega arith)

  goes_on_few : (killed : Option ℕ) (s : Turn P) → Still s → Few s.machine → Few (unless_killed killed (runs_head bodies) s).machine
  goes_on_few None s r few =
      let to = head s.machine in
      let can = λ (t : ℕ) (e : to ≡ Some t). head_can_run s.machine t r.listed e in
      let k = prepares_keep (λ (x : Turn P). Few x.machine) few_prepared to s can few in
      runs_few to (prepares to s) (λ t e. alike_runs s.machine (prepares to s).machine t k.1 (can t e)) (prepared to s)
      (prepares_rest bodies fits (RestSourced bodies) (LawSourced bodies) (InSourced bodies) (InSourced bodies) (EndSourced bodies) (tick_sourced bodies) to s can r) k.0
  goes_on_few (Some signal) s r few = few

  tick_few : (s : Turn P) → Still s → Few s.machine → Few (tick bodies s).machine
  tick_few s r few =
      let ready = instant bodies s in
      goes_on_few ready.machine.killed ready (instant_keep bodies fits (RestSourced bodies) (LawSourced bodies) (InSourced bodies) (InSourced bodies) (EndSourced bodies) (tick_sourced bodies) s r) (items_few (item_bound s.machine) s r few)

  pub run_few_from : (n : ℕ) (start : Machine P) → RestSourced bodies start → AllRun start start.lists → Few start → Few (ticks bodies n start).machine
  run_few_from zero start q listed few = few
  run_few_from (suc n) start q listed few =
      tick_few (turn_of (ticks bodies n start).machine) (run_since bodies fits (RestSourced bodies) (LawSourced bodies) (InSourced bodies) (InSourced bodies) (EndSourced bodies) (tick_sourced bodies) n start q listed) (run_few_from n start q listed few)

-- ---- the opening

opened_waits : (P : Type 0) (n : ℕ) (ds : List ThreadDecl) → waits n (map (λ (d : ThreadDecl). thread_opened {P = P} d) ds) ≡ 0
opened_waits P n [] = refl
opened_waits P n (d ∷ ds) = omega (arith, opened_waits P n ds)

opened_sleepers : (P : Type 0) (ds : List ThreadDecl) → sleepers (map (λ (d : ThreadDecl). thread_opened {P = P} d) ds) ≡ 0
opened_sleepers P [] = refl
opened_sleepers P (d ∷ ds) = omega (arith, opened_sleepers P ds)

module _ {P : Type 0} (bodies : Bodies P) (ranges : BodiesFit bodies) (script : Script) (fits : IsWellFormed script) where
  pub opening_sourced : RestSourced bodies (opening {P = P} script)
  opening_sourced = ((opening_rest bodies ranges script fits, λ n. (let none = opened_waits P n (threads_of script) in omega arith)), tt)

  pub run_few : (n : ℕ) → Few (ticks bodies n (opening script)).machine
  run_few n = run_few_from bodies ranges n (opening script) opening_sourced (opening_listed P script) (let none = opened_sleepers P (threads_of script) in omega arith)
