-- Every run keeps the cleanup handlers of each thread right.
use Rattle.std.proofs.Common.{Bool, List, None, Option, Some, [], arith, false, length, refl, suc, sym, true, zero, ℕ, ◌≤◌, ◌∷◌, ◌≡◌}
use Rattle.std.specs.Prelude.{map, ◌==◌, if◌then◌else◌}
use mathlib.Core.Path.{subst}
use Rattle.words_numbers.specs.declared.item.Item.{Item}
use Rattle.words_script.specs.declared.decl.Script.{Script}
use Rattle.rules_machine.specs.declared.frame.BodyOf.{BodyOf}
use Rattle.rules_machine.specs.declared.frame.BodyOf.TheVariants as body_of
use Rattle.rules_machine.specs.Bodies.{Bodies}
use Rattle.rules_machine.specs.State.{Frame, Machine, Status, Thread, blocked, dormant, ended, runnable}
use Rattle.rules_machine.specs.Threads.{can_run, is_dormant, is_main, is_runnable, thread_at, thread_in, thread_numbers, top_left}
use Rattle.rules_machine.specs.Declarations.{ThreadDecl, threads_of}
use Rattle.rules_machine.specs.Turns.{Turn, settles_since, turn_of}
use Rattle.rules_machine.specs.Servers.{has_high}
use Rattle.rules_machine.specs.Delivery.{sweeps}
use Rattle.rules_machine.specs.DueItems.{handles, instant, item_bound, item_done, item_then, items_done, next_item}
use Rattle.rules_machine.specs.Dispatch.{dispatches, head}
use Rattle.rules_machine.specs.Units.{in_unit}
use Rattle.rules_machine.specs.Ticks.{runs, runs_head, tick_charged, tick_end, tick_ends, unit_ticked, unless_killed, planning, prepares}
use Rattle.rules_machine.specs.GoodState.{CleanupsAreRight, main_guards}
use Rattle.rules_machine.specs.Runs.{opening, thread_opened, ticks}
use Rattle.rules_machine.proofs.ItemsEnd.{next_is_due}
use Rattle.rules_machine.proofs.Reading.{thread-other, thread-same}
use Rattle.rules_machine.specs.WellFormed.{IsWellFormed}
use Rattle.rules_moves.specs.UnitRanges.{BodiesFit}
use Rattle.laws_machine.specs.GuardedBodies.{BodiesGuarded, most_of}
use Rattle.rules_moves.proofs.Waiters.Best.{Each, running_within}
use Rattle.rules_moves.proofs.Runs.Listed.{AllRun, head_can_run}
use Rattle.rules_moves.proofs.Runs.Preparing.{PreparingKeeps, alike_runs, prepares_keep}
use Rattle.rules_moves.proofs.Runs.Ticks.{charged_runs, charged_turn, dispatched}
use Rattle.rules_moves.proofs.Runs.Since.{Rests, instant_keep, run_since}
use Rattle.laws_machine.proofs.Lists.Kept.{Placed, Placing, opening_placed, placed_tick}
use Rattle.laws_machine.proofs.Parts.Opening.{opening_listed}
use Rattle.laws_machine.proofs.Cleanups.Frames.{Clean, FrameFits, activated}
use Rattle.laws_machine.proofs.Cleanups.Calls.{end_same, item_same}
use Rattle.laws_machine.proofs.Cleanups.Units.{Before, all_visited, charged_before, completed}

module _ {P : Type 0} (bodies : Bodies P) (fits : BodiesFit bodies) (guards : BodyOf → P → List ℕ) (guarded : BodiesGuarded bodies guards) where
  abbrev pub AllClean : Machine P → Type 0
  AllClean m = (v : ℕ) → Clean guards (thread_at m v)

  abbrev Still : Turn P → Type 0
  Still s = Rests bodies fits Placed Placing (λ b t. Placing) (λ b t. Placing) (λ b t. Placed) (placed_tick bodies) s

  sweep_clean : (s : Turn P) → AllClean s.machine → AllClean (sweeps bodies s).machine
  sweep_clean s q v = all_visited bodies guards guarded (thread_numbers s.machine) s v (q v)

  item_clean : (i : Item) (s : Turn P) → next_item s.machine ≡ Some i → AllClean s.machine → AllClean (item_done bodies i s).machine
  item_clean i s e q = sweep_clean (settles_since s.machine (handles bodies i s)) (λ v. item_same bodies guards guarded i s (next_is_due s.machine i e) v (q v))

  then_clean : (o : Option Item) (rest : Turn P → Turn P) (s : Turn P) → next_item s.machine ≡ o → ((s : Turn P) → AllClean s.machine → AllClean (rest s).machine) → AllClean s.machine → AllClean (item_then bodies o rest s).machine
  then_clean None rest s e h q = q
  then_clean (Some i) rest s e h q = h (item_done bodies i s) (item_clean i s e q)

  pub items_clean : (most : ℕ) (s : Turn P) → AllClean s.machine → AllClean (items_done bodies most s).machine
  items_clean zero s q = q
  items_clean (suc most) s q = then_clean (next_item s.machine) (items_done bodies most) s refl (items_clean most) q

  awake_of : (status : Status) → is_runnable status ≡ true → is_dormant status ≡ false
  awake_of (dormant at) e = absurd (grind arith)
  awake_of runnable e = refl
  awake_of (blocked w) e = refl
  awake_of ended e = refl

  -- the head's tick, and its unit
  ticked_clean : (t : ℕ) (s : Turn P) → can_run s.machine t ≡ true → AllClean s.machine → AllClean (unit_ticked bodies s.machine t (in_unit bodies (thread_at s.machine t)) s).machine
  ticked_clean t s runs q = completed bodies guards guarded t charged still others (top_left (thread_at charged.machine t).frames) (in_unit bodies (thread_at s.machine t)).unit refl mine
    where
      charged : Turn P
      charged = charged_turn bodies t s

      here : thread_at charged.machine t ≡ tick_charged (in_unit bodies (thread_at s.machine t)).thread
      here = thread-same s.machine t (λ th. tick_charged (in_unit bodies (thread_at s.machine t)).thread) (running_within s.machine.threads t runs)

      still : can_run charged.machine t ≡ true
      still = charged_runs bodies t s runs

      others : (v : ℕ) → (t == v) ≡ false → Clean guards (thread_at charged.machine v)
      others v e = subst (λ (th : Thread P). Clean guards th) (sym (thread-other s.machine t v (λ th. tick_charged (in_unit bodies (thread_at s.machine t)).thread) e)) (q v)

      mine : Before guards (in_unit bodies (thread_at s.machine t)).unit (thread_at charged.machine t)
      mine = subst (λ (th : Thread P). Before guards (in_unit bodies (thread_at s.machine t)).unit th) (sym here) (charged_before bodies guards guarded (thread_at s.machine t) (q t) (awake_of (thread_at s.machine t).status runs))

  dispatched_clean : (to : Option ℕ) (s : Turn P) → AllClean s.machine → AllClean (dispatches to s).machine
  dispatched_clean to s q = subst AllClean (sym (dispatched to s)) q

  clean_prepared : PreparingKeeps (λ (s : Turn P). AllClean s.machine)
  clean_prepared = record {
    closes = λ t s run q v. end_same bodies guards guarded planning t s v (q v);
    sent = λ to s off q. dispatched_clean to s q;
    opens = λ t x s runs is may q v. activated guards t (Some x) s v (q v);
  }

  runs_clean : (to : Option ℕ) (s : Turn P) → ((t : ℕ) → to ≡ Some t → can_run s.machine t ≡ true) → AllClean s.machine → AllClean (runs bodies to s).machine
  runs_clean None s can q = q
  runs_clean (Some t) s can q =
      let was_high = has_high (thread_at s.machine t).server in
      let ticked = unit_ticked bodies s.machine t (in_unit bodies (thread_at s.machine t)) s in
      sweep_clean (tick_ends was_high t ticked) (λ v. end_same bodies guards guarded (tick_end was_high ticked.machine.quantum (thread_at ticked.machine t)) t ticked v (ticked_clean t s (can t refl) q v))

  goes_on_clean : (killed : Option ℕ) (s : Turn P) → Still s → AllClean s.machine → AllClean (unless_killed killed (runs_head bodies) s).machine
  goes_on_clean None s r q =
      let to = head s.machine in
      let can = λ (t : ℕ) (e : to ≡ Some t). head_can_run s.machine t r.listed e in
      let k = prepares_keep (λ (x : Turn P). AllClean x.machine) clean_prepared to s can q in
      runs_clean to (prepares to s) (λ t e. alike_runs s.machine (prepares to s).machine t k.1 (can t e)) k.0
  goes_on_clean (Some signal) s r q = q

  pub run_clean : (n : ℕ) (start : Machine P) → Placed start → AllRun start start.lists → AllClean start → AllClean (ticks bodies n start).machine
  run_clean zero start placed listed q = q
  run_clean (suc n) start placed listed q =
      let s = turn_of (ticks bodies n start).machine in
      let ready = instant bodies s in
      goes_on_clean ready.machine.killed ready
      (instant_keep bodies fits Placed Placing (λ b t. Placing) (λ b t. Placing) (λ b t. Placed) (placed_tick bodies) s (run_since bodies fits Placed Placing (λ b t. Placing) (λ b t. Placing) (λ b t. Placed) (placed_tick bodies) n start placed listed))
      (items_clean (item_bound s.machine) s (run_clean n start placed listed q))

  -- ---- at most eight

  few_guards : (fs : List (Frame P)) → Each FrameFits fs → length (main_guards guards fs) ≤ 8
  few_guards [] each = omega arith
  few_guards (f ∷ fs) each = by_main (is_main f.kind) refl (few_guards fs each.1)
    where
      thread_few : (body : BodyOf) → length (guards body f.place) ≤ most_of body → length (guards body f.place) ≤ 8
      thread_few (body_of.Thread t) h = h
      thread_few (body_of.Cleanup u) h = omega arith
      thread_few (body_of.Handler n) h = omega arith

      by_main : (b : Bool) → is_main f.kind ≡ b → length (main_guards guards fs) ≤ 8 → length (if b then guards f.body f.place else main_guards guards fs) ≤ 8
      by_main true e rest = thread_few f.body (guarded.few f.body f.place)
      by_main false e rest = rest

  pub cleanups_right : (m : Machine P) → AllClean m → CleanupsAreRight guards m
  cleanups_right m q = record { each = λ t live going. (let e = (q t).0 going in (e, subst (λ (xs : List ℕ). length xs ≤ 8) (sym e) (few_guards (thread_at m t).frames (q t).2))) }

-- ---- of a script

opened_clean : {P : Type 0} (guards : BodyOf → P → List ℕ) (ds : List ThreadDecl) (t : ℕ) → Clean guards (thread_in (map (λ (d : ThreadDecl). thread_opened {P = P} d) ds) t)
opened_clean guards [] t = (λ e. refl, λ e. refl, tt)
opened_clean guards (d ∷ ds) zero = (λ e. refl, λ e. refl, tt)
opened_clean guards (d ∷ ds) (suc t) = opened_clean guards ds t

module _ {P : Type 0} (bodies : Bodies P) (ranges : BodiesFit bodies) (guards : BodyOf → P → List ℕ) (guarded : BodiesGuarded bodies guards) (script : Script) (fits : IsWellFormed script) where
  -- at every instant of its run
  pub run_all_clean : (n : ℕ) → AllClean bodies ranges guards guarded (ticks bodies n (opening script)).machine
  run_all_clean n = run_clean bodies ranges guards guarded n (opening script) (opening_placed P script fits) (opening_listed P script) (opened_clean guards (threads_of script))
