-- The unit that a thread is in, or takes next, leaves its frames at places of the code, and makes only calls that name what is declared.
use Rattle.std.proofs.Common.{Bool, List, [], ap, arith, false, length, refl, subst, suc, sym, true, zero, ℕ, ◌∙◌, ◌∷◌, ◌≡◌}
use Rattle.std.specs.Prelude.{map, slice_index_or, ◌&&◌}
use Rattle.std.proofs.lemmas.List.{length-map}
use Rattle.words_script.specs.declared.call.Call.{Call}
use Rattle.words_script.specs.declared.decl.Script.{Script}
use Rattle.rules_bodies.specs.declared.cursor.Cursor.{Cursor}
use Rattle.rules_bodies.specs.declared.op.Op.{Op}
use Rattle.rules_bodies.specs.declared.unit.Unit as units
use Rattle.rules_bodies.specs.declared.unit.Unit.TheVariants as unit
use Rattle.rules_bodies.specs.Flat.{NumberedBodies, bodies_of}
use Rattle.rules_bodies.specs.Fetch.{fetched, ops_of}
use Rattle.rules_bodies.specs.Stands.{IsPlaced}
use Rattle.rules_bodies.proofs.Agrees.{fetched_agrees, fetched_placed}
use Rattle.rules_machine.specs.declared.frame.FrameKind.{FrameKind}
use Rattle.rules_machine.specs.declared.frame.FrameKind.TheVariants as frame
use Rattle.rules_machine.specs.State.{Frame, Thread, Timer}
use Rattle.rules_machine.specs.Threads.{is_main, no_thread, thread_at, top_kind}
use Rattle.rules_machine.specs.Declarations.{ThreadDecl, cleanups_of, threads_of}
use Rattle.rules_machine.specs.Cancellation.{without_cleanup}
use Rattle.rules_machine.specs.Units.{InUnit, advances, begins_finish, choice, in_cleanup, in_unit, takes_unit}
use Rattle.rules_machine.specs.Ticks.{frames_charged, tick_charged}
use Rattle.rules_machine.specs.Runs.{opening, thread_opened, ticks}
use Rattle.rules_machine.specs.Turns.{Turn, turn_of}
use Rattle.rules_machine.specs.DueItems.{items_done}
use Rattle.rules_machine.specs.WellFormed.{is_guarding}
use Rattle.rules_machine.proofs.Parts.{by_following}
use Rattle.rules_flat_code.specs.EachCall.{EachMade}
use Rattle.rules_flat_code.specs.FlatBodies.{code_of, flat_bodies}
use Rattle.rules_flat_code.specs.KnownCalls.{KnowsObjects, objects_of}
use Rattle.rules_flat_code.specs.Placed.{cursor_of}
use Rattle.laws_threads.specs.EachThread.{Lasts, UnitKnown}
use Rattle.laws_threads.specs.Frames.{AreInOrder, EachStands, FramesStand, RunStaysPlaced, TakenStands, UnitStands}
use Rattle.laws_threads.specs.Placeable.{IsPlaceable}
use Rattle.laws_threads.proofs.Objects.{NotifiesKnown, each_of_all}
use Rattle.laws_threads.proofs.Changes.{Holds, at_all}
use Rattle.laws_threads.proofs.MadeCalls.{UnitMakes, all_made, fetched_makes}
use Rattle.laws_threads.proofs.Plain.{IsPlain}
use Rattle.laws_threads.proofs.Begins.{actions_known}
use Rattle.laws_threads.proofs.Frames.{AllStand, FrameStands, Stands, StandsIn, all_placed, at_most_one, at_most_three, at_most_two, dropped_declared, of_script, placed_same, runs_stands, stands_closed}
use Rattle.laws_threads.proofs.Runs.{holds_throughout}

module _ (script : Script) (ok : IsPlaceable script) where
  abbrev code : NumberedBodies (List Op)
  code = code_of script

  abbrev StandsNow : Thread Cursor → Type 0
  StandsNow th = Stands (code_of script) (length (cleanups_of script)) th

  -- ---- the next unit of a frame

  plain_or_main : (kind : FrameKind) (c : Call) → (is_main kind ≡ false → IsPlain c) → is_guarding c ≡ true → kind ≡ frame.Main
  plain_or_main frame.Main c plain e = refl
  plain_or_main frame.Cleanup c plain e = let k : is_guarding c ≡ false = plain refl in absurd (grind arith)
  plain_or_main frame.Signal c plain e = let k : is_guarding c ≡ false = plain refl in absurd (grind arith)

  unit_stands : (kind : FrameKind) (u : units.Unit) → UnitMakes (KnowsObjects (objects_of script)) u → (is_main kind ≡ false → UnitMakes IsPlain u) → UnitStands (objects_of script) kind u
  unit_stands kind (unit.Run n) known plain = tt
  unit_stands kind (unit.Make c) known plain = record { objects = known; guards = plain_or_main kind c plain }
  unit_stands kind unit.Jump known plain = tt
  unit_stands kind unit.Finish known plain = tt

  next_stands : (f : Frame Cursor) → FrameStands code f → UnitStands (objects_of script) f.kind (fetched code (cursor_of f)).1
  next_stands f h =
      unit_stands f.kind (fetched code (cursor_of f)).1
      (fetched_makes (KnowsObjects (objects_of script)) code (cursor_of f) (all_made (KnowsObjects (objects_of script)) (bodies_of script.decls).all f.place.body ok.calls))
      (λ inner. fetched_makes IsPlain code (cursor_of f) (h.plain inner))

  -- the frame as it begins that unit
  begun_stands : (f g : Frame Cursor) → FrameStands code f → g.kind ≡ f.kind → cursor_of g ≡ record ((fetched code (cursor_of f)).0) { result = g.result; value = g.value } → FrameStands code g
  begun_stands f g h kind e =
      let there = fetched_agrees code (cursor_of f) h.placed.body h.placed.place h.placed.is_body h.placed.stands in
      let body : g.place.body ≡ f.place.body = ap (λ (c : Cursor). c.body) e ∙ there.body_same in
      record {
        placed = subst (λ (c : Cursor). IsPlaced code c) (sym e) (placed_same code _ _ (fetched_placed code (cursor_of f) h.placed) refl refl refl refl);
        plain = λ inner. subst (λ (n : ℕ). EachMade IsPlain (ops_of code n)) (sym body) (h.plain (ap is_main (sym kind) ∙ inner));
      }

  -- ---- the unit of a thread

  pub record Taken (x : InUnit Cursor) : Type 0 where
    pub stands : Stands (code_of script) (length (cleanups_of script)) x.thread
    pub unit : TakenStands (objects_of script) x

  taken_next : (fs : List (Frame Cursor)) (th : Thread Cursor) → th.frames ≡ fs → StandsNow th → Taken (advances (flat_bodies code) fs th)
  taken_next [] th e h = record { stands = h; unit = tt }
  taken_next (f ∷ fs) th e h =
      let all : AllStand code (f ∷ fs) = rw e at h.all in
      let ordered : AreInOrder (f ∷ fs) = rw e at h.ordered in
      record {
        stands = record { all = (begun_stands f _ all.0 refl refl, all.1); ordered = ordered; cleanups = h.cleanups };
        unit = next_stands f all.0;
      }

  taken_finish : (fs : List (Frame Cursor)) (th : Thread Cursor) → th.frames ≡ fs → StandsNow th → Taken (begins_finish fs th)
  taken_finish [] th e h = record { stands = h; unit = tt }
  taken_finish (f ∷ fs) th e h =
      let all : AllStand code (f ∷ fs) = rw e at h.all in
      let ordered : AreInOrder (f ∷ fs) = rw e at h.ordered in
      record { stands = record { all = (record { placed = all.0.placed; plain = all.0.plain }, all.1); ordered = ordered; cleanups = h.cleanups }; unit = tt }

  taken_ending : (us : List ℕ) (th : Thread Cursor) → th.cleanups ≡ us → top_kind th.frames ≡ frame.Main → StandsNow th → Taken (takes_unit (flat_bodies code) (choice 0 true us) th)
  taken_ending [] th e main h = taken_finish th.frames th refl h
  taken_ending (u ∷ us) th e main h =
      let begun = in_cleanup (flat_bodies code) u th in
      taken_next begun.frames begun refl
      (runs_stands script ok (u ∷ us) (without_cleanup th) (rw e at h.cleanups) main
      (record { all = h.all; ordered = h.ordered; cleanups = dropped_declared script ok th.cleanups h.cleanups }))

  main_of : (kind : FrameKind) (a : Bool) → (a && is_main kind) ≡ true → kind ≡ frame.Main
  main_of frame.Main a e = refl
  main_of frame.Cleanup a e = absurd (grind arith)
  main_of frame.Signal a e = absurd (grind arith)

  pub taken : (th : Thread Cursor) → StandsNow th → Taken (in_unit (flat_bodies code) th)
  taken th h =
      by_following th (λ x. Taken (takes_unit (flat_bodies code) x th)) (λ n some. record { stands = h; unit = tt }) (λ none going. taken_next th.frames th refl h)
      (λ none end us same. taken_ending us th same (main_of (top_kind th.frames) th.is_ending end) h)

  -- ---- its charge

  all_charged : (fs : List (Frame Cursor)) → AllStand code fs → AllStand code (frames_charged fs)
  all_charged [] h = tt
  all_charged (f ∷ fs) h = (record { placed = h.0.placed; plain = h.0.plain }, h.1)

  order_charged : (fs : List (Frame Cursor)) → AreInOrder fs → AreInOrder (frames_charged fs)
  order_charged [] h = tt
  order_charged (f ∷ fs) h = h

  kind_charged : (fs : List (Frame Cursor)) → top_kind (frames_charged fs) ≡ top_kind fs
  kind_charged [] = refl
  kind_charged (f ∷ fs) = refl

  charged_stands : (th : Thread Cursor) → StandsNow th → StandsNow (tick_charged th)
  charged_stands th h = record { all = all_charged th.frames h.all; ordered = order_charged th.frames h.ordered; cleanups = h.cleanups }

  known_of : (kind : FrameKind) (th : Thread Cursor) (u : units.Unit) → top_kind th.frames ≡ kind → UnitStands (objects_of script) kind u → UnitKnown (of_script script ok) th u
  known_of kind th (unit.Run n) e h = tt
  known_of kind th (unit.Make c) e h = rw e h
  known_of kind th unit.Jump e h = tt
  known_of kind th unit.Finish e h = tt

  pub stands_lasts : Lasts (of_script script ok) (StandsIn script ok)
  stands_lasts = record {
    closed = stands_closed script ok;
    passes = λ to. record {
      rests = λ now u th e q. q;
      runs = λ now t th e q. charged_stands (in_unit (flat_bodies code) th).thread (taken th q).stands;
      known = λ now t th e q.
          let x = in_unit (flat_bodies code) th in known_of (top_kind x.thread.frames) (tick_charged x.thread) x.unit (kind_charged x.thread.frames) (taken th q).unit;
    };
  }

  -- ---- runs

  pub frames_stand : (th : Thread Cursor) → Stands (code_of script) (length (cleanups_of script)) th → FramesStand script th
  frames_stand th h = record {
    placed = all_placed code th.frames h.all;
    ordered = h.ordered;
    few = at_most_three th.frames h.ordered;
    room = at_most_two th.frames h.ordered;
    main = at_most_one th.frames h.ordered;
    cleanups = h.cleanups;
    unit = (taken th h).unit;
  }

  -- wherever in a run what is kept holds
  pub each_stands : (s : Turn Cursor) → Holds (of_script script ok) (StandsIn script ok) s → EachStands script s.machine
  each_stands s h = record {
    each = λ t. frames_stand (thread_at s.machine t) (at_all (λ u th. StandsNow th) no_thread s.machine.threads h.each (λ u. record { all = tt; ordered = tt; cleanups = tt }) t);
  }

  nothing_begun : (ds : List ThreadDecl) (t : ℕ) → StandsNow (slice_index_or (map (thread_opened {P = Cursor}) ds) t no_thread)
  nothing_begun [] t = record { all = tt; ordered = tt; cleanups = tt }
  nothing_begun (d ∷ ds) zero = record { all = tt; ordered = tt; cleanups = tt }
  nothing_begun (d ∷ ds) (suc t) = nothing_begun ds t

  pub opening_holds : Holds (of_script script ok) (StandsIn script ok) (turn_of (opening script))
  opening_holds = record {
    each = λ u lt. nothing_begun (threads_of script) u;
    counted = length-map (threads_of script) (thread_opened {P = Cursor});
    handled = actions_known (of_script script ok) script ok (λ h lt. lt);
    objects = record {
      of_timers = each_of_all (λ (k : Timer). Unit {0}) (opening {P = Cursor} script).timers (λ k. tt);
      of_queues = each_of_all (NotifiesKnown (of_script script ok)) (opening {P = Cursor} script).queues (λ q r e. tt);
      of_records = tt;
    };
  }

  pub run_holds : (n most : ℕ) → Holds (of_script script ok) (StandsIn script ok) (items_done (flat_bodies (code_of script)) most (turn_of (ticks (flat_bodies (code_of script)) n (opening script)).machine))
  run_holds n most = holds_throughout (of_script script ok) (StandsIn script ok) stands_lasts n most (opening script) opening_holds

pub frames_are_placed : (script : Script) → IsPlaceable script → RunStaysPlaced script
frames_are_placed script ok = record {
  each = λ n most. let bodies = flat_bodies (code_of script) in each_stands script ok (items_done bodies most (turn_of (ticks bodies n (opening script)).machine)) (run_holds script ok n most);
}
