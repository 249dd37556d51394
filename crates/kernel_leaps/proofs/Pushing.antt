-- Where a cleanup handler is pushed there is room for it: a run over flat code is one over trees, and there at most eight are pushed.
use Rattle.std.proofs.Common.{◌≡◌, ◌∙◌, ◌<◌, ◌≤◌, ℕ, Bool, true, false, List, [], ◌∷◌, ap, arith, length, refl, subst, sym}
use Rattle.std.specs.Prelude.{◌&&◌}
use Rattle.words_script.specs.declared.call.Call.TheVariants as call
use Rattle.words_script.specs.declared.decl.Script.{Script}
use Rattle.rules_bodies.specs.declared.cursor.Cursor.{Cursor}
use Rattle.rules_bodies.specs.declared.unit.Unit.{Unit as Step}
use Rattle.rules_bodies.specs.declared.unit.Unit.TheVariants as unit
use Rattle.rules_bodies.specs.Next.{Place}
use Rattle.rules_machine.specs.declared.frame.BodyOf.{BodyOf}
use Rattle.rules_machine.specs.declared.frame.BodyOf.TheVariants as body_of
use Rattle.rules_machine.specs.Bodies.{Bodies}
use Rattle.rules_machine.specs.DueItems.{items_done}
use Rattle.rules_machine.specs.GoodState.{main_guards}
use Rattle.rules_machine.specs.Machine.{bodies_of}
use Rattle.rules_machine.specs.Promises.{guards_in}
use Rattle.rules_machine.specs.Runs.{Ran, opening, ticks}
use Rattle.rules_machine.specs.State.{Frame, Thread}
use Rattle.rules_machine.specs.Threads.{is_dormant, is_main, thread_at, top_kind}
use Rattle.rules_machine.specs.Throughout.{after_items}
use Rattle.rules_machine.specs.Ticks.{frames_charged, tick_charged}
use Rattle.rules_machine.specs.Turns.{Turn, turn_of}
use Rattle.rules_machine.specs.Units.{InUnit, advances, begins_finish, choice, in_unit, is_at_end, takes_unit}
use Rattle.rules_machine.specs.WellFormed.{IsWellFormed}
use Rattle.rules_moves.proofs.Runs.Units.{bodies_fit}
use Rattle.laws_machine.specs.GuardedBodies.{BodiesGuarded, most_of}
use Rattle.laws_machine.proofs.Cleanups.Blocks.{bodies_guarded}
use Rattle.laws_machine.proofs.Cleanups.Frames.{Clean}
use Rattle.laws_machine.proofs.Cleanups.Kept.{items_clean, run_all_clean}
use Rattle.laws_machine.proofs.Cleanups.Units.{BeforeIn, charged_before, guards_too}
use Rattle.rules_flat_code.specs.FlatBodies.{code_of, flat_bodies}
use Rattle.laws_flat_code.specs.Places.{carry}
use Rattle.laws_flat_code.proofs.Agrees.{flat_agrees}
use Rattle.rules_machine.proofs.Parts.{by_following}
use Rattle.laws_places.proofs.CarriedReads.{thread_carries}
use Rattle.laws_places.proofs.CarriedTicks.{in_unit_carries, items_done_carries}
use Rattle.laws_places.proofs.CarriedTrace.{runs_carry}
use Rattle.kernel_table.proofs.Statuses.{unit_keeps}

not_both : {X : Type 0} (b : Bool) → b ≡ false → b ≡ true → X
not_both b off on = let a : true ≡ false = sym on ∙ off in absurd cc

all_of : (a b : Bool) → a ≡ true → b ≡ true → (a && b) ≡ true
all_of a b p q = rw (p, q) refl

module _ {P : Type 0} (bodies : Bodies P) where
  -- ---- an ending thread pushes nothing in its main body

  finish_plain : (fs : List (Frame P)) (th : Thread P) → guards_too (begins_finish fs th).unit ≡ false
  finish_plain [] th = refl
  finish_plain (f ∷ fs) th = refl

  ending_plain : (us : List ℕ) (th : Thread P) → is_main (top_kind (takes_unit bodies (choice 0 true us) th).thread.frames) ≡ true → guards_too (takes_unit bodies (choice 0 true us) th).unit ≡ false
  ending_plain [] th main = finish_plain th.frames th
  ending_plain (u ∷ us) th main = absurd cc

  module _ (th : Thread P) (ending : th.is_ending ≡ true) where
    advances_plain : is_at_end th ≡ false → (fs : List (Frame P)) → th.frames ≡ fs → is_main (top_kind (advances bodies fs th).thread.frames) ≡ true → guards_too (advances bodies fs th).unit ≡ false
    advances_plain off [] same main = refl
    advances_plain off (f ∷ fs) same main = not_both (is_at_end th) off (all_of th.is_ending (is_main (top_kind th.frames)) ending (ap (λ (gs : List (Frame P)). is_main (top_kind gs)) same ∙ main))

    unit_plain : is_main (top_kind (in_unit bodies th).thread.frames) ≡ true → guards_too (in_unit bodies th).unit ≡ false
    unit_plain =
        by_following th (λ x. is_main (top_kind (takes_unit bodies x th).thread.frames) ≡ true → guards_too (takes_unit bodies x th).unit ≡ false) (λ n some main. refl) (λ none off. advances_plain off th.frames refl)
        (λ none end us same. ending_plain us th)

  -- ---- what was pushed before the start is nothing

  advances_cleanups : (fs : List (Frame P)) (th : Thread P) → (advances bodies fs th).thread.cleanups ≡ th.cleanups
  advances_cleanups [] th = refl
  advances_cleanups (f ∷ fs) th = refl

  finish_cleanups : (fs : List (Frame P)) (th : Thread P) → (begins_finish fs th).thread.cleanups ≡ th.cleanups
  finish_cleanups [] th = refl
  finish_cleanups (f ∷ fs) th = refl

  none_ending : (us : List ℕ) (th : Thread P) → us ≡ [] → th.cleanups ≡ [] → (takes_unit bodies (choice 0 true us) th).thread.cleanups ≡ []
  none_ending [] th none e = finish_cleanups th.frames th ∙ e
  none_ending (u ∷ us) th none e = absurd cc

  none_taken : (th : Thread P) → th.cleanups ≡ [] → (in_unit bodies th).thread.cleanups ≡ []
  none_taken th e =
      by_following th (λ x. (takes_unit bodies x th).thread.cleanups ≡ []) (λ n some. e) (λ none off. advances_cleanups th.frames th ∙ e) (λ none end us same. none_ending us th (sym same ∙ e) e)

  -- ---- so at most eight are pushed

  module _ (guards : BodyOf → P → List ℕ) (guarded : BodiesGuarded bodies guards) where
    few_in : (body : BodyOf) (n : ℕ) → n ≤ most_of body → n ≤ 8
    few_in (body_of.Thread t) n h = h
    few_in (body_of.Cleanup u) n h = omega arith
    few_in (body_of.Handler k) n h = omega arith

    main_few : (fs : List (Frame P)) → is_main (top_kind fs) ≡ true → length (main_guards guards fs) ≤ 8
    main_few [] main = omega arith
    main_few (f ∷ fs) main = rw main (few_in f.body (length (guards f.body f.place)) (guarded.few f.body f.place))

    charged_kind : (fs : List (Frame P)) → top_kind (frames_charged fs) ≡ top_kind fs
    charged_kind [] = refl
    charged_kind (f ∷ fs) = refl

    pushed_few : (u : ℕ) (cs gs : List ℕ) → gs ≡ u ∷ cs → length gs ≤ 8 → length cs < 8
    pushed_few u cs gs is few = let e = ap length is in omega (arith, e, few)

    pub push_few : (th : Thread P) → Clean guards th → (u : ℕ) → (in_unit bodies th).unit ≡ unit.Make (call.Push u) → length (in_unit bodies th).thread.cleanups < 8
    push_few th clean u is = by_start (is_dormant th.status) refl
      where
        x : Thread P
        x = tick_charged (in_unit bodies th).thread

        guards_on : guards_too (in_unit bodies th).unit ≡ true
        guards_on = ap guards_too is

        by_start : (b : Bool) → is_dormant th.status ≡ b → length (in_unit bodies th).thread.cleanups < 8
        by_start true e = let none = ap length (none_taken th (clean.1 e)) in omega (arith, none)
        by_start false awake = by_ending th.is_ending refl
          where
            main : is_main (top_kind (frames_charged (in_unit bodies th).thread.frames)) ≡ true
            main = by_main (is_main (top_kind (frames_charged (in_unit bodies th).thread.frames))) refl
              where
                by_main : (b : Bool) → is_main (top_kind (frames_charged (in_unit bodies th).thread.frames)) ≡ b → is_main (top_kind (frames_charged (in_unit bodies th).thread.frames)) ≡ true
                by_main true e = e
                by_main false e = not_both (guards_too (in_unit bodies th).unit) ((charged_before bodies guards guarded th clean awake).aside e) guards_on

            by_ending : (b : Bool) → th.is_ending ≡ b → length (in_unit bodies th).thread.cleanups < 8
            by_ending true e =
                not_both (guards_too (in_unit bodies th).unit) (unit_plain th e (sym (ap is_main (charged_kind (in_unit bodies th).thread.frames)) ∙ main)) guards_on
            by_ending false e =
                let fs = frames_charged (in_unit bodies th).thread.frames in
                let cs = (in_unit bodies th).thread.cleanups in
                let going = unit_keeps bodies (λ (y : Thread P). y.is_ending) (λ y fs us. refl) th ∙ e in
                let pushed = (charged_before bodies guards guarded th clean awake).pushed going in
                let here = subst (λ (b : Bool). BeforeIn b (in_unit bodies th).unit cs (main_guards guards fs)) main pushed in
                let now = subst (λ (s : Step). BeforeIn true s cs (main_guards guards fs)) is here in
                pushed_few u cs (main_guards guards fs) now (main_few fs main)

-- ---- over flat code

module _ (script : Script) (fits : IsWellFormed script) where
  abbrev trees : Bodies Place
  trees = bodies_of script

  abbrev codes : Bodies Cursor
  codes = flat_bodies (code_of script)

  abbrev tree_after : ℕ → ℕ → Turn Place
  tree_after n most = items_done trees most (turn_of (ticks trees n (opening script)).machine)

  clean_after : (n most t : ℕ) → Clean (guards_in script) (thread_at (tree_after n most).machine t)
  clean_after n most t =
      let ranges = bodies_fit script fits.priorities in
      let guarded = bodies_guarded script fits.guards in
      items_clean trees ranges (guards_in script) guarded most (turn_of (ticks trees n (opening script)).machine) (run_all_clean trees ranges (guards_in script) guarded script fits n) t

  pub push_room : (n most t u : ℕ) → (in_unit codes (thread_at (after_items codes (opening script) n most) t)).unit ≡ unit.Make (call.Push u) →
      length (in_unit codes (thread_at (after_items codes (opening script) n most) t)).thread.cleanups < 8
  push_room n most t u is =
      let agrees = flat_agrees script in
      let start = ticks trees n (opening script) in
      let th = thread_at (tree_after n most).machine t in
      let runs = ap (λ (r : Ran Cursor). items_done codes most (turn_of r.machine)) (runs_carry (carry script) trees codes agrees script n) ∙ items_done_carries (carry script) trees codes agrees most (turn_of start.machine) in
      let same = ap (λ (s : Turn Cursor). thread_at s.machine t) runs ∙ thread_carries (carry script) (tree_after n most).machine t in
      let taken = ap (in_unit codes) same ∙ in_unit_carries (carry script) trees codes agrees th in
      subst (λ (y : InUnit Cursor). length y.thread.cleanups < 8) (sym taken)
      (push_few trees (guards_in script) (bodies_guarded script fits.guards) th (clean_after n most t) u (sym (ap (λ (y : InUnit Cursor). y.unit) taken) ∙ is))
