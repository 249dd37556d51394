-- A thread whose frames stand may have a tick.
use Rattle.std.proofs.Common.{◌≡◌, ◌∙◌, ◌<◌, ℕ, true, List, [], ◌∷◌, ap, arith, length, refl, subst}
use Rattle.words_script.specs.declared.call.Call.{Call}
use Rattle.words_script.specs.declared.call.Call.TheVariants as call
use Rattle.words_script.specs.declared.decl.Script.{Script}
use Rattle.rules_bodies.specs.declared.cursor.Cursor.{Cursor}
use Rattle.rules_bodies.specs.declared.unit.Unit as units
use Rattle.rules_bodies.specs.declared.unit.Unit.TheVariants as unit
use Rattle.rules_bodies.specs.Fetch.{ops_of}
use Rattle.rules_machine.specs.declared.frame.FrameKind.{FrameKind}
use Rattle.rules_machine.specs.declared.frame.FrameKind.TheVariants as frame
use Rattle.rules_machine.specs.Declarations.{cleanups_of}
use Rattle.rules_machine.specs.State.{Thread}
use Rattle.rules_machine.specs.Threads.{is_main, top_kind}
use Rattle.rules_machine.specs.Units.{InUnit, in_unit}
use Rattle.rules_flat_code.specs.EachCall.{EachMade}
use Rattle.rules_flat_code.specs.FlatBodies.{code_of, flat_bodies}
use Rattle.rules_flat_code.specs.KnownCalls.{objects_of}
use Rattle.laws_threads.specs.Frames.{AreDeclared, UnitStands}
use Rattle.laws_threads.specs.Placeable.{IsPlaceable}
use Rattle.laws_threads.proofs.Frames.{Stands, at_most_one}
use Rattle.laws_threads.proofs.FramesTaken.{taken}
use Rattle.laws_threads.proofs.MadeCalls.{UnitMakes}
use Rattle.kernel_threads.specs.Handlers.{AreHandlers, CanEnd}
use Rattle.rules_flat_code.specs.Runnable.{CallIsRunnable}
use Rattle.kernel_wakes.specs.Calls.{HasRoomFor}
use Rattle.kernel_leaps.specs.Completes.{CanComplete, CanTick}
use Rattle.laws_kernel.proofs.HeldLaw.{unit_makes}

handlers_among : (n : ℕ) (us : List ℕ) → AreDeclared n us → AreHandlers n us
handlers_among n [] h = tt
handlers_among n (u ∷ us) h = (h.0, handlers_among n us h.1)

main_is : (kind : FrameKind) → is_main kind ≡ true → kind ≡ frame.Main
main_is frame.Main e = refl
main_is frame.Cleanup e = absurd cc
main_is frame.Signal e = absurd cc

module _ (script : Script) (ok : IsPlaceable script) (calls : (n : ℕ) → EachMade (CallIsRunnable (objects_of script)) (ops_of (code_of script) n)) where
  abbrev StandsSo : Thread Cursor → Type 0
  StandsSo th = Stands (code_of script) (length (cleanups_of script)) th

  can_end : (th : Thread Cursor) → StandsSo th → CanEnd (objects_of script).cleanups th
  can_end th h = record {
    room = λ main. (let few = at_most_one th.frames h.ordered (main_is (top_kind th.frames) main) in omega (arith, few));
    handlers = handlers_among (length (cleanups_of script)) th.cleanups h.cleanups;
  }

  room_for : (x : InUnit Cursor) (c : Call) → x.unit ≡ unit.Make c → StandsSo x.thread → UnitStands (objects_of script) (top_kind x.thread.frames) x.unit →
      ((u : ℕ) → c ≡ call.Push u → length x.thread.cleanups < 8) → HasRoomFor (objects_of script).cleanups x.thread c
  room_for x (call.Push u) is h stands few = few u refl
  room_for x (call.Pop runs) is h stands few =
      let made = subst (λ (s : units.Unit). UnitStands (objects_of script) (top_kind x.thread.frames) s) is stands in
      let main = made.guards refl in (
        handlers_among (length (cleanups_of script)) x.thread.cleanups h.cleanups,
        (let one = at_most_one x.thread.frames h.ordered main in omega (arith, one)),
      )
  room_for x _ is h stands few = tt

  completes : (x : InUnit Cursor) (s : units.Unit) → x.unit ≡ s → UnitMakes (CallIsRunnable (objects_of script)) s → StandsSo x.thread → UnitStands (objects_of script) (top_kind x.thread.frames) x.unit →
      ((u : ℕ) → x.unit ≡ unit.Make (call.Push u) → length x.thread.cleanups < 8) → CanComplete (objects_of script) x.thread s
  completes x (unit.Run n) is makes h stands few = tt
  completes x (unit.Make c) is makes h stands few = record { runnable = makes; room = room_for x c is h stands (λ u e. few u (is ∙ ap unit.Make e)) }
  completes x unit.Jump is makes h stands few = tt
  completes x unit.Finish is makes h stands few = tt

  pub can_tick : (th : Thread Cursor) → StandsSo th →
      ((u : ℕ) → (in_unit (flat_bodies (code_of script)) th).unit ≡ unit.Make (call.Push u) → length (in_unit (flat_bodies (code_of script)) th).thread.cleanups < 8) →
      CanTick (objects_of script) (flat_bodies (code_of script)) th
  can_tick th h few =
      let x = in_unit (flat_bodies (code_of script)) th in
      let t = taken script ok th h in
      record { ends = λ e. can_end th h; completes = completes x x.unit refl (unit_makes (objects_of script) (code_of script) calls th) t.stands t.unit few }
