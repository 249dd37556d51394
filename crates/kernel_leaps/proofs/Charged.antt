-- A charge leaves what a unit may ask for.
use Rattle.std.proofs.Common.{◌≡◌, ℕ, List, [], ◌∷◌, arith, length, refl}
use Rattle.rules_bodies.specs.declared.cursor.Cursor.{Cursor}
use Rattle.rules_bodies.specs.declared.unit.Unit as unit_type
use Rattle.rules_bodies.specs.declared.unit.Unit.TheVariants as unit
use Rattle.words_script.specs.declared.call.Call.{Call}
use Rattle.words_script.specs.declared.call.Call.TheVariants as call
use Rattle.rules_machine.specs.State.{Frame, Thread}
use Rattle.rules_flat_code.specs.KnownCalls.{Objects}
use Rattle.rules_leaps.specs.Quiet.{after_ticks, frames_after}
use Rattle.kernel_wakes.specs.Calls.{HasRoomFor}
use Rattle.kernel_leaps.specs.Completes.{CanComplete}

as_many : (k : ℕ) (fs : List (Frame Cursor)) → length (frames_after k fs) ≡ length fs
as_many k [] = refl
as_many k (f ∷ fs) = refl

room_later : (n k : ℕ) (th : Thread Cursor) (c : Call) → HasRoomFor n th c → HasRoomFor n (after_ticks k th) c
room_later n k th (call.Push u) room = room
room_later n k th (call.Pop runs) room = (room.0, (let few = room.1 in let same = as_many k th.frames in omega (arith, few, same)))
room_later n k th _ room = tt

pub can_later : (o : Objects) (k : ℕ) (th : Thread Cursor) (u : unit_type.Unit) → CanComplete o th u → CanComplete o (after_ticks k th) u
can_later o k th (unit.Run n) can = tt
can_later o k th (unit.Make c) can = record { runnable = can.runnable; room = room_later o.cleanups k th c can.room }
can_later o k th unit.Jump can = tt
can_later o k th unit.Finish can = tt
