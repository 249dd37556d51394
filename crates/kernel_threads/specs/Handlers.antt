-- Handlers that the code has, and what an ending thread asks for.
use Rattle.std.specs.Prelude.{◌≡◌, ◌≤◌, ◌<◌, ◌∷◌, ℕ, List, [], length, slice_index, true}
use Rattle.rules_bodies.specs.declared.cursor.Cursor.{Cursor}
use Rattle.rules_bodies.specs.declared.op.Op.{Op}
use Rattle.rules_bodies.specs.Fetch.{started}
use Rattle.rules_bodies.specs.Flat.{NumberedBodies}
use Rattle.rules_bodies.specs.Stands.{IsPlaced}
use Rattle.rules_machine.specs.State.{Thread}
use Rattle.rules_machine.specs.Threads.{is_main, top_kind}
use Rattle.rules_flat_code.specs.Placed.{ArePlaced}

-- the cleanup handler of that number begins at a place of the code
pub record HandlerBegins (code : NumberedBodies (List Op)) (u : ℕ) : Type 0 where
  pub there : slice_index code.cleanups u < length code.all
  pub placed : IsPlaced code (started (slice_index code.cleanups u) 0)

-- and so does each that the code has
pub record HandlersBegin (code : NumberedBodies (List Op)) : Type 0 where
  pub each : (u : ℕ) → u < length code.cleanups → HandlerBegins code u

-- each handler of a signal has a body of the code
pub record CatchersBegin (code : NumberedBodies (List Op)) : Type 0 where
  pub each : (h : ℕ) → h < length code.handlers → slice_index code.handlers h < length code.all

-- a cleanup handler of the code, all of which begin at places of it
pub record HasCleanup (code : NumberedBodies (List Op)) (u : ℕ) : Type 0 where
  pub known : u < length code.cleanups
  pub begins : HandlersBegin code

-- a handler of a signal, all of which have bodies
pub record HasHandler (code : NumberedBodies (List Op)) (h : ℕ) : Type 0 where
  pub known : h < length code.handlers
  pub begins : CatchersBegin code

-- numbers of so many cleanup handlers
abbrev pub AreHandlers : ℕ → List ℕ → Type 0
AreHandlers n [] = Unit {0}
AreHandlers n (u ∷ us) = (u < n) × AreHandlers n us

-- in its main frame there is room for that of a cleanup handler, and its own are among so many
pub record CanEnd (n : ℕ) (th : Thread Cursor) : Type 0 where
  pub room : is_main (top_kind th.frames) ≡ true → length th.frames ≤ 2
  pub handlers : AreHandlers n th.cleanups

-- it can take its next unit: its frames stand at places of the code, and it can end where it is ending
pub record CanTake (code : NumberedBodies (List Op)) (th : Thread Cursor) : Type 0 where
  pub placed : ArePlaced code th.frames
  pub begins : HandlersBegin code
  pub ends : th.is_ending ≡ true → CanEnd (length code.cleanups) th
