-- The frames of a thread in a run over flat code: where they stand, in which order, and how many they can be. All of it is this
-- project's own.
use Rattle.std.specs.Prelude.{List, [], false, length, true, ℕ, ◌≡◌, ◌≤◌, ◌<◌, ◌∷◌}
use Rattle.words_script.specs.declared.call.Call.{Call}
use Rattle.words_script.specs.declared.decl.Script.{Script}
use Rattle.rules_bodies.specs.declared.cursor.Cursor.{Cursor}
use Rattle.rules_bodies.specs.declared.unit.Unit as units
use Rattle.rules_bodies.specs.declared.unit.Unit.TheVariants as unit
use Rattle.rules_machine.specs.declared.frame.FrameKind.{FrameKind}
use Rattle.rules_machine.specs.declared.frame.FrameKind.TheVariants as frame
use Rattle.rules_machine.specs.State.{Frame, Machine, Thread}
use Rattle.rules_machine.specs.Threads.{catches_signal, thread_at, top_kind}
use Rattle.rules_machine.specs.Declarations.{cleanups_of}
use Rattle.rules_machine.specs.Units.{InUnit, in_unit}
use Rattle.rules_machine.specs.Runs.{opening}
use Rattle.rules_machine.specs.Throughout.{HoldsThroughout}
use Rattle.rules_machine.specs.WellFormed.{is_guarding}
use Rattle.rules_flat_code.specs.FlatBodies.{code_of, flat_bodies}
use Rattle.rules_flat_code.specs.KnownCalls.{KnowsObjects, Objects, objects_of}
use Rattle.rules_flat_code.specs.Placed.{ArePlaced}

-- ---- the order of frames

-- how many frames can lie below one of the kind
abbrev pub rank : FrameKind → ℕ
rank frame.Main = 0
rank frame.Cleanup = 1
rank frame.Signal = 2

-- what is next below a frame of the kind, if anything, is of a lower one
abbrev pub LiesOver : {P : Type 0} → FrameKind → List (Frame P) → Type 0
LiesOver kind [] = Unit {0}
LiesOver kind (g ∷ gs) = rank g.kind < rank kind

-- The top frame is first: at most one signal frame, below it at most one cleanup frame, and below that at most one main frame.
abbrev pub AreInOrder : {P : Type 0} → List (Frame P) → Type 0
AreInOrder [] = Unit {0}
AreInOrder (f ∷ fs) = LiesOver f.kind fs × AreInOrder fs

-- ---- cleanup handlers and calls

-- numbers of declared cleanup handlers
abbrev pub AreDeclared : ℕ → List ℕ → Type 0
AreDeclared cleanups [] = Unit {0}
AreDeclared cleanups (u ∷ us) = (u < cleanups) × AreDeclared cleanups us

-- a call in a frame of the kind: it names what is declared, and cleanup handlers are pushed and popped in the main frame alone
pub record CallStands (o : Objects) (kind : FrameKind) (c : Call) : Type 0 where
  pub objects : KnowsObjects o c
  pub guards : is_guarding c ≡ true → kind ≡ frame.Main

abbrev pub UnitStands : Objects → FrameKind → units.Unit → Type 0
UnitStands o kind (unit.Make c) = CallStands o kind c
UnitStands o kind other = Unit {0}

abbrev pub TakenStands : {P : Type 0} → Objects → InUnit P → Type 0
TakenStands o taken = UnitStands o (top_kind taken.thread.frames) taken.unit

-- ---- the law

pub record FramesStand (script : Script) (th : Thread Cursor) : Type 0 where
  -- each frame is at a place of the code
  pub placed : ArePlaced (code_of script) th.frames
  pub ordered : AreInOrder th.frames
  pub few : length th.frames ≤ 3
  -- there is room for the frame of a signal-catching function, wherever one may begin
  pub room : catches_signal th ≡ false → length th.frames ≤ 2
  -- and for that of a cleanup handler, in the main frame
  pub main : top_kind th.frames ≡ frame.Main → length th.frames ≤ 1
  pub cleanups : AreDeclared (length (cleanups_of script)) th.cleanups
  -- the unit that it is in, or takes next
  pub unit : TakenStands (objects_of script) (in_unit (flat_bodies (code_of script)) th)

pub record EachStands (script : Script) (m : Machine Cursor) : Type 0 where
  pub each : (t : ℕ) → FramesStand script (thread_at m t)

-- at each instant of the run over the flat code, and between its items
abbrev pub RunStaysPlaced : Script → Type 0
RunStaysPlaced script = HoldsThroughout (flat_bodies (code_of script)) (opening script) (EachStands script)
