-- How a frame, and a thread, go past units: what of it is in the bodies alone, before a tick is charged. All of it is this project's own.
use Rattle.std.specs.Prelude.{List, Option, [], length, true, ℕ, ◌≡◌, ◌≤◌, ◌<◌, ◌+◌, ◌-◌, ◌==◌, ◌∷◌, max, min}
use Rattle.rules_bodies.specs.declared.cursor.Cursor.{Cursor}
use Rattle.rules_bodies.specs.declared.op.Op.{Op}
use Rattle.rules_bodies.specs.declared.unit.Unit as unit_type
use Rattle.script_code.specs.Fetched.{unit_of}
use Rattle.rules_bodies.specs.Flat.{NumberedBodies}
use Rattle.rules_bodies.specs.Next.{ticks_of}
use Rattle.rules_server.specs.Server.{ServerState}
use Rattle.rules_machine.specs.Bodies.{Bodies}
use Rattle.rules_machine.specs.State.{Frame, Thread}
use Rattle.rules_machine.specs.Threads.{top_left}
use Rattle.rules_machine.specs.Units.{frame_begins, in_unit, next_of}
use Rattle.rules_flat_code.specs.FlatBodies.{flat_bodies}
use Rattle.rules_leaps.specs.Quiet.{frames_after}
use Rattle.kernel_threads.specs.declared.ran.Ran.{Ran}
use Rattle.kernel_threads.specs.declared.ran.Taken.{Taken}
use Rattle.kernel_threads.specs.Running.{all_of, only_takes_time}

-- a unit of k ticks that only takes time, and is over before `most` ticks are
pub record IsOver (most k ticks : ℕ) (u : unit_type.Unit) : Type 0 where
  pub idle : only_takes_time u ≡ true
  pub long : k ≡ ticks
  pub some : 1 ≤ k
  pub within : k < most

module _ (bodies : Bodies Cursor) where
  -- ---- a frame

  -- a frame behind its next unit
  abbrev pub frame_behind : Frame Cursor → Frame Cursor
  frame_behind f = record (frame_begins (next_of bodies f) f) { left = 0 }

  -- and behind one unit for each of these
  abbrev pub frame_past : List ℕ → Frame Cursor → Frame Cursor
  frame_past [] f = f
  frame_past (k ∷ ks) f = frame_past ks (frame_behind f)

  -- each of its next units is over in so many ticks, and all before `most` ticks are
  abbrev pub FramePasses : ℕ → List ℕ → Frame Cursor → Type 0
  FramePasses most [] f = Unit {0}
  FramePasses most (k ∷ ks) f = IsOver most k (ticks_of (next_of bodies f).unit) (next_of bodies f).unit × FramePasses (most - k) ks (frame_behind f)

  -- ---- a thread

  -- a thread with k ticks less of the unit that it is in or takes next
  abbrev pub thread_behind : ℕ → Thread Cursor → Thread Cursor
  thread_behind k th = let taken = (in_unit bodies th).thread in record taken { frames = frames_after k taken.frames }

  abbrev pub thread_past : List ℕ → Thread Cursor → Thread Cursor
  thread_past [] th = th
  thread_past (k ∷ ks) th = thread_past ks (thread_behind k th)

  abbrev pub ThreadPasses : ℕ → List ℕ → Thread Cursor → Type 0
  ThreadPasses most [] th = Unit {0}
  ThreadPasses most (k ∷ ks) th =
      IsOver most k (top_left (in_unit bodies th).thread.frames) (in_unit bodies th).unit × ThreadPasses (most - k) ks (thread_behind k th)

-- ---- what the calls come to, where each unit that is passed counts as one step

-- a frame goes past units, and begins one more
pub record HasBegun (code : NumberedBodies (List Op)) (most : ℕ) (taken : Taken) (old new : Frame Cursor) (steps_before steps_now : ℕ) : Type 0 where
  pub units : List ℕ
  pub each : FramePasses (flat_bodies code) most units old
  pub passed : taken.passed ≡ all_of units
  pub unit : unit_of code taken.unit ≡ (next_of (flat_bodies code) (frame_past (flat_bodies code) units old)).unit
  pub frame : new ≡ frame_begins (next_of (flat_bodies code) (frame_past (flat_bodies code) units old)) (frame_past (flat_bodies code) units old)
  pub left : taken.left ≡ new.left
  pub steps : steps_now ≡ steps_before + length units

-- a thread goes past units, and is in one more
pub record HasTaken (code : NumberedBodies (List Op)) (most : ℕ) (taken : Taken) (old new : Thread Cursor) (steps_before steps_now : ℕ) : Type 0 where
  pub units : List ℕ
  pub each : ThreadPasses (flat_bodies code) most units old
  pub passed : taken.passed ≡ all_of units
  pub unit : unit_of code taken.unit ≡ (in_unit (flat_bodies code) (thread_past (flat_bodies code) units old)).unit
  pub thread : new ≡ (in_unit (flat_bodies code) (thread_past (flat_bodies code) units old)).thread
  pub left : taken.left ≡ top_left new.frames
  pub steps : steps_now ≡ steps_before + length units

-- what both have in common with the thread before
pub record HasCountsOf (old new : Thread Cursor) : Type 0 where
  pub policy : new.policy ≡ old.policy
  pub ticks : new.ticks ≡ old.ticks
  pub slice : new.slice ≡ old.slice
  pub server : new.server ≡ old.server

-- a thread goes past units and runs in one more, the ticks of both are counted, and its interval and its server are these
pub record HasSpent (code : NumberedBodies (List Op)) (most : ℕ) (ran : Ran) (slice : ℕ) (server : Option ServerState) (old new : Thread Cursor) (steps_before steps_now : ℕ) : Type 0 where
  pub taken : Thread Cursor
  pub takes : HasTaken code most (record { passed = ran.passed; unit = ran.unit; left = top_left taken.frames }) old taken steps_before steps_now
  pub same : HasCountsOf old taken
  pub ticks : ran.ticks ≡ max 1 (min (most - ran.passed) (top_left taken.frames))
  pub within : ran.passed + ran.ticks ≤ max 1 most
  pub thread : new ≡ record taken { ticks = old.ticks + (ran.passed + ran.ticks); slice = slice; server = server; frames = frames_after ran.ticks taken.frames }
  pub complete : ran.is_complete ≡ (top_left new.frames == 0)
