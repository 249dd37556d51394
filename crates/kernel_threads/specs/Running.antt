-- The units that a thread passes without a break, and the one that it is in then. All of it is this project's own.
use Rattle.std.specs.Prelude.{Bool, List, Option, None, Some, [], false, true, ℕ, ◌≡◌, ◌≤◌, ◌<◌, ◌+◌, ◌-◌, ◌^◌, ◌==◌, ◌∷◌, length}
use Rattle.rules_bodies.specs.declared.cursor.Cursor.{Cursor}
use Rattle.rules_bodies.specs.declared.op.Op.{Op}
use Rattle.rules_bodies.specs.declared.unit.Unit as unit_type
use Rattle.rules_bodies.specs.declared.unit.Unit.TheVariants as unit
use Rattle.script_code.specs.Fetched.{unit_of}
use Rattle.rules_bodies.specs.Flat.{NumberedBodies}
use Rattle.rules_server.specs.Server.{ServerState}
use Rattle.rules_machine.specs.Bodies.{Bodies}
use Rattle.rules_machine.specs.Servers.{has_high}
use Rattle.rules_machine.specs.State.{Thread}
use Rattle.rules_machine.specs.Threads.{top_left}
use Rattle.rules_machine.specs.Units.{in_unit}
use Rattle.rules_flat_code.specs.FlatBodies.{flat_bodies}
use Rattle.rules_leaps.specs.Quiet.{after_ticks}
use Rattle.kernel_threads.specs.declared.ran.Ran.{Ran}
use Rattle.kernel_threads.specs.Lasting.{lasts_by, used_up}

-- whether a unit does nothing at its end
abbrev pub only_takes_time : unit_type.Unit → Bool
only_takes_time (unit.Run n) = true
only_takes_time (unit.Make c) = false
only_takes_time unit.Jump = true
only_takes_time unit.Finish = false

-- the ticks of some units in all
abbrev pub all_of : List ℕ → ℕ
all_of [] = 0
all_of (k ∷ ks) = k + all_of ks

module _ (bodies : Bodies Cursor) where
  -- a thread after so many ticks of the unit that it is in or takes next
  abbrev pub run_for : ℕ → Thread Cursor → Thread Cursor
  run_for k th = after_ticks k (in_unit bodies th).thread

  -- and after units of so many ticks each
  abbrev pub past : List ℕ → Thread Cursor → Thread Cursor
  past [] th = th
  past (k ∷ ks) th = past ks (run_for k th)

  -- A unit of k ticks, of a thread that may run for `most`, that is over before these are: it only takes time, and uses up neither the
  -- interval of its thread nor its capacity.
  pub record IsPassed (most quantum k : ℕ) (th : Thread Cursor) : Type 0 where
    pub idle : only_takes_time (in_unit bodies th).unit ≡ true
    pub long : k ≡ lasts_by most quantum (in_unit bodies th).thread
    pub within : k < most
    pub left : used_up (has_high th.server) quantum (run_for k th) ≡ false

  -- each of some units, one after another
  abbrev pub ArePassed : ℕ → ℕ → List ℕ → Thread Cursor → Type 0
  ArePassed most quantum [] th = Unit {0}
  ArePassed most quantum (k ∷ ks) th = IsPassed most quantum k th × ArePassed (most - k) quantum ks (run_for k th)

-- What running by itself for at most so many ticks, but one at least, comes to: the units that are passed, each of them one step, and then
-- ticks of one more.
pub record HasRun (code : NumberedBodies (List Op)) (most quantum : ℕ) (ran : Ran) (old new : Thread Cursor) (steps_before steps_now : ℕ) : Type 0 where
  pub units : List ℕ
  pub each : ArePassed (flat_bodies code) most quantum units old
  pub passed : ran.passed ≡ all_of units
  pub unit : unit_of code ran.unit ≡ (in_unit (flat_bodies code) (past (flat_bodies code) units old)).unit
  pub ticks : ran.ticks ≡ lasts_by (most - ran.passed) quantum (in_unit (flat_bodies code) (past (flat_bodies code) units old)).thread
  pub thread : new ≡ run_for (flat_bodies code) ran.ticks (past (flat_bodies code) units old)
  pub complete : ran.is_complete ≡ (top_left new.frames == 0)
  pub high : ran.was_high ≡ has_high old.server
  pub steps : steps_now ≡ steps_before + length units

-- ---- the room for it

abbrev pub ServerHasTime : ℕ → Option ServerState → Type 0
ServerHasTime k None = Unit {0}
ServerHasTime k (Some s) = s.high_total + k ≤ 10 ^ 18

-- so many ticks more can be counted
pub record HasTime (k : ℕ) (th : Thread Cursor) : Type 0 where
  pub ticks : th.ticks + k ≤ 2 ^ 63
  pub slice : th.slice + k ≤ 2 ^ 63
  pub server : ServerHasTime k th.server
