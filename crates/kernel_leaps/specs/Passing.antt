-- A thread that passes units and then leaps. This project's own.
use Rattle.std.specs.Prelude.{◌≡◌, ◌≤◌, ◌+◌, ◌-◌, ◌^◌, ℕ, List, [], Option, Some, false, length, max}
use Rattle.rules_bodies.specs.declared.cursor.Cursor.{Cursor}
use Rattle.rules_machine.specs.Bodies.{Bodies}
use Rattle.rules_machine.specs.Eventful.{tick_matters}
use Rattle.rules_machine.specs.Servers.{has_high}
use Rattle.rules_machine.specs.State.{Thread}
use Rattle.rules_machine.specs.Ticks.{tick_charged}
use Rattle.parts_tracer.specs.declared.tracer.Tracer.{Tracer}
use Rattle.parts_tracer.specs.Tells.{Tells}
use Rattle.rules_machine.specs.Threads.{thread_at}
use Rattle.rules_machine.specs.Turns.{with_thread}
use Rattle.rules_machine.specs.Units.{in_unit}
use Rattle.rules_flat_code.specs.FlatBodies.{flat_bodies}
use Rattle.rules_leaps.specs.Leap.{leap_runs}
use Rattle.kernel_threads.specs.Lasting.{lasts_by}
use Rattle.kernel_threads.specs.Running.{ArePassed, all_of, past}
use Rattle.kernel_wakes.specs.Calls.{objects_in}
use Rattle.kernel_state.specs.Kernel.{Kernel, after, told}
use Rattle.kernel_settling.specs.Stood.{StoodRight}
use Rattle.kernel_leaps.specs.Fits.{FitsLeap}
use Rattle.kernel_leaps.specs.Landing.{IsSweepable}

-- a kernel behind some units of a thread, of so many ticks each, in which nothing else went on
abbrev pub passed_by : ℕ → List ℕ → Kernel → Kernel
passed_by t units k =
    record k { machine = record (with_thread t (past (flat_bodies k.code) units) k.machine) { now = k.machine.now + all_of units } }

-- how long the thread goes on
abbrev pub leap_of : ℕ → ℕ → Kernel → ℕ
leap_of near t k = lasts_by near k.machine.quantum (in_unit (flat_bodies k.code) (thread_at k.machine t)).thread

-- a thread may leap for at most so many ticks
pub record MayLeap (near t : ℕ) (k : Kernel) : Type 0 where
  pub stood : StoodRight k.machine
  pub fits : FitsLeap (objects_in k) k.code k.machine t
  pub lands : IsSweepable (after (leap_runs (flat_bodies k.code) (leap_of near t k) (Some t)) k)
  pub early : k.machine.now + max 1 near ≤ 10 ^ 18

-- and from behind whichever units it passes
abbrev pub MayLeapOn : ℕ → ℕ → Kernel → Type 0
MayLeapOn near t k =
    (units : List ℕ) → ArePassed (flat_bodies k.code) near k.machine.quantum units (thread_at k.machine t) → MayLeap (near - all_of units) t (passed_by t units k)

-- so many ticks of a thread: the units that it passed, and the leap from behind them, each of them one step
pub record HasLeapt {K : Type 0} (text : K → Option (List ℕ)) (faults : K → ℕ) (near t ticks : ℕ) (old new : Kernel) (a b : Tracer K) (steps_before steps_now : ℕ) : Type 0 where
  pub units : List ℕ
  pub each : ArePassed (flat_bodies old.code) near old.machine.quantum units (thread_at old.machine t)
  pub all : ticks ≡ all_of units + leap_of (near - all_of units) t (passed_by t units old)
  pub state : new ≡ after (leap_runs (flat_bodies old.code) (leap_of (near - all_of units) t (passed_by t units old)) (Some t)) (passed_by t units old)
  pub told : Tells text faults old.names a b (told (leap_runs (flat_bodies old.code) (leap_of (near - all_of units) t (passed_by t units old)) (Some t)) (passed_by t units old))
  pub steps : steps_now ≡ steps_before + length units + 1

-- one tick of a thread, of the unit that it is in or takes next, neither completes the unit nor uses up an interval or a capacity
abbrev pub IsQuietTick : Bodies Cursor → ℕ → Thread Cursor → Type 0
IsQuietTick bodies quantum th = tick_matters (has_high th.server) quantum (tick_charged (in_unit bodies th).thread) ≡ false

-- a thread that runs for at most so many ticks passes no unit in them
abbrev pub PassesNoUnit : ℕ → ℕ → Kernel → Type 0
PassesNoUnit near t k = (units : List ℕ) → ArePassed (flat_bodies k.code) near k.machine.quantum units (thread_at k.machine t) → units ≡ []
