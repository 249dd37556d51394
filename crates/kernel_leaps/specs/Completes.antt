-- What a thread asks for as it completes a unit.
use Rattle.std.specs.Prelude.{◌≡◌, ◌<◌, ◌^◌, ℕ, length, true}
use Rattle.rules_bodies.specs.declared.cursor.Cursor.{Cursor}
use Rattle.rules_bodies.specs.declared.unit.Unit as unit_type
use Rattle.rules_bodies.specs.declared.unit.Unit.TheVariants as unit
use Rattle.rules_machine.specs.Bodies.{Bodies}
use Rattle.rules_machine.specs.State.{Thread}
use Rattle.rules_machine.specs.Threads.{can_run}
use Rattle.rules_machine.specs.Units.{in_unit}
use Rattle.rules_flat_code.specs.KnownCalls.{Objects}
use Rattle.kernel_threads.specs.Handlers.{CanEnd}
use Rattle.kernel_state.specs.Kernel.{Kernel}
use Rattle.kernel_state.specs.Pending.{PendingFits, SignalsFit}
use Rattle.kernel_wakes.specs.Waits.{WaitsFit}
use Rattle.kernel_wakes.specs.Joins.{JoinsFit}
use Rattle.kernel_wakes.specs.Calls.{CanMake}

-- A thread can complete a unit.
abbrev pub CanComplete : Objects → Thread Cursor → unit_type.Unit → Type 0
CanComplete o th (unit.Run n) = Unit {0}
CanComplete o th (unit.Make c) = CanMake o th c
CanComplete o th unit.Jump = Unit {0}
CanComplete o th unit.Finish = Unit {0}

-- a thread can have ticks
pub record CanTick (o : Objects) (bodies : Bodies Cursor) (th : Thread Cursor) : Type 0 where
  pub ends : th.is_ending ≡ true → CanEnd o.cleanups th
  pub completes : CanComplete o (in_unit bodies th).thread (in_unit bodies th).unit

-- What an effect of a thread's unit may count on: the thread runs, blocked threads have used nothing,
-- a thread that waits to join another is blocked, there is a place for what becomes pending, and a serial is left.
pub record CanAct (k : Kernel) (t : ℕ) : Type 0 where
  pub threads : length k.machine.threads ≡ length k.names
  pub runs : can_run k.machine t ≡ true
  pub waits : WaitsFit k.machine
  pub joins : JoinsFit k.machine
  pub pends : PendingFits k.machine
  pub signals : SignalsFit k.machine
  pub serial : k.machine.next_serial < 2 ^ 62
