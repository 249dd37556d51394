-- What the code asks of the states of a run, beside what the parts hold by themselves.
use Rattle.std.specs.Prelude.{◌≡◌, ◌<◌, ℕ, List, [], Some, length, true}
use Rattle.rules_bodies.specs.declared.cursor.Cursor.{Cursor}
use Rattle.rules_bodies.specs.declared.op.Op.{Op}
use Rattle.rules_bodies.specs.Flat as flat
use Rattle.rules_machine.specs.State.{Machine, Thread}
use Rattle.rules_machine.specs.Threads.{can_run, thread_at}
use Rattle.rules_machine.specs.Dispatch.{head}
use Rattle.rules_machine.specs.Turns.{turn_of}
use Rattle.rules_machine.specs.DueItems.{instant, items_done}
use Rattle.rules_machine.specs.Runs.{ticks}
use Rattle.rules_flat_code.specs.FlatBodies.{flat_bodies}
use Rattle.rules_leaps.specs.Quiet.{IsHandled}
use Rattle.rules_machine.specs.Bodies.{Bodies}
use Rattle.rules_flat_code.specs.KnownCalls.{Objects}
use Rattle.rules_flat_code.specs.Placed.{ArePlaced}
use Rattle.laws_machine.specs.Rest.{RunsAreLatest}
use Rattle.laws_threads.specs.Within.{IsWithin}
use Rattle.kernel_state.specs.Kernel.{Kernel, turn}
use Rattle.kernel_state.specs.Pending.{PendingFits, SignalsFit}
use Rattle.kernel_wakes.specs.Waits.{WaitsFit}
use Rattle.kernel_wakes.specs.Joins.{JoinsFit}
use Rattle.calls_items.specs.Handled.{CanHandle}
use Rattle.kernel_leaps.specs.Completes.{CanTick}
use Rattle.laws_kernel.specs.Counts.{HasSerials, counts_in, counts_of}
use Rattle.laws_kernel.specs.Visitable.{CanBeSwept}
use Rattle.kernel_leaps.specs.Good.{IsGood}

-- a thread that may have ticks
pub record FitsThread (o : Objects) (code : flat.NumberedBodies (List Op)) (now : ℕ) (th : Thread Cursor) : Type 0 where
  pub can : CanTick o (flat_bodies code) th
  pub placed : ArePlaced code th.frames
  pub room : IsWithin now th

-- a machine with so many objects, whose head may have ticks; a sweep could come, or came to it
pub record Fits (o : Objects) (code : flat.NumberedBodies (List Op)) (m : Machine Cursor) : Type 0 where
  pub items : CanHandle m
  pub joins : JoinsFit m
  pub top : (t : ℕ) → head m ≡ Some t → FitsThread o code m.now (thread_at m t)
  pub serial : HasSerials m
  pub threads : length m.threads ≡ o.threads
  pub counts : counts_of m ≡ counts_in o
  pub sweeps : CanBeSwept code m
  pub latest : RunsAreLatest m
  pub good : IsGood (flat_bodies code) m

-- a thread of a machine may have ticks
pub record FitsLeap (o : Objects) (code : flat.NumberedBodies (List Op)) (m : Machine Cursor) (t : ℕ) : Type 0 where
  pub thread : FitsThread o code m.now (thread_at m t)
  pub runs : can_run m t ≡ true
  pub waits : WaitsFit m
  pub joins : JoinsFit m
  pub pends : PendingFits m
  pub signals : SignalsFit m
  pub serial : HasSerials m
  pub threads : length m.threads ≡ o.threads

-- after some items of this instant
pub record ItemsFit (k : Kernel) (o : Objects) : Type 0 where
  pub each : (n : ℕ) → Fits o k.code (items_done (flat_bodies k.code) n (turn k)).machine

-- An instant from which the run may leap: its items are handled, nothing is left to settle, and no interval is used up.
pub record CanLeap (bodies : Bodies Cursor) (m : Machine Cursor) : Type 0 where
  pub still : (instant bodies (turn_of m)).direct ≡ []
  pub handled : IsHandled (instant bodies (turn_of m)).machine
  pub slices : (t : ℕ) → (thread_at (instant bodies (turn_of m)).machine t).slice < (instant bodies (turn_of m)).machine.quantum

-- after some ticks, and some items of the next
pub record StaysFit (k : Kernel) (o : Objects) : Type 0 where
  pub each : (n most : ℕ) → Fits o k.code (items_done (flat_bodies k.code) most (turn_of (ticks (flat_bodies k.code) n k.machine).machine)).machine
  pub leaps : (n : ℕ) → CanLeap (flat_bodies k.code) (ticks (flat_bodies k.code) n k.machine).machine
