-- What holds of each thread before a sweep and after it: there is room for the frame of a signal-catching function wherever one may
-- begin, and a thread that waits has consumed nothing.
use Rattle.std.specs.Prelude.{◌≡◌, ◌≤◌, ◌<◌, ℕ, List, Some, length, true}
use Rattle.rules_bodies.specs.declared.cursor.Cursor.{Cursor}
use Rattle.rules_bodies.specs.declared.op.Op.{Op}
use Rattle.rules_bodies.specs.Flat as flat
use Rattle.rules_server.specs.declared.ServerKind.TheVariants as kind
use Rattle.rules_server.specs.Server.{ServerState, is_high}
use Rattle.rules_machine.specs.State.{Machine, Status, Thread}
use Rattle.rules_machine.specs.Threads.{action_of, is_runnable, thread_at}
use Rattle.laws_threads.specs.Frames.{AreInOrder}
use Rattle.kernel_state.specs.Caught.{CatchesBy}

-- what a server that is activated at once has consumed and not planned was consumed before now, by a thread that runs at its high priority
pub record ConsumesHigh (now : ℕ) (status : Status) (s : ServerState) : Type 0 where
  pub runs : is_runnable status ≡ true
  pub high : is_high s ≡ true
  pub before : s.activation < now

pub record IsVisitable (now : ℕ) (th : Thread Cursor) : Type 0 where
  pub ordered : AreInOrder th.frames
  pub consuming : (s : ServerState) → th.server ≡ Some s → s.kind ≡ kind.Sporadic → 1 ≤ s.consumed → ConsumesHigh now th.status s

-- whatever a sweep may ask of a machine over such code
pub record CanBeSwept (code : flat.NumberedBodies (List Op)) (m : Machine Cursor) : Type 0 where
  pub caught : (signal : ℕ) → CatchesBy (length code.handlers) (action_of m signal)
  pub each : (t : ℕ) → IsVisitable m.now (thread_at m t)
