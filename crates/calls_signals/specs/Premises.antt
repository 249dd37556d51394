-- What the calls that send signals count on. This project's own.
use Rattle.std.specs.Prelude.{◌≡◌, ◌≤◌, ◌<◌, ◌^◌, false, length}
use Rattle.rules_machine.specs.Signals.{is_full}
use Rattle.kernel_state.specs.Callers.{AllRest}
use Rattle.kernel_state.specs.Caught.{HasRoomToPend}
use Rattle.kernel_state.specs.Kernel.{Kernel}

-- a call can send a signal: whoever accepts it can wake, and there is room for its record where the records are not as many as can be
pub record CanSend (k : Kernel) : Type 0 where
  pub room : length k.direct < 512
  pub rests : AllRest k.machine
  pub pends : is_full k.machine ≡ false → HasRoomToPend k.machine
  pub serial : k.machine.next_serial < 2 ^ 63
  pub early : k.machine.now ≤ 10 ^ 18
