-- What the generation of a signal counts on. This project's own.
use Rattle.std.specs.Prelude.{◌≤◌, ◌<◌, ◌^◌, length}
use Rattle.kernel_state.specs.Callers.{AllRest}
use Rattle.kernel_state.specs.Caught.{HasRoomToPend}
use Rattle.kernel_state.specs.Kernel.{Kernel}

-- a signal can be generated: whoever accepts it can wake, and there is room for its record
pub record CanGenerate (k : Kernel) : Type 0 where
  pub room : length k.direct < 512
  pub rests : AllRest k.machine
  pub pends : HasRoomToPend k.machine
  pub serial : k.machine.next_serial < 2 ^ 63
  pub early : k.machine.now ≤ 10 ^ 18
