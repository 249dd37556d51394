-- What holds of a kernel between runs.
use Rattle.std.specs.Prelude.{◌≡◌, []}
use Rattle.kernel_state.specs.Kernel.{Kernel}
use Rattle.kernel_settling.specs.Stood.{StoodRight}
use Rattle.kernel_wakes.specs.Calls.{objects_in}
use Rattle.kernel_leaps.specs.Fits.{StaysFit}

-- Nothing is left to settle, each thread stands where its priority says, and so it will be at each later instant.
pub record IsReady (k : Kernel) : Type 0 where
  pub quiet : k.direct ≡ []
  pub stood : StoodRight k.machine
  pub fits : StaysFit k (objects_in k)
