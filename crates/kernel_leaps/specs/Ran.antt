-- A kernel after some ticks, and the text of a run.
use Rattle.std.specs.Prelude.{ℕ, List, ◌++◌}
use Rattle.words_trace.specs.Text.{lines}
use Rattle.rules_machine.specs.Machine.{closing}
use Rattle.rules_machine.specs.Runs.{ticks}
use Rattle.rules_flat_code.specs.FlatBodies.{flat_bodies}
use Rattle.kernel_state.specs.Kernel.{Kernel}

abbrev pub ticked_by : ℕ → Kernel → Kernel
ticked_by n k = record k { machine = (ticks (flat_bodies k.code) n k.machine).machine }

-- the text of a run of n ticks, with the closing lines
abbrev pub kernel_trace : Kernel → ℕ → List ℕ
kernel_trace k n = let done = ticks (flat_bodies k.code) n k.machine in lines k.names done.events ++ closing k.names done.machine
