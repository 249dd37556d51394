-- A kernel that a sweep could come to, or came to.
use Rattle.kernel_state.specs.Kernel.{Kernel}
use Rattle.laws_kernel.specs.Visitable.{CanBeSwept}

abbrev pub IsSweepable : Kernel → Type 0
IsSweepable k = CanBeSwept k.code k.machine
