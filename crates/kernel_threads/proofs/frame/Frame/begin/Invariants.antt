use Rattle.kernel_threads.specs.View.{frame_of}
use Rattle.kernel_threads.proofs.Passing.{HasGone}
use Rattle.kernel_threads.proofs.frame.Frame.begin.Given as goal

abbrev pub invariant-units : goal.invariant-units
invariant-units g l = HasGone l.code l.most l.rest l.fn.self (frame_of l.self-inside) l.fn.steps l.steps

abbrev pub decreases-units : goal.decreases-units
decreases-units g l = l.rest
