use Rattle.std.proofs.Common.{sym}
use Rattle.kernel_state.specs.Kernel.{turn}
use Rattle.calls_sync.proofs.Released.{handed_cancelled, handed_over}
use Rattle.kernel_state.proofs.Does.{same_does}
use Rattle.calls_sync.proofs.mutexes.hand_over.Goals as goal

pub returns-then-is_cancelled_waiter : goal.returns-then-is_cancelled_waiter
returns-then-is_cancelled_waiter g c =
    same_does (sym (handed_cancelled (turn c.args.p.now) c.args.k c.args.w c.requires.best c.if-is_cancelled_waiter.ensures)) c.wake_cancelled_owner.ensures

pub returns-else-is_cancelled_waiter : goal.returns-else-is_cancelled_waiter
returns-else-is_cancelled_waiter g c =
    same_does (sym (handed_over (turn c.args.p.now) c.args.k c.args.w c.requires.best _ c.if-is_cancelled_waiter.ensures c.answer_as_owner-answer.ensures)) c.wake_owner.ensures
