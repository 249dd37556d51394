use Rattle.std.proofs.Common.{subst, sym, ◌≡◌, ◌∙◌}
use Rattle.rules_machine.specs.State.{Wait}
use Rattle.parts_waiters.specs.Ties.{is_object, object_of}
use Rattle.parts_waiters.specs.declared.WaitObj.{WaitObj}
use Rattle.kernel_lines.specs.InLine.{stands_in}
use Rattle.kernel_looks.proofs.NothingTold.{nobody_stands, stands_for}
use Rattle.kernel_looks.proofs.nothing.nobody_waits.Goals as goal

pub returns-in-None : goal.returns-in-None
returns-in-None c e = nobody_stands c.args.parts.now.machine (stands_in c.args.line.now)
    (sym c.in-None.is ∙ c.best_waiter.ensures.value (stands_in c.args.line.now) (subst (λ (o : WaitObj). (w : Wait) → stands_in c.args.line.now w ≡ is_object o (object_of w)) (sym c.wait_obj.ensures) (stands_for c.args.line.now)))
