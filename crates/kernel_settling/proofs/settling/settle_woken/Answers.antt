use Rattle.std.proofs.Common.{◌∙◌, ap, sym}
use Rattle.rules_bodies.specs.declared.cursor.Cursor.{Cursor}
use Rattle.rules_lists.specs.Lists.{to_tail}
use Rattle.rules_machine.specs.Priorities.{exec}
use Rattle.rules_machine.specs.State.{Thread}
use Rattle.rules_machine.specs.Threads.{is_runnable}
use Rattle.kernel_state.specs.Kernel.{Kernel, with_lists}
use Rattle.kernel_settling.proofs.OneSettles.{one_rises}
use Rattle.kernel_settling.proofs.settling.settle_woken.Goals as goal

pub returns-then-is_runnable : goal.returns-then-is_runnable
returns-then-is_runnable c =
    let k = c.args.p.now in let t = c.args.t in
    let runs = sym (ap (λ (th : Thread Cursor). is_runnable th.status) c.thread.ensures) ∙ sym c.is_runnable.ensures ∙ c.if-is_runnable.true in
    c.put_last.ensures ∙ ap (λ (x : Kernel). with_lists (to_tail t (exec x.machine t)) x) c.clear_direct.ensures
    ∙ sym (one_rises k t c.requires.fits c.requires.first c.requires.alone c.know_lists.ensures (c.moves_alone.ensures c.if-moves_alone.true) runs)
