use Rattle.std.proofs.Common.{◌≡◌, ◌∙◌, subst, sym, true}
use Rattle.rules_bodies.specs.declared.cursor.Cursor.{Cursor}
use Rattle.rules_machine.specs.State.{Thread}
use Rattle.rules_machine.specs.Threads.{is_runnable}
use Rattle.kernel_seen.proofs.Runnable.{ready_seen, runnable_told}
use Rattle.kernel_seen.proofs.seen.is_ready_as_seen.Goals as goal

pub returns : goal.returns
returns c e =
    let m = c.args.parts.now.machine in
    let runs = subst (λ (th : Thread Cursor). is_runnable th.status ≡ true) c.thread.ensures (sym c.is_runnable.ensures ∙ c.if-not-is_runnable.false) in
    ready_seen m c.args.t c.args.seen.now c.requires.ready (c.has_priorities.ensures.assigned e) (c.has_priorities.ensures.exec e) ∙ sym (runnable_told m c.args.t _ runs)
