use Rattle.std.proofs.Common.{Bool, false, not, refl, subst, sym, true, ◌≡◌, ◌∙◌}
use Rattle.rules_bodies.specs.declared.cursor.Cursor.{Cursor}
use Rattle.rules_machine.specs.State.{Thread}
use Rattle.rules_machine.specs.Threads.{is_live}
use Rattle.kernel_looks.specs.Nothing.{IsBare}
use Rattle.kernel_looks.proofs.NothingTold.{bare_anyway, dead_nothing}
use Rattle.kernel_looks.proofs.nothing.thread_tells_nothing.Goals as goal

not_true : (b : Bool) → not b ≡ true → b ≡ false
not_true true e = sym e
not_true false e = refl

pub returns-then-is_bare : goal.returns-then-is_bare
returns-then-is_bare c e = bare_anyway c.args.parts.now.machine c.args.t c.args.row (subst (λ (th : Thread Cursor). IsBare c.args.row th) c.thread-thread.ensures (c.is_bare.ensures c.if-is_bare.true))

pub returns : goal.returns
returns c e =
    let same = c.thread-thread.ensures in
    dead_nothing c.args.parts.now.machine c.args.t c.args.row (subst (λ (th : Thread Cursor). is_live th.status ≡ false) same (sym c.is_live.ensures ∙ c.if-is_live.false))
    (sym c.is_status.ensures ∙ not_true c.is_status.result e)
