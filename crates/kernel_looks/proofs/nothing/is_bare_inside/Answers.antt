use Rattle.std.proofs.Common.{Bool, false, not, refl, subst, sym, true, ◌≡◌, ◌∙◌}
use Rattle.rules_bodies.specs.declared.cursor.Cursor.{Cursor}
use Rattle.rules_machine.specs.State.{Thread}
use Rattle.rules_machine.specs.Threads.{is_live}
use Rattle.kernel_looks.specs.Nothing.{IsBare}
use Rattle.kernel_looks.proofs.BareRows.{inner_other}
use Rattle.kernel_looks.proofs.NothingTold.{bare_anyway, dead_nothing}
use Rattle.kernel_looks.proofs.nothing.is_bare_inside.Goals as goal

not_true : (b : Bool) → not b ≡ true → b ≡ false
not_true true e = sym e
not_true false e = refl

pub returns-then-is_bare_in_each : goal.returns-then-is_bare_in_each
returns-then-is_bare_in_each c e row inner =
    bare_anyway c.args.parts.now.machine c.args.t row
    (subst (λ (th : Thread Cursor). IsBare row th) c.thread-thread.ensures (c.is_bare_in_each.ensures c.if-is_bare_in_each.true row inner))

pub returns : goal.returns
returns c e row inner =
    let same = c.thread-thread.ensures in
    dead_nothing c.args.parts.now.machine c.args.t row (subst (λ (th : Thread Cursor). is_live th.status ≡ false) same (sym c.is_live.ensures ∙ not_true c.is_live.result e)) (inner_other row inner)
