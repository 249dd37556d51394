use Rattle.std.proofs.Common.{refl, subst, sym}
use Rattle.kernel_seen.specs.FactSeen.{TellsIfAny, fact_seen}
use Rattle.kernel_looks.proofs.Looking.{over_failed, over_whole}
use Rattle.kernel_looks.proofs.desk.Desk.keep.Goals as goal

pub returns-then-failed-clause-over : goal.returns-then-failed-clause-over
returns-then-failed-clause-over c = over_failed c.args.next.now c.args.self.now _ refl c.know_use.ensures c.args.failed c.if-failed.true

pub returns-clause-over : goal.returns-clause-over
returns-clause-over c = over_whole c.args.next.now c.args.self.now _ (rw c.text.ensures at c.go_over.ensures.went) c.know_use.ensures c.args.failed c.if-failed.false

pub returns-clause-seen : goal.returns-clause-seen
returns-clause-seen c decls h tells =
    c.go_over.ensures.seen decls h (subst (TellsIfAny decls (fact_seen c.args.seen.now)) (sym c.text.ensures) (tells c.if-failed.false))
