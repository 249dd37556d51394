use Rattle.std.proofs.Common.{sym, ◌∙◌}
use Rattle.kernel_table.proofs.RealItems.{wait_known}
use Rattle.kernel_table.proofs.table.Table.first_real_wait.Goals as goal

pub returns-in_err-number-clause-first : goal.returns-in_err-number-clause-first
returns-in_err-number-clause-first c =
    rw (c.from_residual.ensures, ← c.self.view_is) (λ u low. sym (c.self.invariant.kept.of_threads u) ∙ c.in_err-number.ensures.first u low)

pub returns-in_err-number-clause-known : goal.returns-in_err-number-clause-known
returns-in_err-number-clause-known c = rw c.from_residual.ensures tt

pub returns-clause-first : goal.returns-clause-first
returns-clause-first c =
    let kept = c.self.invariant.kept in
    let first = c.in_ok-number.ensures.first in
    rw (c.tid_of.ensures, ← c.self.view_is)
    (record { low = first.low; itself = sym (kept.of_threads c.in_ok-number.number) ∙ first.itself; between = λ u low lt. sym (kept.of_threads u) ∙ first.between u low lt })

pub returns-clause-known : goal.returns-clause-known
returns-clause-known c =
    let n = c.in_ok-number.number in
    rw (c.tid_of.ensures, ← c.self.view_is) (wait_known c.self.inside.threads n (sym (c.self.invariant.kept.of_threads n) ∙ c.in_ok-number.ensures.first.itself))
