use Rattle.std.proofs.Common.{◌≤◌, ◌∙◌, ap, arith}
use Rattle.rules_machine.specs.DueItems.{next_item}
use Rattle.kernel_table.specs.Table.{Table, machine_at}
use Rattle.kernel_table.specs.Times.{last_instant}
use Rattle.kernel_table.proofs.Coming.{first_is, none_is}
use Rattle.kernel_table.proofs.table.Table.first_due.Goals as goal

pub returns-in_err-id-clause-item : goal.returns-in_err-id-clause-item
returns-in_err-id-clause-item c =
    let s = c.self.inside in
    let small : c.args.now ≤ last_instant = omega (arith, c.get.ensures.value, c.get.ensures.range) in
    c.from_residual.ensures ∙ none_is s.threads s.chain.mutexes s.timers c.args.now s.wheel.dues c.self.invariant.tied.few c.self.invariant.armed small c.in_err-id.ensures.item
    ∙ ap (λ (table : Table). next_item (machine_at c.args.now table)) c.self.view_is

pub returns-clause-item : goal.returns-clause-item
returns-clause-item c =
    let s = c.self.inside in
    let small : c.args.now ≤ last_instant = omega (arith, c.get.ensures.value, c.get.ensures.range) in
    c.of.ensures.item ∙ first_is s.threads s.chain.mutexes s.timers c.args.now s.wheel.dues c.self.invariant.tied.few c.self.invariant.armed small c.in_ok-id.id.number c.in_ok-id.ensures.item
    ∙ ap (λ (table : Table). next_item (machine_at c.args.now table)) c.self.view_is
