use Rattle.std.proofs.Common.{◌≤◌, ◌∙◌, ap, arith}
use Rattle.rules_machine.specs.Agenda.{agenda}
use Rattle.kernel_table.specs.Table.{Table, machine_with}
use Rattle.kernel_table.specs.Times.{in_time, last_instant, least_due}
use Rattle.kernel_table.proofs.Least.{least_comes, nothing_comes}
use Rattle.kernel_table.proofs.table.Table.next_due.Goals as goal

pub returns-in_err-next : goal.returns-in_err-next
returns-in_err-next c =
    let s = c.self.inside in
    c.from_residual.ensures ∙ nothing_comes s.threads s.chain.mutexes s.timers s.wheel.dues c.self.invariant.tied.few c.self.invariant.armed c.in_err-next.ensures
    ∙ ap (λ (table : Table). in_time (least_due (agenda (machine_with table.threads table.mutexes table.timers)))) c.self.view_is

pub returns : goal.returns
returns c =
    let s = c.self.inside in
    let small : c.in_ok-next.next ≤ last_instant = omega (arith, c.get.ensures.value, c.get.ensures.range) in
    least_comes s.threads s.chain.mutexes s.timers s.wheel.dues c.self.invariant.tied.few c.self.invariant.armed c.in_ok-next.next small c.in_ok-next.ensures
    ∙ ap (λ (table : Table). in_time (least_due (agenda (machine_with table.threads table.mutexes table.timers)))) c.self.view_is
