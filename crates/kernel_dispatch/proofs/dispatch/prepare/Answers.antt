use Rattle.std.proofs.Common.{Option, arith, subst, ℕ}
use Rattle.rules_machine.specs.Servers.{opens}
use Rattle.rules_machine.specs.Ticks.{prepares}
use Rattle.rules_machine.proofs.BehindTicks.{opens_behind}
use Rattle.kernel_dispatch.proofs.LastRun.{given_now}
use Rattle.kernel_state.proofs.Does.{then_does}
use Rattle.kernel_state.specs.Does.{Does}
use Rattle.kernel_dispatch.proofs.dispatch.prepare.Goals as goal

pub open_run-requires-clause-early : goal.open_run-requires-clause-early
open_run-requires-clause-early g c =
    let now = given_now c.args.p.now c.dispatch.new.p c.head-to.result c.dispatch.ensures.state in
    omega (arith, now, c.requires.early)

pub returns-clause-does : goal.returns-clause-does
returns-clause-does g c =
    let to = c.head-to.result in
    subst (λ (o : Option ℕ). Does g.K.Sink.text g.K.Sink.faults (prepares o) c.args.p.now c.open_run.new.p c.args.out.now c.open_run.new.out) c.head-to.ensures.value
    (then_does {g = opens to} (opens_behind to) c.dispatch.ensures c.open_run.ensures)
