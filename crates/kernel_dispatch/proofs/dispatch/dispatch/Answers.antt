use Rattle.std.proofs.Common.{sym, ◌∙◌}
use Rattle.rules_machine.specs.Turns.{◌▷◌}
use Rattle.kernel_dispatch.proofs.LastRun.{same_dispatched}
use Rattle.kernel_state.proofs.Does.{nothing_does}
use Rattle.rules_machine.specs.Servers.{closes}
use Rattle.rules_machine.specs.Dispatch.{dispatches}
use Rattle.kernel_dispatch.proofs.dispatch.dispatch.Goals as goal

pub returns-else-not-is_last : goal.returns-else-not-is_last
returns-else-not-is_last g c =
    let k = c.args.p.now in
    let to = c.args.to.now in
    nothing_does (λ s. s ▷ closes to ▷ dispatches to) k c.args.out.now (same_dispatched k to c.requires.latest (sym c.is_last.ensures ∙ c.if-not-is_last.false))
